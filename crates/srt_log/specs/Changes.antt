-- What changed at a route between two snapshots.
use Rattle.std.specs.Prelude.{◌≡◌, ℕ, zero, suc, ◌+◌, ◌-◌, ◌/◌, ◌%◌, Bool, false, not, ◌==◌, ◌&&◌, ◌||◌, true, nat_lt, List, Option, None, Some}
use Rattle.std.specs.Prelude.{is_some, slice_index_or, if◌then◌else◌}
use Rattle.srt_route.specs.declared.view.SessionView.{SessionView}
use Rattle.srt_log.specs.declared.snapshots.SlotSession.{SlotSession}
use Rattle.srt_log.specs.declared.snapshots.SlotSession.TheVariants as sessions
use Rattle.srt_log.specs.declared.snapshots.RouteSnapshot.{RouteSnapshot}
use Rattle.srt_log.specs.declared.events.Trouble.{Trouble}
use Rattle.srt_log.specs.declared.events.Trouble.TheVariants.{Misdirected, FullWindow, LatePackets}
use Rattle.srt_log.specs.declared.changes.Change.{Change}
use Rattle.srt_log.specs.declared.changes.Change.TheVariants.{Gone, Ended, Opened, TookOver, Troubled, Unseen}
use Rattle.srt_log.specs.Snapshots.{view_of, count_of}

-- two states are of the same session, two snapshots of a slot have the same session
abbrev pub is_same_view : (old new : SessionView) → Bool
is_same_view old new = (old.id == new.id) && (old.opened == new.opened)

abbrev pub is_same : (old new : Option SlotSession) → Bool
is_same None new = false
is_same (Some old) None = false
is_same (Some old) (Some new) = is_same_view (view_of old) (view_of new)

-- a slot has an open session, the active publisher, a session that the earlier snapshot hasn't
abbrev pub is_open : Option SlotSession → Bool
is_open None = false
is_open (Some (sessions.Open view)) = true
is_open (Some (sessions.Ended session)) = false

abbrev pub is_active : Option SlotSession → Bool
is_active None = false
is_active (Some session) = (view_of session).is_active

abbrev pub is_new : (old new : Option SlotSession) → Bool
is_new old new = is_some new && not (is_same old new)

-- the end of the session that was open in a slot
abbrev pub ended_at : (slot : ℕ) → (old new : Option SlotSession) → Option Change
ended_at slot old new =
    if not (is_open old) then None
    else (if not (is_same old new) then Some (Gone slot)
    else (if is_open new then None else Some (Ended slot)))

-- the opening of a session there, and its end if it has ended again
abbrev pub opened_at : (slot : ℕ) → (old new : Option SlotSession) → Option Change
opened_at slot old new = if is_new old new then Some (Opened slot) else None

abbrev pub ended_at_once : (slot : ℕ) → (old new : Option SlotSession) → Option Change
ended_at_once slot old new = if not (is_new old new) then None else (if is_open new then None else Some (Ended slot))

-- a publisher that stood by is the active one
abbrev pub took_over_at : (slot : ℕ) → (old new : Option SlotSession) → Option Change
took_over_at slot old new =
    if not (is_same old new) then None
    else (if is_active old || not (is_active new) || not (is_open new) then None else Some (TookOver slot))

-- this was wrong with a session's stream
abbrev pub has_trouble : Trouble → Option SlotSession → Bool
has_trouble trouble None = false
has_trouble trouble (Some session) = not (count_of trouble (view_of session).traffic == 0)

-- each slot has three steps, one for each trouble
abbrev pub trouble_at : (step : ℕ) → Trouble
trouble_at step = if step % 3 == 0 then Misdirected else (if step % 3 == 1 then FullWindow else LatePackets)

-- it is wrong for the first time
abbrev pub troubled_at : (slot : ℕ) → Trouble → (old new : Option SlotSession) → Option Change
troubled_at slot trouble old new =
    if not (has_trouble trouble new) then None
    else (if is_same old new && has_trouble trouble old then None else Some (Troubled slot trouble))

-- the session of a slot
abbrev pub slot_at : (slot : ℕ) → List (Option SlotSession) → Option SlotSession
slot_at slot slots = slice_index_or slots slot None

-- how many of the first slots have a new session
unfoldable pub opened_below : (count : ℕ) → (old new : List (Option SlotSession)) → ℕ
opened_below zero old new = 0
opened_below (suc count) old new = opened_below count old new + (if is_new (slot_at count old) (slot_at count new) then 1 else 0)

-- how many sessions opened and ended between the snapshots, if there were any
abbrev pub unseen_of : (opened : ℕ) → Option Change
unseen_of opened = if opened == 0 then None else Some (Unseen opened)

unfoldable pub unseen : (old new : RouteSnapshot) → Option Change
unseen old new = unseen_of (new.opened - old.opened - opened_below 17 old.slots new.slots)

-- what changed between two snapshots, step by step
abbrev pub change_at : (old new : RouteSnapshot) → (step : ℕ) → Option Change
change_at old new step =
    if nat_lt step 17 then ended_at step (slot_at step old.slots) (slot_at step new.slots)
    else (if nat_lt step 51 then
    (if step % 2 == 1 then opened_at ((step - 17) / 2) (slot_at ((step - 17) / 2) old.slots) (slot_at ((step - 17) / 2) new.slots)
    else ended_at_once ((step - 17) / 2) (slot_at ((step - 17) / 2) old.slots) (slot_at ((step - 17) / 2) new.slots))
    else (if nat_lt step 68 then took_over_at (step - 51) (slot_at (step - 51) old.slots) (slot_at (step - 51) new.slots)
    else (if nat_lt step 119 then troubled_at ((step - 68) / 3) (trouble_at (step - 68)) (slot_at ((step - 68) / 3) old.slots)
    (slot_at ((step - 68) / 3) new.slots)
    else (if step == 119 then unseen old new else None))))

-- two snapshots that are equal have nothing between them
abbrev pub NothingBetweenEqual : Type 0
NothingBetweenEqual = (snapshot : RouteSnapshot) (step : ℕ) → change_at snapshot snapshot step ≡ None
