-- What the log states of a change.
use Rattle.std.specs.Prelude.{ℕ, ◌-◌, ◌/◌, Bool, true, false, not, ◌&&◌, nat_lt, List, Option, None, Some, slice_index_or, if◌then◌else◌}
use denote.Ref.{Bor}
use Rattle.srt_types.specs.declared.shared.Role.{Role}
use Rattle.srt_types.specs.declared.shared.Role.TheVariants.{Publish, Request}
use Rattle.srt_log.specs.declared.events.Caller.{Caller}
use Rattle.srt_log.specs.declared.events.EndReason.TheVariants as reasons
use Rattle.srt_log.specs.declared.events.Trouble.{Trouble}
use Rattle.srt_log.specs.declared.events.LogEvent.{LogEvent}
use Rattle.srt_log.specs.declared.events.LogEvent.TheVariants as events
use Rattle.srt_route.specs.declared.ledger.EndedSession.{EndedSession}
use Rattle.srt_route.specs.declared.view.SessionView.{SessionView}
use Rattle.srt_log.specs.declared.snapshots.SlotSession.{SlotSession}
use Rattle.srt_log.specs.declared.snapshots.SlotSession.TheVariants as sessions
use Rattle.srt_log.specs.declared.snapshots.RouteSnapshot.{RouteSnapshot}
use Rattle.srt_log.specs.declared.changes.Change.{Change}
use Rattle.srt_log.specs.declared.changes.Change.TheVariants.{Gone, Ended, Opened, TookOver, Troubled, Unseen}
use Rattle.srt_log.specs.Snapshots.{view_of, clock_of, reason_of, latency_of}
use Rattle.srt_log.specs.Changes.{slot_at, is_same_view}

-- the session in a slot
abbrev pub session_at : RouteSnapshot → (slot : ℕ) → Option SlotSession
session_at snapshot slot = if nat_lt slot 17 then slot_at slot snapshot.slots else None

-- the session that ended last in a slot, if it is this one
abbrev pub last_end : RouteSnapshot → (slot : ℕ) → Option EndedSession
last_end snapshot slot = if nat_lt slot 17 then slice_index_or snapshot.ended slot None else None

abbrev pub if_same : SessionView → Option EndedSession → Option EndedSession
if_same view None = None
if_same view (Some x) = if is_same_view view x.view then Some x else None

-- the end of the session that the earlier of two snapshots has in a slot, if it was the last one there
abbrev pub end_in : RouteSnapshot → (slot : ℕ) → Option SlotSession → Option EndedSession
end_in snapshot slot None = None
end_in snapshot slot (Some session) = if_same (view_of session) (last_end snapshot slot)

abbrev pub end_between : (old new : RouteSnapshot) → (slot : ℕ) → Option EndedSession
end_between old new slot = end_in new slot (session_at old slot)

-- a session as a line names it
abbrev pub caller_of : Bor (List ℕ) → SessionView → Caller
caller_of route view = record { route = route; role = view.role; peer = view.peer; id = view.id }

-- a publisher that isn't the active one
abbrev pub is_publisher : Role → Bool
is_publisher Publish = true
is_publisher Request = false

abbrev pub stands_by : SessionView → Bool
stands_by view = is_publisher view.role && not view.is_active

-- an opening, an end, the end of a session of which only the earlier snapshot is known, a take-over; times in milliseconds
abbrev pub opened_event : Bor (List ℕ) → SessionView → LogEvent
opened_event route view = events.Opened (caller_of route view) (stands_by view) (latency_of view.latency_ms) view.key_length

abbrev pub end_event : Bor (List ℕ) → (stops : Bool) → EndedSession → LogEvent
end_event route stops x =
    events.Ended (caller_of route x.view) (reason_of stops x.cause) ((x.moment - x.view.opened) / 1000) x.view.traffic
    (clock_of x.view.traffic (x.moment - x.view.opened))

abbrev pub ended_event : Bor (List ℕ) → (stops : Bool) → SlotSession → Option LogEvent
ended_event route stops (sessions.Open view) = None
ended_event route stops (sessions.Ended x) = Some (end_event route stops x)

abbrev pub gone_event : Bor (List ℕ) → SessionView → (moment : ℕ) → LogEvent
gone_event route view moment =
    events.Ended (caller_of route view) reasons.Unknown ((moment - view.opened) / 1000) view.traffic
    (clock_of view.traffic (moment - view.opened))

-- a session whose slot has another one since: by its end, if that is known
abbrev pub replaced_event : Bor (List ℕ) → (old new : RouteSnapshot) → SessionView → Option EndedSession → LogEvent
replaced_event route old new view None = gone_event route view old.moment
replaced_event route old new view (Some x) = end_event route new.stops x

abbrev pub took_over_event : Bor (List ℕ) → SessionView → LogEvent
took_over_event route view = events.TookOver (caller_of route view)

abbrev pub troubled_event : Bor (List ℕ) → SessionView → Trouble → LogEvent
troubled_event route view trouble = events.Troubled (caller_of route view) trouble

-- what is logged of a session, if there is one
abbrev pub of_session : (SlotSession → Option LogEvent) → Option SlotSession → Option LogEvent
of_session f None = None
of_session f (Some session) = f session

-- what is logged of a change between two snapshots
abbrev pub event_of : Bor (List ℕ) → (old new : RouteSnapshot) → Change → Option LogEvent
event_of route old new (Gone slot) =
    of_session (λ session. Some (replaced_event route old new (view_of session) (end_between old new slot))) (session_at old slot)
event_of route old new (Ended slot) = of_session (λ session. ended_event route new.stops session) (session_at new slot)
event_of route old new (Opened slot) = of_session (λ session. Some (opened_event route (view_of session))) (session_at new slot)
event_of route old new (TookOver slot) = of_session (λ session. Some (took_over_event route (view_of session))) (session_at new slot)
event_of route old new (Troubled slot trouble) =
    of_session (λ session. Some (troubled_event route (view_of session) trouble)) (session_at new slot)
event_of route old new (Unseen opened) = Some (events.Unseen route opened)
