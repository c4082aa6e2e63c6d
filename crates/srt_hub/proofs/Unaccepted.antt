-- When an item isn't accepted or a turn does nothing, and the lobby's own answers.
use Rattle.std.proofs.Common.{◌≡◌, ℕ, ◌≤◌, ltb, Bool, true, false, cond, Option, None}
use Rattle.std.proofs.Common.{Some, List, [], ◌∷◌, ◌++◌, length, refl, sym, ap, ◌∙◌}
use Rattle.srt_types.specs.declared.shared.Turned.TheVariants.{Moved, Applied, Blocked, Idle}
use Rattle.srt_lobby.specs.declared.classes.Class.{Class}
use Rattle.srt_lobby.specs.declared.classes.Class.TheVariants.{Answer, Route, Dropped}
use Rattle.srt_hub.specs.declared.answers.Arrived.{Arrived}
use Rattle.srt_hub.specs.declared.answers.Arrived.TheVariants as arrived
use Rattle.srt_hub.specs.declared.answers.Ticked.TheVariants as ticked
use Rattle.srt_types.specs.Items.{Datagram, Item, Received, Tick}
use Rattle.srt_types.specs.Terms.{Terms}
use Rattle.srt_hub.specs.World.{Arrives, Ticks, Turns, Meaning, Lane, Offers, Turn}
use Rattle.srt_hub.specs.World.{has_room, turned_by, turn_by, arrival_of, offered_to}
use Rattle.srt_hub.specs.World.{world_after}
use Rattle.srt_hub.specs.Hubs.{names_at, entry_at, lane_at, room_at}
use Rattle.srt_hub.specs.Refusals.{FullIsAtCapacity, FullTickIsAtCapacity, BlockedIsAtCapacity, IdleIsEmpty}
use Rattle.srt_hub.specs.Refusals.{RefusedIsARoutes, LobbyAnswersAlone}
use Rattle.srt_hub.proofs.Isolation.{kept}
use Rattle.srt_hub.proofs.Happens.{tick_here, tick_elsewhere, turn_here, turn_elsewhere}
use Rattle.srt_hub.proofs.Happens.{answer_nowhere, drop_nowhere, refused_nowhere, arrival_here, arrival_elsewhere}
use Rattle.srt_hub.proofs.Unchanged.{at_capacity, nothing, leaves}

index_in : Option Arrived → ℕ
index_in None = 0
index_in (Some (arrived.Answer bytes)) = 0
index_in (Some (arrived.Accepted r)) = r
index_in (Some (arrived.Full r)) = r
index_in (Some (arrived.Dropped cause)) = 0

full_from : (refused : Bool) (rooms : ℕ → Bool) (c : Class) (r : ℕ)
    → arrival_of refused rooms c ≡ Some (arrived.Full r) → (c ≡ Route r) × (rooms r ≡ false) × (refused ≡ false)
unfolding index_in
full_from refused rooms (Answer bytes) r h = absurd (let bad : Some (arrived.Answer bytes) ≡ Some (arrived.Full r) = h in cc)
full_from refused rooms (Dropped cause) r h = absurd (let bad : Some (arrived.Dropped cause) ≡ Some (arrived.Full r) = h in cc)
full_from true rooms (Route s) r h = absurd (let bad : None ≡ Some (arrived.Full r) = h in cc)
full_from false rooms (Route s) r h = by_room (rooms s) refl h
  where
    by_room : (b : Bool) → rooms s ≡ b → Some (offered_to s b) ≡ Some (arrived.Full r) → (Route s ≡ Route r) × (rooms r ≡ false) × (false ≡ false)
    by_room true is e = absurd (let bad : Some (arrived.Accepted s) ≡ Some (arrived.Full r) = e in cc)
    by_room false is e = let same : s ≡ r = ap index_in e in (ap (λ (i : ℕ). Route i) same, ap rooms (sym same) ∙ is, refl)

pub full_is : FullIsAtCapacity
full_is class reply entries events d moment refused r h =
    let m = lane_at class reply entries r events in
    let from = full_from refused (room_at class reply entries events) (class (names_at class reply entries events) d moment) r h in (
      from.0,
      at_capacity _ _ (kept class reply entries r events).inbox_fits from.1,
      leaves class reply entries events (Arrives d moment refused) r (Offers (Received d moment)) refl
          (rw from.2 (arrival_here class (world_after class reply entries events) d moment r from.0))
          (λ k other. rw from.2 (arrival_elsewhere class (world_after class reply entries events) d moment r k from.0 other)) (rw from.1 refl),
    )

tick_from : (b : Bool) → cond b ticked.Accepted ticked.Full ≡ ticked.Full → b ≡ false
tick_from true h = absurd (let bad : ticked.Accepted ≡ ticked.Full = h in cc)
tick_from false h = refl

pub full_tick_is : FullTickIsAtCapacity
full_tick_is class reply entries events r moment h =
    let full : has_room (entry_at class reply entries r events) (lane_at class reply entries r events) ≡ false = tick_from _ h in (
      at_capacity _ _ (kept class reply entries r events).inbox_fits full,
      leaves class reply entries events (Ticks r moment) r (Offers (Tick moment)) refl
          (tick_here class (world_after class reply entries events) r moment) (tick_elsewhere class (world_after class reply entries events) r moment)
          (rw full refl),
    )

blocked_by : (reply : Meaning) (e : Terms) (r : ℕ) (waiting : List Datagram) (inbox : List Item) (m : Lane) → length m.outbox ≤ e.outbox
    → turn_by e waiting inbox m ≡ Blocked
    → (waiting ≡ [] → ⊥) × (length m.outbox ≡ e.outbox) × (turned_by reply e r waiting inbox m ≡ m)
blocked_by reply e r (d ∷ ds) inbox m fits h = held (ltb (length m.outbox) e.outbox) refl h
  where
    held : (b : Bool) → ltb (length m.outbox) e.outbox ≡ b → cond b Moved Blocked ≡ Blocked
        → (d ∷ ds ≡ [] → ⊥) × (length m.outbox ≡ e.outbox) ×
        (cond b (record { inbox = m.inbox; applied = m.applied; waiting = ds; outbox = m.outbox ++ d ∷ [] }) m ≡ m)
    held true lt never = absurd (let bad : Moved ≡ Blocked = never in cc)
    held false full same = (λ (bad : d ∷ ds ≡ []). cc, at_capacity _ _ fits full, refl)
blocked_by reply e r [] (x ∷ xs) m fits h = absurd (let bad : Applied ≡ Blocked = h in cc)
blocked_by reply e r [] [] m fits h = absurd (let bad : Idle ≡ Blocked = h in cc)

pub blocked_is : BlockedIsAtCapacity
blocked_is class reply entries events r h =
    let e = entry_at class reply entries r events in
    let m = lane_at class reply entries r events in
    let from = blocked_by reply e r m.waiting m.inbox m (kept class reply entries r events).outbox_fits h in (
      from.0,
      from.1,
      leaves class reply entries events (Turns r) r Turn refl (turn_here class (world_after class reply entries events) r)
          (turn_elsewhere class (world_after class reply entries events) r) from.2,
    )

idle_by : (reply : Meaning) (e : Terms) (r : ℕ) (waiting : List Datagram) (inbox : List Item) (m : Lane)
    → turn_by e waiting inbox m ≡ Idle → (waiting ≡ []) × (inbox ≡ []) × (turned_by reply e r waiting inbox m ≡ m)
idle_by reply e r (d ∷ ds) inbox m h = held (ltb (length m.outbox) e.outbox) h
  where
    held : (b : Bool) → cond b Moved Blocked ≡ Idle → (d ∷ ds ≡ []) × (inbox ≡ []) × (turned_by reply e r (d ∷ ds) inbox m ≡ m)
    held true never = absurd (let bad : Moved ≡ Idle = never in cc)
    held false never = absurd (let bad : Blocked ≡ Idle = never in cc)
idle_by reply e r [] (x ∷ xs) m h = absurd (let bad : Applied ≡ Idle = h in cc)
idle_by reply e r [] [] m h = (refl, refl, refl)

pub idle_is : IdleIsEmpty
idle_is class reply entries events r h =
    let e = entry_at class reply entries r events in
    let m = lane_at class reply entries r events in
    let from = idle_by reply e r m.waiting m.inbox m h in (
      from.0,
      from.1,
      leaves class reply entries events (Turns r) r Turn refl (turn_here class (world_after class reply entries events) r)
          (turn_elsewhere class (world_after class reply entries events) r) from.2,
    )

refused_from : (refused : Bool) (rooms : ℕ → Bool) (c : Class) → arrival_of refused rooms c ≡ None → ((r : ℕ) × (c ≡ Route r)) × (refused ≡ true)
refused_from refused rooms (Answer bytes) h = absurd (let bad : Some (arrived.Answer bytes) ≡ None = h in cc)
refused_from refused rooms (Dropped cause) h = absurd (let bad : Some (arrived.Dropped cause) ≡ None = h in cc)
refused_from true rooms (Route r) h = ((r, refl), refl)
refused_from false rooms (Route r) h = absurd (let bad : Some (offered_to r (rooms r)) ≡ None = h in cc)

pub refused_is : RefusedIsARoutes
refused_is class reply entries events d moment refused h =
    let from = refused_from refused (room_at class reply entries events) (class (names_at class reply entries events) d moment) h in (
      from.0,
      from.1,
      nothing class reply entries events (Arrives d moment refused) refl
          (λ k. rw from.1 (refused_nowhere class (world_after class reply entries events) d moment from.0.0 k from.0.1)),
    )

pub lobby_alone : LobbyAnswersAlone
lobby_alone class reply entries events d moment refused = (
  λ bytes is. (
    ap (arrival_of refused (room_at class reply entries events)) is,
    nothing class reply entries events (Arrives d moment refused) refl
        (λ k. answer_nowhere class (world_after class reply entries events) d moment refused bytes k is),
  ),
  λ cause is. (
    ap (arrival_of refused (room_at class reply entries events)) is,
    nothing class reply entries events (Arrives d moment refused) refl
        (λ k. drop_nowhere class (world_after class reply entries events) d moment refused cause k is),
  ),
)
