-- The origins of what the wire was handed.
use Rattle.std.proofs.Common.{◌≡◌, ℕ, ◌==◌, Bool, true, false, Option, None, List, [], ◌∷◌, ◌++◌, refl, sym, ap, ◌∙◌, append_assoc, append-nil}
use Rattle.srt_types.specs.declared.shared.Schedule.{Schedule}
use Rattle.srt_types.specs.Items.{Datagram}
use Rattle.srt_lobby.specs.Names.{RouteName}
use Rattle.srt_poller.specs.declared.devices.Sent.TheVariants.{Taken, Later, Failed}
use Rattle.srt_poller.specs.History.{Sorting, Event, State, at_first, state_by, state_after, Begins, Waits, WaitFails, ReadsNothing}
use Rattle.srt_poller.specs.History.{ReadFails, Answers, Accepts, Overflows, Refuses, Drops, Sends, Resends, Kept, Follow, kept_after}
use Rattle.srt_poller.specs.History.{kept_of, at_route, Handed, handed, of_lobby, of_route, answered, drained, from, FromRoute}
use Rattle.srt_poller.specs.Pumped.{HaveOrigins}

pub lobby_origin : (events : List Event) → of_lobby (handed events) ≡ answered events
lobby_origin [] = refl
lobby_origin (Begins b m os ∷ events) = lobby_origin events
lobby_origin (Waits ∷ events) = lobby_origin events
lobby_origin (WaitFails ∷ events) = lobby_origin events
lobby_origin (ReadsNothing ∷ events) = lobby_origin events
lobby_origin (ReadFails ∷ events) = lobby_origin events
lobby_origin (Answers a bytes Taken ∷ events) = ap (λ ds. record { peer = a.datagram.peer; bytes = bytes } ∷ ds) (lobby_origin events)
lobby_origin (Answers a bytes Later ∷ events) = lobby_origin events
lobby_origin (Answers a bytes Failed ∷ events) = ap (λ ds. record { peer = a.datagram.peer; bytes = bytes } ∷ ds) (lobby_origin events)
lobby_origin (Accepts a r ∷ events) = lobby_origin events
lobby_origin (Overflows a r ∷ events) = lobby_origin events
lobby_origin (Refuses a r ∷ events) = lobby_origin events
lobby_origin (Drops a cause ∷ events) = lobby_origin events
lobby_origin (Sends r d Taken ∷ events) = lobby_origin events
lobby_origin (Sends r d Later ∷ events) = lobby_origin events
lobby_origin (Sends r d Failed ∷ events) = lobby_origin events
lobby_origin (Resends r d Taken ∷ events) = lobby_origin events
lobby_origin (Resends r d Later ∷ events) = lobby_origin events
lobby_origin (Resends r d Failed ∷ events) = lobby_origin events

-- one datagram of route k in front, as route r sees it
in_front : (k r : ℕ) (d : Datagram) (hs : List Handed) → of_route r (from (FromRoute k) d ∷ hs) ≡ at_route k r d ++ of_route r hs
in_front k r d hs = by_test (k == r) refl
  where
    by_test : (b : Bool) → (k == r) ≡ b → of_route r (from (FromRoute k) d ∷ hs) ≡ at_route k r d ++ of_route r hs
    by_test true is = rw is refl
    by_test false is = rw is refl

-- what was sent is in front of what is sent later
gone : (class : Sorting) (r s : ℕ) (d : Datagram) (o : Option Kept) (events : List Event) →
    of_route r (handed events) ++ kept_of r (kept_after o events) ≡ drained r events →
    of_route r (from (FromRoute s) d ∷ handed events) ++ kept_of r (kept_after o events) ≡ at_route s r d ++ drained r events
gone class r s d o events h =
    ap (λ ds. ds ++ kept_of r (kept_after o events)) (in_front s r d (handed events))
    ∙ append_assoc (at_route s r d) (of_route r (handed events)) (kept_of r (kept_after o events)) ∙ ap (λ ds. at_route s r d ++ ds) h

pub route_origin : (class : Sorting) (schedules : List Schedule) (r : ℕ) (s : State) (events : List Event) → Follow class schedules s events →
    of_route r (handed events) ++ kept_of r (kept_after s.kept events) ≡ kept_of r s.kept ++ drained r events
route_origin class schedules r s [] h = sym (append-nil (kept_of r s.kept))
route_origin class schedules r s (Begins b m os ∷ events) h = route_origin class schedules r (state_by schedules s (Begins b m os)) events h.1
route_origin class schedules r s (Waits ∷ events) h = route_origin class schedules r (state_by schedules s Waits) events h.1
route_origin class schedules r s (WaitFails ∷ events) h = route_origin class schedules r (state_by schedules s WaitFails) events h.1
route_origin class schedules r s (ReadsNothing ∷ events) h = route_origin class schedules r (state_by schedules s ReadsNothing) events h.1
route_origin class schedules r s (ReadFails ∷ events) h = route_origin class schedules r (state_by schedules s ReadFails) events h.1
route_origin class schedules r s (Answers a bytes Taken ∷ events) h = route_origin class schedules r (state_by schedules s (Answers a bytes Taken)) events h.1
route_origin class schedules r s (Answers a bytes Later ∷ events) h = route_origin class schedules r (state_by schedules s (Answers a bytes Later)) events h.1
route_origin class schedules r s (Answers a bytes Failed ∷ events) h = route_origin class schedules r (state_by schedules s (Answers a bytes Failed)) events h.1
route_origin class schedules r s (Accepts a k ∷ events) h = route_origin class schedules r (state_by schedules s (Accepts a k)) events h.1
route_origin class schedules r s (Overflows a k ∷ events) h = route_origin class schedules r (state_by schedules s (Overflows a k)) events h.1
route_origin class schedules r s (Refuses a k ∷ events) h = route_origin class schedules r (state_by schedules s (Refuses a k)) events h.1
route_origin class schedules r s (Drops a cause ∷ events) h = route_origin class schedules r (state_by schedules s (Drops a cause)) events h.1
route_origin class schedules r s (Sends k d Taken ∷ events) h =
    rw h.0.1 (gone class r k d None events (route_origin class schedules r (state_by schedules s (Sends k d Taken)) events h.1))
route_origin class schedules r s (Sends k d Failed ∷ events) h =
    rw h.0.1 (gone class r k d None events (route_origin class schedules r (state_by schedules s (Sends k d Failed)) events h.1))
route_origin class schedules r s (Sends k d Later ∷ events) h = rw h.0.1 (route_origin class schedules r (state_by schedules s (Sends k d Later)) events h.1)
route_origin class schedules r s (Resends k d Taken ∷ events) h =
    rw h.0.1 (gone class r k d None events (route_origin class schedules r (state_by schedules s (Resends k d Taken)) events h.1))
route_origin class schedules r s (Resends k d Failed ∷ events) h =
    rw h.0.1 (gone class r k d None events (route_origin class schedules r (state_by schedules s (Resends k d Failed)) events h.1))
route_origin class schedules r s (Resends k d Later ∷ events) h =
    rw h.0.1 (route_origin class schedules r (state_by schedules s (Resends k d Later)) events h.1)

-- the kept reply of the state
pub kept_is : (schedules : List Schedule) (s : State) (events : List Event) → (state_after schedules s events).kept ≡ kept_after s.kept events
kept_is schedules s [] = refl
kept_is schedules s (event ∷ events) = kept_is schedules (state_by schedules s event) events

pub have_origins : (class : Sorting) (schedules : List Schedule) (names : List RouteName) (events : List Event)
    → Follow class schedules (at_first names) events → HaveOrigins events
have_origins class schedules names events h = record { lobby = lobby_origin events; route = λ r. route_origin class schedules r (at_first names) events h }
