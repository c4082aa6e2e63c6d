-- What a poller did before a round doesn't depend on what opens and closes from that round on.
use Rattle.std.specs.Prelude.{◌≡◌, ℕ, ◌<◌, ◌≤◌, ◌==◌, false, List, [], ◌∷◌, ◌++◌, length}
use Rattle.srt_types.specs.declared.shared.Schedule.{Schedule}
use Rattle.srt_types.specs.Items.{Datagram}
use Rattle.srt_lobby.specs.Names.{RouteName}
use Rattle.srt_cookie.specs.declared.secret.Secret.{Secret}
use Rattle.srt_poller.specs.Schedules.{has_come}
use Rattle.srt_poller.specs.History.{Sorting, Event, IsOver, State, state, state_after, Follow}
use Rattle.srt_poller.specs.Pollers.{sorting}

-- the schedule of one route states the same as another one in all rounds before this one
abbrev pub SameBefore : (limit : ℕ) → Schedule → Schedule → Type 0
SameBefore limit s t =
    (k : ℕ) → k < limit → ((t.open_round == k) ≡ (s.open_round == k)) × (has_come k t.close_round ≡ has_come k s.close_round)

-- each of these routes is hidden and opens in no round before this one; there is a schedule for each name
abbrev pub OpenLater : (limit : ℕ) → List Schedule → List RouteName → Type 0
OpenLater limit [] [] = Unit {0}
OpenLater limit [] (name ∷ names) = ⊥
OpenLater limit (s ∷ schedules) [] = ⊥
OpenLater limit (s ∷ schedules) (name ∷ names) =
    ((k : ℕ) → k < limit → (s.open_round == k) ≡ false) × (name.is_shown ≡ false) × OpenLater limit schedules names

-- the later schedules are the same as the others in all rounds before this one, and go on with those of further routes with these names, which
-- are hidden and open in no round before it
abbrev pub AgreeBefore : (limit : ℕ) → (schedules later : List Schedule) → (more : List RouteName) → Type 0
AgreeBefore limit [] later more = OpenLater limit later more
AgreeBefore limit (s ∷ schedules) [] more = ⊥
AgreeBefore limit (s ∷ schedules) (t ∷ later) more = SameBefore limit s t × AgreeBefore limit schedules later more

-- names after the others change no class
abbrev pub AreIgnored : Sorting → (more : List RouteName) → Type 0
AreIgnored class more = (names : List RouteName) (d : Datagram) (moment : ℕ) → class (names ++ more) d moment ≡ class names d moment

-- the same state, with further names
abbrev pub with_more : (more : List RouteName) → State → State
with_more more s = state (s.names ++ more) s.kept s.round s.phase s.latest

-- Whole rounds, all of them before the limit, are the same if what routes do from the limit on had been known in advance: other rounds of
-- opening and closing of the same routes, and further routes, which are hidden after them. The same events follow by the later schedules, and
-- lead to the same state, with the further names
abbrev pub EarlierRoundsAreSame : Type 0
EarlierRoundsAreSame =
    (class : Sorting) (limit : ℕ) (schedules later : List Schedule) (more : List RouteName)
    → AgreeBefore limit schedules later more
    → AreIgnored class more
    → (events : List Event) (s : State)
    → length schedules ≡ length s.names
    → Follow class schedules s events
    → IsOver (state_after schedules s events).phase
    → (state_after schedules s events).round ≤ limit
    → Follow class later (with_more more s) events × (state_after later (with_more more s) events ≡ with_more more (state_after schedules s events))

-- the lobby's classes are such, whatever its secret
abbrev pub LobbyIgnoresLater : Type 0
LobbyIgnoresLater =
    (secret : Secret) (limit : ℕ) (schedules later : List Schedule) (more : List RouteName)
    → AgreeBefore limit schedules later more
    → AreIgnored (sorting secret) more
