-- The beginning of a round.
use Rattle.std.specs.Prelude.{◌≡◌, ℕ, ◌<◌, ◌≤◌, Bool, false, List, [], ◌∷◌, ◌&&◌, if◌then◌else◌, map}
use Rattle.srt_types.specs.declared.shared.Schedule.{Schedule}
use Rattle.srt_lobby.specs.Names.{RouteName, as_shown, AreDistinct}
use Rattle.srt_poller.specs.declared.ends.Ends.{Ends}
use Rattle.srt_poller.specs.declared.poller.Poller.{Poller}
use Rattle.srt_poller.specs.Devices.{Heard, Carried}
use Rattle.srt_poller.specs.Schedules.{CloseOffer, offered_routes, opened, opened_if, due, has_come, hidden_by, closed}
use Rattle.srt_poller.specs.Starts.{round_start}
use Rattle.srt_poller.specs.Plans.{may_open}
use Rattle.srt_poller.specs.History.{Sorting, Phase, IsOver, Begins}
use Rattle.srt_poller.specs.Pollers.{round_state, begun_phase, world_of}
use Rattle.srt_poller.specs.Rounds.{AreLater, WentClosing}
use Rattle.srt_poller.specs.Told.{Observer, setting_of}

-- the names as if all routes became visible
abbrev pub all_shown : List RouteName → List RouteName
all_shown names = map (λ name. as_shown name) names

-- no route may become visible in this round, whatever names are in use
abbrev pub NoneMayOpen : (round : ℕ) → List Schedule → Type 0
NoneMayOpen round [] = Unit {0}
NoneMayOpen round (s ∷ schedules) = (may_open round s ≡ false) × NoneMayOpen round schedules

-- in this round nothing opens, nothing waits to be opened, and no closing is due, unless it closes all
abbrev pub Rests : (round : ℕ) → List Schedule → List RouteName → Type 0
Rests round schedules names = (opened round schedules names ≡ names) × (due false round schedules names ≡ []) × NoneMayOpen round schedules

-- the same of one route
abbrev pub RouteRests : (round : ℕ) → Schedule → (is_shown : Bool) → Type 0
RouteRests round s is_shown = (may_open round s ≡ false) × ((has_come round s.close_round && is_shown) ≡ false)

-- nothing happens in the rounds from one on and before another
abbrev pub RestBetween : (from until : ℕ) → List Schedule → List RouteName → Type 0
RestBetween from until schedules names = (round : ℕ) → from ≤ round → round < until → Rests round schedules names

-- a route was offered Close, and is hidden if its inbox accepted it
abbrev pub Closes : (moment : ℕ) → CloseOffer → (old new : List RouteName) → (before after : List Ends) → Type 0
Closes moment o old new before after = (new ≡ hidden_by old o) × AreLater (Begins false moment (o ∷ []) ∷ []) before after

-- These offers were made to the routes that are closed in this round, among those of the schedules; the names of the others stay. No two of those that
-- were visible had the same name
pub record ClosedBy (closes_all : Bool) (moment round : ℕ) (schedules : List Schedule) (offers : List CloseOffer) (old new : List RouteName)
    (before after : List Ends) : Type 0 where
  pub distinct : AreDistinct old
  pub routes : offered_routes offers ≡ due closes_all round schedules old
  pub names : new ≡ closed offers old
  pub ends : AreLater (Begins closes_all moment offers ∷ []) before after

abbrev pub AreClosed : (closes_all : Bool) (moment round : ℕ) → List Schedule → (old new : List RouteName) → (before after : List Ends) → Type 0
AreClosed closes_all moment round schedules old new before after =
    (offers : List CloseOffer) × ClosedBy closes_all moment round schedules offers old new before after

-- the round began, the one before being over
abbrev pub Began : Observer → (closes_all : Bool) (round latest : ℕ) → List Schedule → (old new : List RouteName) → (before after : List Ends) → Type 0
Began observer closes_all round latest schedules old new before after =
    (class : Sorting) (source : Heard) (wire : Carried) (p : Poller) (phase : Phase) → IsOver phase → observer.counts p.report →
    WentClosing (setting_of class observer) schedules (if closes_all then 1 else 0)
    (round_start round closes_all (opened_if closes_all round schedules old) ∷ []) 1 0 0
    (world_of source wire before (round_state old round latest) phase p)
    (world_of source wire after (round_state new round latest) (begun_phase p) p)
