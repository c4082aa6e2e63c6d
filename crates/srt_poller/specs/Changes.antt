-- The rounds of a poller while routes are added and removed.
use Rattle.std.specs.Prelude.{◌≡◌, ◌⊎◌, ℕ, suc, ◌+◌, ◌<◌, ◌≤◌, Bool, true, false, Option, List, [], ◌∷◌, ◌++◌, length, map}
use Rattle.std.specs.List.{fold}
use Rattle.srt_types.specs.declared.shared.Schedule.{Schedule}
use Rattle.srt_lobby.specs.Names.{RouteName, AreDistinct}
use Rattle.srt_lobby.specs.Changing.{AreHidden}
use Rattle.srt_poller.specs.declared.ends.Ends.{Ends}
use Rattle.srt_poller.specs.declared.changing.Plans.{Plans}
use Rattle.srt_poller.specs.Devices.{joined}
use Rattle.srt_poller.specs.Schedules.{opened, opened_if}
use Rattle.srt_poller.specs.History.{Sorting, Phase, at_first}
use Rattle.srt_poller.specs.Rounds.{World}
use Rattle.srt_poller.specs.Reports.{nothing}
use Rattle.srt_poller.specs.Told.{Observer, Setting, AreTold}
use Rattle.srt_poller.specs.Pollers.{Rounds, RoundState, RoundMade}
use Rattle.srt_poller.specs.Beginnings.{all_shown, AreClosed, Began, RestBetween}
use Rattle.srt_poller.specs.Beforehand.{AgreeBefore}
use Rattle.srt_poller.specs.Openings.{NewRoute, ReportedRoute, reported_route, names_in, ends_in, RouteReports, route_reports_more}
use Rattle.srt_poller.specs.Plans.{schedule_of, texts_of, is_requested, waiting, closed_from, update_at, AreTimely}
use Rattle.srt_poller.specs.Plans.{ArePlans, Replanned, Settled}
use Rattle.srt_poller.specs.Starts.{RoundStart, round_start, starts_in}
use Rattle.srt_poller.specs.Takings.{Recorded, OpeningsFacts, TookAll}
use Rattle.srt_poller.specs.Pumped.{Before, After, before, PumpedUnder}

-- the plans of all routes, in the order of their indexes
abbrev pub plans_in : Plans → List Schedule
plans_in p = map schedule_of p.plans.items

-- these routes were added, and wait after the others, hidden
pub record Appended (added : List NewRoute) (plans plans' : List Schedule) (names names' : List RouteName) (ends ends' : List Ends) : Type 0 where
  pub planned : plans' ≡ plans ++ map (λ n. waiting) added
  pub named : names' ≡ names ++ names_in added
  pub ended : ends' ≡ ends ++ ends_in added
  pub hidden : AreHidden (names_in added)

abbrev pub TookAddedRoutes : (reported reported' : Option (List ReportedRoute)) → (plans plans' : List Schedule) → (names names' : List RouteName) →
    (ends ends' : List Ends) → Type 0
TookAddedRoutes reported reported' plans plans' names names' ends ends' =
    (added : List NewRoute) × (reported' ≡ joined reported (map reported_route added)) × Appended added plans plans' names names' ends ends'

-- these routes, which are there, were requested to close before this round begins
pub record Requested (round : ℕ) (requested : List ℕ) (plans plans' : List Schedule) : Type 0 where
  pub planned : plans' ≡ fold (update_at (closed_from round)) plans requested
  pub known : (r : ℕ) → is_requested requested r ≡ true → r < length plans

abbrev pub TookClosings : (round : ℕ) → (reported reported' : Option (List ℕ)) → (plans plans' : List Schedule) → Type 0
TookClosings round reported reported' plans plans' = (requested : List ℕ) × (reported' ≡ joined reported requested) × Requested round requested plans plans'

-- at least 511 routes were requested to close, as many as are taken before a round
abbrev pub TookMany : (reported reported' : Option (List ℕ)) → Type 0
TookMany reported reported' = (requested : List ℕ) × (reported' ≡ joined reported requested) × (511 ≤ length requested)

-- Before this round begins these routes were added, which wait after the others, hidden, and these were requested to close
pub record Took (round : ℕ) (added : List NewRoute) (requested : List ℕ) (plans plans' : List Schedule) (names names' : List RouteName)
    (ends ends' : List Ends) : Type 0 where
  pub agree : AgreeBefore round plans plans' (names_in added)
  pub named : names' ≡ names ++ names_in added
  pub ended : ends' ≡ ends ++ ends_in added
  pub planned : Replanned round requested (texts_of names) (texts_of names') plans plans'
  pub known : length plans' ≡ length names'
  pub all_ends : length ends' ≡ length names'

abbrev pub TookChanges : (round : ℕ) → (reported reported' : RouteReports) → (plans plans' : List Schedule) → (names names' : List RouteName) →
    (ends ends' : List Ends) → Type 0
TookChanges round reported reported' plans plans' names names' ends ends' =
    (added : List NewRoute) × (requested : List ℕ) × (reported' ≡ route_reports_more reported added requested)
    × Took round added requested plans plans' names names' ends ends'

-- the routes became visible that open in this round by the plans that they have then; each one that waited opened, unless another visible route has its name
pub record Opens (round : ℕ) (plans plans' : List Schedule) (names names' : List RouteName) : Type 0 where
  pub as_many : length plans' ≡ length plans
  pub agree : AgreeBefore round plans plans' []
  pub named : names' ≡ opened round plans' names
  pub planned : Settled (round_start round false names') (texts_of names) plans plans'

-- A round began with these plans, after its changes: it closes all; or it is before `due`, the first round in which there may be something to do, and nothing
-- changed; or routes became visible, and then some were closed
abbrev pub Started : (closes_all : Bool) → (round due latest : ℕ) → (plans plans' : List Schedule) → (names names' : List RouteName) →
    (ends ends' : List Ends) → Type 0
Started closes_all round due latest plans plans' names names' ends ends' =
    ((closes_all ≡ true) × (plans' ≡ plans) × AreClosed true latest round plans names names' ends ends')
    ⊎ ((closes_all ≡ false) × (((round < due) × (plans' ≡ plans) × (names' ≡ names) × (ends' ≡ ends) × AreDistinct names)
    ⊎ ((shown : List RouteName) × Opens round plans plans' names shown × AreClosed false latest round plans' shown names' ends ends')))

-- a round began with these plans, after its changes, and was made to its end
abbrev pub RoundWent : Setting → (closes_all : Bool) → (round due : ℕ) → (plans plans' : List Schedule) → (names names' : List RouteName) →
    (ends : List Ends) → (begun : Phase) → (old : List Ends → RoundState → Phase → World) → (new : RoundState → Phase → World) → (before after : ℕ) → Type 0
RoundWent setting closes_all round due plans plans' names names' ends begun old new before after =
    (middle : List Ends) × Started closes_all round due before plans plans' names names' ends middle
    × RoundMade setting names' (length middle) begun (old middle) new before after

-- Before a round all changes were taken, and then it was made to its end. `due` was then the first round in which there may be something to do
pub record ChangedRound (setting : Setting) (facts : OpeningsFacts) (closes_all : Bool) (round : ℕ) (records records' : Recorded) (plans plans' : List Schedule)
    (names names' : List RouteName) (ends : List Ends) (begun : Phase) (old : List Ends → RoundState → Phase → World) (new : RoundState → Phase → World)
    (before after : ℕ) : Type 0 where
  pub due : ℕ
  pub between : List Schedule
  pub these : List RouteName
  pub those : List Ends
  pub took : TookChanges round records.reports records'.reports plans between names these ends those
  pub taken : TookAll facts (length names) (length these) records records'
  pub rests : RestBetween round due between these
  pub went : RoundWent setting closes_all round due between plans' these names' those begun old new before after

-- this round began, after these routes were added and these were requested to close
pub record BeganWith (observer : Observer) (closes_all : Bool) (round latest : ℕ) (added : List NewRoute) (requested : List ℕ) (plans plans' : List Schedule)
    (names names' : List RouteName) (ends ends' : List Ends) : Type 0 where
  pub agree : AgreeBefore round plans plans' (names_in added)
  pub began : Began observer closes_all round latest plans' (names ++ names_in added) names' (ends ++ ends_in added) ends'
  pub texts : all_shown names' ≡ all_shown (names ++ names_in added)
  pub planned : (starts : List RoundStart) (schedules : List Schedule) (before : List ℕ) → AreTimely schedules
      → ArePlans round (λ r. ⊥) starts schedules (texts_of names) before plans
      → ArePlans (suc round) (λ r. ⊥) (starts ++ round_start round closes_all (opened_if closes_all round plans' (names ++ names_in added)) ∷ []) schedules
      (texts_of (names ++ names_in added)) (before ++ requested) plans'
  pub known : length plans' ≡ length names'
  pub all_ends : length ends' ≡ length names'

-- the same, and that is what openings reported
abbrev pub BeganAfter : Observer → (closes_all : Bool) (round latest : ℕ) → (reported reported' : RouteReports) → (plans plans' : List Schedule) →
    (names names' : List RouteName) →
    (ends ends' : List Ends) → Type 0
BeganAfter observer closes_all round latest reported reported' plans plans' names names' ends ends' =
    (added : List NewRoute) × (requested : List ℕ) × (reported' ≡ route_reports_more reported added requested)
    × BeganWith observer closes_all round latest added requested plans plans' names names' ends ends'

-- Rounds were made, the first of which has this number, after these routes were added and these were requested to close: as if that had been written down
-- in advance, as `later` states; the rounds started so
pub record RoundsWith (goes closes : Type 0) (setting : Setting) (first rounds : ℕ) (schedules : List Schedule) (reported reported' : RouteReports)
    (names : List RouteName)
    (ends : List Ends) (old : List RouteName → List Ends → Phase → World) (new : Phase → World) (added : List NewRoute) (requested : List ℕ)
    (later : List Schedule) (starts : List RoundStart) : Type 0 where
  pub reports : reported' ≡ route_reports_more reported added requested
  pub planned : ArePlans (first + rounds) (λ r. ⊥) starts schedules (texts_of (names ++ names_in added)) requested later
  pub went : Rounds goes closes setting later starts rounds (length ends + length added) (old (names ++ names_in added) (ends ++ ends_in added)) new

abbrev pub RoundsChanging : (goes closes : Type 0) → Setting → (first rounds : ℕ) → List Schedule → (reported reported' : RouteReports) → List RouteName →
    List Ends →
    (old : List RouteName → List Ends → Phase → World) → (new : Phase → World) → Type 0
RoundsChanging goes closes setting first rounds schedules reported reported' names ends old new =
    (added : List NewRoute) × (requested : List ℕ) × (later : List Schedule) × (starts : List RoundStart)
    × RoundsWith goes closes setting first rounds schedules reported reported' names ends old new added requested later starts

-- the same, had these routes been there from the beginning on, hidden, after the others
abbrev pub with_routes : List NewRoute → Before → Before
with_routes added b = before (b.names ++ names_in added) b.source b.wire (b.ends ++ ends_in added)

-- What a poller did in this many rounds in which these routes were added and these were requested to close: all that it does in a run whose routes
-- and schedules had been known in advance. `later` are these schedules; where a route was left as it was they are its own, and otherwise it opens as soon as
-- its name is free (`ArePlans`)
pub record ChangedBy (goes closes : Type 0) (class : Sorting) (schedules : List Schedule) (rounds : ℕ) (reported reported' : RouteReports) (old : Before)
    (new : After)
    (added : List NewRoute) (requested : List ℕ) (later : List Schedule) : Type 0 where
  pub reports : reported' ≡ route_reports_more reported added requested
  pub pumped : PumpedUnder goes closes class later rounds (with_routes added old) new
  pub planned : ArePlans rounds (λ r. ⊥) (starts_in later (at_first (old.names ++ names_in added)) pumped.0) schedules
      (texts_of (old.names ++ names_in added)) requested later

-- some routes were added, some were requested to close, and there are such schedules
abbrev pub PumpedChanging : (goes closes : Type 0) → Sorting → List Schedule → (rounds : ℕ) → (reported reported' : RouteReports) → Before → After → Type 0
PumpedChanging goes closes class schedules rounds reported reported' old new =
    (added : List NewRoute) × (requested : List ℕ) × (later : List Schedule)
    × ChangedBy goes closes class schedules rounds reported reported' old new added requested later

-- the same, and its observer was told of each event
abbrev pub ToldChanging : (goes closes : Type 0) → Sorting → Observer → List Schedule → (rounds : ℕ) → (reported reported' : RouteReports) → Before → After →
    Type 0
ToldChanging goes closes class observer schedules rounds reported reported' old new =
    (changed : PumpedChanging goes closes class schedules rounds reported reported' old new) × AreTold class observer nothing changed.3.pumped.0
