-- What a poller did, as one statement, and what it requires.
use Rattle.std.specs.Prelude.{◌≡◌, ◌⊎◌, ◌≤◌, ℕ, List, ◌++◌, length}
use Rattle.srt_types.specs.declared.shared.Schedule.{Schedule}
use Rattle.srt_lobby.specs.Names.{RouteName}
use Rattle.srt_poller.specs.declared.ends.Ends.{Ends}
use Rattle.srt_poller.specs.History.{Sorting, at_first}
use Rattle.srt_poller.specs.Changes.{PumpedChanging, with_routes}
use Rattle.srt_poller.specs.Openings.{NewRoute, names_in, RouteReports, route_reports_more}
use Rattle.srt_poller.specs.Plans.{ArePlans, texts_of}
use Rattle.srt_poller.specs.Starts.{starts_in}
use Rattle.srt_poller.specs.Pumped.{Before, After, PumpedUnder}
use Rattle.srt_poller.specs.Schedules.{AllDiffer}

-- there are ends and a schedule for each name, no two routes have the same name, and there are at most 511
unfoldable pub AreReady : List Schedule → List RouteName → List Ends → Type 0
AreReady schedules names ends = (length ends ≡ length names) × (length schedules ≡ length names) × AllDiffer names × (length schedules ≤ 511)

-- The rounds that were made, at most `rounds`, went as its own contract states. Routes were added or requested to close only if `watched` is known. A round
-- closed all only if `closes` is known, and it made fewer only if `stops` is
unfoldable pub Polled : (watched closes stops : Type 0) → Sorting → List Schedule → (rounds made : ℕ) → (reported reported' : RouteReports) → Before → After →
    Type 0
Polled watched closes stops class schedules rounds made reported reported' before after =
    (((watched → ⊥) × (reported' ≡ reported) × PumpedUnder (Unit {0}) closes class schedules made before after)
    ⊎ (watched × PumpedChanging (Unit {0}) closes class schedules made reported reported' before after))
    × (made ≤ rounds) × ((made ≡ rounds) ⊎ stops)

-- The same as `ChangedBy`, but routes may also have been added after the last round: an added route may wait without a reason
pub record ChangedLate (closes : Type 0) (class : Sorting) (schedules : List Schedule) (made : ℕ) (reported reported' : RouteReports) (old : Before)
    (new : After) (added : List NewRoute) (requested : List ℕ) (later : List Schedule) : Type 0 where
  pub reports : reported' ≡ route_reports_more reported added requested
  pub pumped : PumpedUnder (Unit {0}) closes class later made (with_routes added old) new
  pub planned : ArePlans made (λ r. Unit {0}) (starts_in later (at_first (old.names ++ names_in added)) pumped.0) schedules
      (texts_of (old.names ++ names_in added)) requested later

abbrev pub PumpedLate : (closes : Type 0) → Sorting → List Schedule → (made : ℕ) → (reported reported' : RouteReports) → Before → After → Type 0
PumpedLate closes class schedules made reported reported' before after =
    (added : List NewRoute) × (requested : List ℕ) × (later : List Schedule)
    × ChangedLate closes class schedules made reported reported' before after added requested later

-- the same as `Polled`, after the routes were taken that were added since the last round
unfoldable pub PolledLate : (watched closes stops : Type 0) → Sorting → List Schedule → (rounds made : ℕ) → (reported reported' : RouteReports) → Before →
    After → Type 0
PolledLate watched closes stops class schedules rounds made reported reported' before after =
    (((watched → ⊥) × (reported' ≡ reported) × PumpedUnder (Unit {0}) closes class schedules made before after)
    ⊎ (watched × PumpedLate closes class schedules made reported reported' before after))
    × (made ≤ rounds) × ((made ≡ rounds) ⊎ stops)

-- neither the source nor the wire changed
unfoldable pub AreUntouched : {S W : Type 0} → (source source' : S) → (wire wire' : W) → Type 0
AreUntouched source source' wire wire' = (source' ≡ source) × (wire' ≡ wire)
