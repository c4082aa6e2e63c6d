-- Which of the routes that are watched are expected to be on air, by the configuration in force.
use Rattle.std.specs.Prelude.{◌≡◌, ℕ, Bool, false, List, [], ◌∷◌, slice_get}
use Rattle.std.specs.Option.{unwrap_or}
use Rattle.srt_config.specs.declared.changes.RouteChange.{RouteChange}
use Rattle.srt_status.specs.Expectations.{expected_if}
use Rattle.srt_status.specs.declared.route_status.RouteStatus.{RouteStatus}
use Rattle.srt_watch.specs.Placing.{IsRouted}
use Rattle.srt_watch.specs.declared.watched_routes.OpeningRoute.{OpeningRoute}
use Rattle.srt_watch.specs.declared.watched_routes.WatchedRoutes.{WatchedRoutes}

-- whether the route at a place of the configuration is expected to be on air
abbrev pub is_expected : (expected : List Bool) → (place : ℕ) → Bool
is_expected expected place = unwrap_or (slice_get expected place) false

-- the status of a route by a configuration that expects it to be on air or doesn't: nothing else of it is other
abbrev pub expecting : (expected : Bool) → RouteStatus → RouteStatus
expecting expected status = record status { expectation = expected_if expected status.expectation }

-- those of all routes, in the order of the configuration
abbrev pub all_expecting : (expected : List Bool) → List RouteStatus → List RouteStatus
all_expecting expected [] = []
all_expecting [] (status ∷ statuses) = expecting false status ∷ all_expecting [] statuses
all_expecting (flag ∷ expected) (status ∷ statuses) = expecting flag status ∷ all_expecting expected statuses

-- The routes are expected to be on air that a configuration in force expects so, whose routes are those that are shown.
pub record AreExpecting (old new : WatchedRoutes) (expected : List Bool) : Type 0 where
  pub routes_are : new.routes ≡ old.routes
  pub shown_are : new.shown.items ≡ all_expecting expected old.shown.items

-- A changed configuration is in force, and the routes are expected to be on air that it expects so.
pub record IsExpecting (old new : WatchedRoutes) (changes : List RouteChange) (indexes : List ℕ) (opening : List OpeningRoute) (expected : List Bool) :
    Type 0 where
  pub middle : WatchedRoutes
  pub routed : IsRouted old middle changes indexes opening
  pub expecting_are : AreExpecting middle new expected
