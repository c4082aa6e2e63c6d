-- A snapshot of a route, and what it changes of the routes that are watched.
use Rattle.std.specs.Prelude.{◌≡◌, ℕ, ◌+◌, Bool, List, Option, None, Some, option_map, slice_get, slice_set}
use Rattle.std.specs.Option.{unwrap_or}
use Rattle.srt_route.specs.declared.route.Route.{Route}
use Rattle.srt_route.specs.declared.totals.Totals.{Totals}
use Rattle.srt_route.specs.declared.view.SessionView.{SessionView}
use Rattle.srt_route.specs.Ledgers.{opened_in}
use Rattle.srt_log.specs.declared.snapshots.RouteSnapshot.{RouteSnapshot}
use Rattle.srt_status.specs.declared.route_status.LimitCounts.{LimitCounts}
use Rattle.srt_status.specs.declared.route_status.RouteStatus.{RouteStatus}
use Rattle.srt_watch.specs.Census.{limits_of, status_with, grown_limits, with_look, absence_of}
use Rattle.srt_watch.specs.Log.{most}
use Rattle.srt_watch.specs.RouteLines.{ends_to}
use Rattle.srt_watch.specs.Routes.{place_of, route_at}
use Rattle.srt_watch.specs.Showing.{AreShown, AreSlots, AreEnds, AreTotals}
use Rattle.srt_watch.specs.declared.watched_routes.SnapshotPair.{SnapshotPair}
use Rattle.srt_watch.specs.declared.watched_routes.WatchedRoute.{WatchedRoute}
use Rattle.srt_watch.specs.declared.watched_routes.WatchedRoutes.{WatchedRoutes}

-- a list whose item at a place is changed, if there is one
abbrev pub changed_by : {A : Type 0} → (A → A) → List A → (place : ℕ) → Option A → List A
changed_by f xs place None = xs
changed_by f xs place (Some x) = slice_set xs place (f x)

abbrev pub changed_if : {A : Type 0} → (A → A) → List A → Option ℕ → List A
changed_if f xs None = xs
changed_if f xs (Some place) = changed_by f xs place (slice_get xs place)

-- the place of the status of the route with this index; none if it is no longer in the configuration
abbrev pub place_in : Option WatchedRoute → Option ℕ
place_in None = None
place_in (Some route) = route.place

abbrev pub status_place : WatchedRoutes → (index : ℕ) → Option ℕ
status_place routes index = place_in (route_at routes.routes.items (place_of routes.routes.items index))

abbrev pub status_at : List RouteStatus → Option ℕ → Option RouteStatus
status_at shown None = None
status_at shown (Some place) = slice_get shown place

abbrev pub with_snapshot : RouteSnapshot → WatchedRoute → WatchedRoute
with_snapshot snapshot route = record route { snapshot = snapshot }

abbrev pub with_take_overs : (more : ℕ) → RouteStatus → RouteStatus
with_take_overs more status = record status { take_overs = option_map (λ n. most (n + more)) status.take_overs }

-- the ends between two snapshots more
abbrev pub with_ends : SnapshotPair → RouteStatus → RouteStatus
with_ends pair status = record status { ends = option_map (λ counts. ends_to counts pair.old pair.new 120) status.ends }

-- what the limits of a route refused since its status was updated last
abbrev pub no_limits : LimitCounts
no_limits = record { sessions = 0; reserved = 0; sessions_per_address = 0 }

abbrev pub grown_of : Route → Option RouteStatus → Option LimitCounts
grown_of route None = None
grown_of route (Some status) = grown_limits (unwrap_or status.limits no_limits) (Some (limits_of route))

-- the snapshots before and now, if there is a route
abbrev pub pair_of : Option WatchedRoute → RouteSnapshot → Option LimitCounts → (absent : Option ℕ) → Option SnapshotPair
pair_of before snapshot grown absent = option_map (λ route. record { old = route.snapshot; new = snapshot; grown = grown; absent = absent }) before

-- a snapshot of a route at this time, whose open sessions are these
pub record IsSnapshot (route : Route) (sessions : List (Option SessionView)) (moment : ℕ) (stops : Bool) (snapshot : RouteSnapshot) : Type 0 where
  pub moment_is : snapshot.moment ≡ moment
  pub stops_is : snapshot.stops ≡ stops
  pub slots_are : AreSlots 17 route sessions snapshot.slots
  pub ended_are : AreEnds 17 route snapshot.ended
  pub opened_is : snapshot.opened ≡ opened_in route

-- A route was observed: of the route with this index the snapshot is another one, and the status, and nothing else has changed. The status is
-- noted first; then it is looked whether the route is on air, if that is expected.
pub record HasObserved (old new : WatchedRoutes) (index : ℕ) (route : Route) (moment : ℕ) (stops : Bool) (pair : Option SnapshotPair) : Type 0 where
  pub sessions : List (Option SessionView)
  pub totals : Totals
  pub snapshot : RouteSnapshot
  pub sessions_are : AreShown 17 route sessions
  pub totals_are : AreTotals route totals
  pub snapshot_is : IsSnapshot route sessions moment stops snapshot
  pub routes_are : new.routes.items ≡ changed_if (with_snapshot snapshot) old.routes.items (place_of old.routes.items index)
  pub noted : List RouteStatus
  pub noted_is : noted ≡ changed_if (status_with moment route sessions totals) old.shown.items (status_place old index)
  pub shown_is : new.shown.items ≡ changed_if (with_look stops sessions moment) noted (status_place old index)
  pub pair_is :
      pair
      ≡ pair_of (route_at old.routes.items (place_of old.routes.items index)) snapshot (grown_of route (status_at old.shown.items (status_place old index)))
      (absence_of stops sessions moment (status_at noted (status_place old index)))
