-- The place of each route that is watched among those of the configuration in force, and routes that are added.
use Rattle.std.specs.Prelude.{◌≡◌, ℕ, List, [], ◌∷◌, ◌++◌, map, drop, Option, None, Some, option_map, slice_get, slice_set}
use Rattle.std.specs.Prelude.{if◌then◌else◌}
use Rattle.srt_config.specs.declared.changes.RouteChange.{RouteChange}
use Rattle.srt_config.specs.declared.changes.RouteChange.TheVariants.{Stays, Reopens, Opens}
use Rattle.srt_status.specs.declared.route_status.RouteStatus.{RouteStatus}
use Rattle.srt_watch.specs.Census.{one_more}
use Rattle.srt_watch.specs.Indexes.{opens}
use Rattle.srt_watch.specs.Observing.{changed_if}
use Rattle.srt_watch.specs.Routes.{place_of}
use Rattle.srt_watch.specs.Showing.{first_snapshot}
use Rattle.srt_watch.specs.declared.watched_routes.OpeningRoute.{OpeningRoute}
use Rattle.srt_watch.specs.declared.watched_routes.WatchedRoute.{WatchedRoute}
use Rattle.srt_watch.specs.declared.watched_routes.WatchedRoutes.{WatchedRoutes}

-- the places of all routes: those with these indexes are in the configuration, in this order
abbrev pub unplaced : WatchedRoute → WatchedRoute
unplaced route = record route { place = None }

abbrev pub placed : (place : ℕ) → WatchedRoute → WatchedRoute
placed place route = record route { place = Some place }

abbrev pub placed_from : List WatchedRoute → (place : ℕ) → (indexes : List ℕ) → List WatchedRoute
placed_from routes place [] = routes
placed_from routes place (index ∷ indexes) = placed_from (changed_if (placed place) routes (place_of routes index)) (one_more place) indexes

abbrev pub all_placed : List WatchedRoute → (indexes : List ℕ) → List WatchedRoute
all_placed routes indexes = placed_from (map unplaced routes) 0 indexes

-- a route that opens while the gateway runs, before its place is set
abbrev pub added : (index : ℕ) → OpeningRoute → WatchedRoute
added index opening = record { index = index; name = opening.name; snapshot = first_snapshot; place = None }

-- the first of the routes that open, if one is left
abbrev pub first_of : List OpeningRoute → Option OpeningRoute
first_of [] = None
first_of (opening ∷ more) = Some opening

-- what a change of a route adds to the routes that are watched, and which routes open after it
abbrev pub added_if : (index : ℕ) → Option OpeningRoute → List WatchedRoute
added_if index None = []
added_if index (Some opening) = added index opening ∷ []

abbrev pub added_by : RouteChange → (index : ℕ) → List OpeningRoute → List WatchedRoute
added_by change index opening = if opens change then added_if index (first_of opening) else []

abbrev pub rest_by : RouteChange → List OpeningRoute → List OpeningRoute
rest_by change opening = if opens change then drop 1 opening else opening

-- the routes that are added by these changes, each with its index, in their order
abbrev pub opened_routes : List RouteChange → (indexes : List ℕ) → List OpeningRoute → List WatchedRoute
opened_routes [] indexes opening = []
opened_routes (change ∷ changes) [] opening = []
opened_routes (change ∷ changes) (index ∷ indexes) opening = added_by change index opening ++ opened_routes changes indexes (rest_by change opening)

-- the status of a route after a change: of one that stays the one before, which isn't known once it was taken, and of one that opens its first one.
abbrev pub joined : Option (Option RouteStatus) → Option RouteStatus
joined None = None
joined (Some status) = status

abbrev pub first_status : List OpeningRoute → Option RouteStatus
first_status opening = option_map (λ o. o.status) (first_of opening)

abbrev pub status_by : RouteChange → (kept : List (Option RouteStatus)) → List OpeningRoute → Option RouteStatus
status_by (Stays place) kept opening = joined (slice_get kept place)
status_by (Reopens place) kept opening = first_status opening
status_by Opens kept opening = first_status opening

abbrev pub kept_by : RouteChange → (kept : List (Option RouteStatus)) → List (Option RouteStatus)
kept_by (Stays place) kept = slice_set kept place None
kept_by (Reopens place) kept = kept
kept_by Opens kept = kept

-- one for each route of a changed configuration, in its order
abbrev pub next_statuses : (kept : List (Option RouteStatus)) → List RouteChange → (indexes : List ℕ) → List OpeningRoute → List (Option RouteStatus)
next_statuses kept [] indexes opening = []
next_statuses kept (change ∷ changes) [] opening = []
next_statuses kept (change ∷ changes) (index ∷ indexes) opening =
    status_by change kept opening ∷ next_statuses (kept_by change kept) changes indexes (rest_by change opening)

-- these are the statuses, as far as they are known
abbrev pub IsKnown : Option RouteStatus → RouteStatus → Type 0
IsKnown None status = Unit {0}
IsKnown (Some known) status = status ≡ known

abbrev pub AreKnown : List (Option RouteStatus) → List RouteStatus → Type 0
AreKnown [] [] = Unit {0}
AreKnown [] (status ∷ statuses) = ⊥
AreKnown (known ∷ more) [] = ⊥
AreKnown (known ∷ more) (status ∷ statuses) = IsKnown known status × AreKnown more statuses

-- A changed configuration is in force: the routes of before come first, those that opened follow, each has its place, and each route of the
-- configuration its status.
pub record IsRouted (old new : WatchedRoutes) (changes : List RouteChange) (indexes : List ℕ) (opening : List OpeningRoute) : Type 0 where
  pub routes_are : new.routes.items ≡ all_placed (old.routes.items ++ opened_routes changes indexes opening) indexes
  pub shown_are : AreKnown (next_statuses (map Some old.shown.items) changes indexes opening) new.shown.items
