-- The routes of a run, as they are watched.
use Rattle.std.specs.Prelude.{ℕ, ◌-◌, ◌==◌, Bool, false, List, [], length, Option, None, Some, slice_get, string_bytes}
use Rattle.std.specs.Prelude.{if◌then◌else◌}
use Rattle.std.specs.List.{position}
use Rattle.srt_watch.specs.declared.watched_routes.WatchedRoute.{WatchedRoute}
use Rattle.srt_watch.specs.declared.watched_routes.WatchedRoutes.{WatchedRoutes}
use Rattle.srt_watch.specs.Census.{one_more}

-- the number of indexes that are used: the last route has the highest one
abbrev pub used_by : Option WatchedRoute → ℕ
used_by None = 0
used_by (Some route) = one_more route.index

abbrev pub used_of : List WatchedRoute → ℕ
used_of routes = used_by (slice_get routes (length routes - 1))

-- a route is there, and has this index
abbrev pub has_index : (index : ℕ) → WatchedRoute → Bool
has_index index route = route.index == index

abbrev pub is_of : (index : ℕ) → Option WatchedRoute → Bool
is_of index None = false
is_of index (Some route) = has_index index route

-- the place of the route with this index: the same as the index, if it is there, otherwise the first place where it is
abbrev pub place_of : List WatchedRoute → (index : ℕ) → Option ℕ
place_of routes index = if is_of index (slice_get routes index) then Some index else position (has_index index) routes

-- the route at a place, if there is one
abbrev pub route_at : List WatchedRoute → Option ℕ → Option WatchedRoute
route_at routes None = None
route_at routes (Some place) = slice_get routes place

abbrev pub name_in : Option WatchedRoute → List ℕ
name_in None = []
name_in (Some route) = string_bytes route.name

-- the name of the route with this index, closed or not; empty if there is none
abbrev pub name_of : WatchedRoutes → (index : ℕ) → List ℕ
name_of routes index = name_in (route_at routes.routes.items (place_of routes.routes.items index))

-- the name that a refused conclusion requested; if a route refused it, that is the route's name
abbrev pub requested_by : WatchedRoutes → (name : List ℕ) → Option ℕ → List ℕ
requested_by routes name None = name
requested_by routes name (Some index) = name_of routes index
