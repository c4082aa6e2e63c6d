-- The routes with which a run begins.
use Rattle.std.specs.Prelude.{◌≡◌, ℕ, suc, List, [], ◌∷◌, ◌++◌, length, Some, string_bytes}
use Rattle.srt_types.specs.Terms.{Terms}
use Rattle.srt_status.specs.declared.route_status.RouteStatus.{RouteStatus}
use Rattle.srt_watch.specs.Openings.{IsFresh}
use Rattle.srt_watch.specs.Showing.{first_snapshot}
use Rattle.srt_watch.specs.declared.watched_routes.WatchedRoute.{WatchedRoute}
use Rattle.srt_watch.specs.declared.watched_routes.WatchedRoutes.{WatchedRoutes}

-- the route with these terms at a place of the configuration, before its first snapshot: its index is that place
pub record IsFirst (place : ℕ) (terms : Terms) (route : WatchedRoute) : Type 0 where
  pub index_is : route.index ≡ place
  pub name_is : string_bytes route.name ≡ terms.name
  pub snapshot_is : route.snapshot ≡ first_snapshot
  pub place_is : route.place ≡ Some place

-- the routes from a place on
abbrev pub AreFirst : (place : ℕ) → List Terms → List WatchedRoute → Type 0
AreFirst place [] [] = Unit {0}
AreFirst place [] (route ∷ routes) = ⊥
AreFirst place (terms ∷ more) [] = ⊥
AreFirst place (terms ∷ more) (route ∷ routes) = IsFirst place terms route × AreFirst (suc place) more routes

-- their statuses
abbrev pub AreFresh : List Terms → List RouteStatus → Type 0
AreFresh [] [] = Unit {0}
AreFresh [] (status ∷ statuses) = ⊥
AreFresh (terms ∷ more) [] = ⊥
AreFresh (terms ∷ more) (status ∷ statuses) = IsFresh terms status × AreFresh more statuses

-- one more, with these terms, behind those that are shown
pub record HasShownMore (terms : Terms) (old new : WatchedRoutes) : Type 0 where
  pub route : WatchedRoute
  pub status : RouteStatus
  pub route_is : IsFirst (length old.shown.items) terms route
  pub status_is : IsFresh terms status
  pub routes_are : new.routes.items ≡ old.routes.items ++ route ∷ []
  pub shown_are : new.shown.items ≡ old.shown.items ++ status ∷ []

-- The routes of a run that begins with a configuration which has these routes: each is watched and shown, at its place.
pub record HasOpened (terms : List Terms) (routes : WatchedRoutes) : Type 0 where
  pub routes_are : AreFirst 0 terms routes.routes.items
  pub shown_are : AreFresh terms routes.shown.items
