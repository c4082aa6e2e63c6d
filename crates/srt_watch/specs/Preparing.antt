-- A change of the run's routes as it is prepared, route by route.
use Rattle.std.specs.Prelude.{◌≡◌, ℕ, List, [], ◌∷◌, ◌++◌, map, Some, slice_get}
use Rattle.std.specs.Fmt.Cut.{IsTextOrCut}
use Rattle.std.specs.Fmt.InlineText.{inline_text}
use Rattle.std.specs.declared.fmt.InlineText.{InlineText}
use Rattle.srt_types.specs.Terms.{Terms, terms_of}
use Rattle.srt_config.specs.declared.changes.RouteChange.{RouteChange}
use Rattle.srt_watch.specs.Indexes.{index_at, closing, reopened_at, counted, numbers_of}
use Rattle.srt_watch.specs.Openings.{IsOpening, AreOpening}
use Rattle.srt_watch.specs.Requests.{opened_at, opened_by}
use Rattle.srt_watch.specs.declared.prepared_change.NoRoom.{NoRoom}
use Rattle.srt_watch.specs.declared.prepared_change.NoRoom.TheVariants.{Route, Lists}
use Rattle.srt_watch.specs.declared.prepared_change.Preparation.{Preparation}
use Rattle.srt_watch.specs.declared.watched_routes.OpeningRoute.{OpeningRoute}

-- Of a change nothing is prepared but that the routes at these places close, whose names are gone.
pub record HasClosings (indexes gone : List ℕ) (p : Preparation) : Type 0 where
  pub numbers_are : p.numbers ≡ numbers_of gone []
  pub closes_are : p.closes.items ≡ map (index_at indexes) gone
  pub entries_are : p.entries.items ≡ []
  pub opening_are : p.opening.items ≡ []

-- a route with these terms more that is to open
pub record HasOpening (terms : Terms) (old new : List OpeningRoute) : Type 0 where
  pub route : OpeningRoute
  pub route_is : IsOpening terms route
  pub new_is : new ≡ old ++ route ∷ []

-- A route more of the changed configuration, with these terms: it is counted; the route of before closes, and the new one opens, if it has to.
pub record HasPrepared (indexes : List ℕ) (change : RouteChange) (terms : Terms) (old new : Preparation) : Type 0 where
  pub numbers_are : new.numbers ≡ counted old.numbers change
  pub closes_are : new.closes.items ≡ old.closes.items ++ reopened_at indexes change
  pub opens_are : map terms_of new.entries.items ≡ map terms_of old.entries.items ++ opened_at change terms
  pub opening : List OpeningRoute
  pub opening_is : AreOpening (opened_at change terms) opening
  pub opening_are : new.opening.items ≡ old.opening.items ++ opening

-- All of a change to a configuration with these routes: the numbers, the routes that close, and those that open, of each of which the run gets
-- the entry, and the watcher keeps the name and the status.
pub record IsPrepared (indexes gone : List ℕ) (changes : List RouteChange) (terms : List Terms) (p : Preparation) : Type 0 where
  pub numbers_are : p.numbers ≡ numbers_of gone changes
  pub closes_are : p.closes.items ≡ closing indexes gone changes
  pub opens_are : map terms_of p.entries.items ≡ opened_by changes terms
  pub opening_are : AreOpening (opened_by changes terms) p.opening.items

-- there was no memory for the route with these terms, which is named, or for something that isn't
abbrev pub NamesRoute : Terms → NoRoom → Type 0
NamesRoute terms (Route name want) = IsTextOrCut 64 terms.name (inline_text name)
NamesRoute terms (Lists want) = ⊥

abbrev pub NamesNone : NoRoom → Type 0
NamesNone (Route name want) = ⊥
NamesNone (Lists want) = Unit {0}

-- There was none for one of these routes, which open, and that one is named.
pub record NamesOne (opens : List Terms) (name : InlineText 64) : Type 0 where
  pub place : ℕ
  pub route : Terms
  pub route_at : slice_get opens place ≡ Some route
  pub name_is : IsTextOrCut 64 route.name (inline_text name)

-- why there is no room for a change by which these routes open
abbrev pub IsNoRoom : (opens : List Terms) → NoRoom → Type 0
IsNoRoom opens (Route name want) = NamesOne opens name
IsNoRoom opens (Lists want) = Unit {0}
