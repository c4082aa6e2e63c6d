-- The places of all routes, one by one.
use Rattle.std.proofs.Common.{◌≡◌, ℕ, zero, suc, ◌+◌, ◌<◌, List, [], ◌∷◌, length, map, set, drop, get_or, refl, ap, ◌∙◌, arith, add-one}
use Rattle.srt_watch.specs.Census.{one_more}
use Rattle.srt_watch.specs.Observing.{changed_if}
use Rattle.srt_watch.specs.Placing.{unplaced, placed, placed_from}
use Rattle.srt_watch.specs.Routes.{place_of}
use Rattle.srt_watch.specs.declared.watched_routes.WatchedRoute.{WatchedRoute}

-- the first n routes have no place
unfoldable pub unplaced_to : (n : ℕ) → List WatchedRoute → List WatchedRoute
unplaced_to zero routes = routes
unplaced_to (suc n) [] = []
unplaced_to (suc n) (route ∷ routes) = unplaced route ∷ unplaced_to n routes

pub unplaced_none : (routes : List WatchedRoute) → unplaced_to 0 routes ≡ routes
unfolding unplaced_to
unplaced_none routes = refl

pub unplaced_length : (n : ℕ) (routes : List WatchedRoute) → length (unplaced_to n routes) ≡ length routes
unfolding unplaced_to
unplaced_length zero routes = refl
unplaced_length (suc n) [] = refl
unplaced_length (suc n) (route ∷ routes) = ap suc (unplaced_length n routes)

unplaced_set : (n : ℕ) (routes : List WatchedRoute) (d : WatchedRoute) → n < length routes →
    set (unplaced_to n routes) n (unplaced (get_or (unplaced_to n routes) n d)) ≡ unplaced_to (suc n) routes
unfolding unplaced_to
unplaced_set n [] d within = absurd (omega arith)
unplaced_set zero (route ∷ routes) d within = refl
unplaced_set (suc n) (route ∷ routes) d within = ap (λ l. unplaced route ∷ l) (unplaced_set n routes d (omega (arith, within)))

pub unplaced_next : (n : ℕ) (routes now : List WatchedRoute) (d : WatchedRoute) → n < length routes → now ≡ unplaced_to n routes →
    set now n (unplaced (get_or now n d)) ≡ unplaced_to (n + 1) routes
unplaced_next n routes now d within is = (λ i. set (is i) n (unplaced (get_or (is i) n d))) ∙ unplaced_set n routes d within ∙ rw add-one refl

pub unplaced_all : (routes : List WatchedRoute) → unplaced_to (length routes) routes ≡ map unplaced routes
unfolding unplaced_to
unplaced_all [] = refl
unplaced_all (route ∷ routes) = ap (λ l. unplaced route ∷ l) (unplaced_all routes)

-- the first index and the others
pub placed_step : (routes : List WatchedRoute) (place : ℕ) (indexes : List ℕ) (index : ℕ) → 0 < length indexes →
    placed_from routes place indexes
    ≡ placed_from (changed_if (placed place) routes (place_of routes (get_or indexes 0 index))) (one_more place) (drop 1 indexes)
placed_step routes place [] index some = absurd (omega arith)
placed_step routes place (x ∷ indexes) index some = refl

pub placed_end : (routes : List WatchedRoute) (place : ℕ) (indexes : List ℕ) → length indexes ≡ 0 → placed_from routes place indexes ≡ routes
placed_end routes place [] none = refl
placed_end routes place (x ∷ indexes) none = cc
