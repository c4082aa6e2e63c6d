-- The routes with which a run begins, one by one.
use Rattle.std.proofs.Common.{◌≡◌, ℕ, suc, ◌+◌, List, [], ◌∷◌, ◌++◌, length, map, take, get_or, ◌<◌, refl, sym, ap, subst, arith}
use Rattle.srt_types.specs.declared.shared.Entry.{Entry}
use Rattle.srt_types.specs.Terms.{Terms, terms_of}
use Rattle.srt_status.specs.declared.route_status.RouteStatus.{RouteStatus}
use Rattle.srt_watch.proofs.Appended.{mapped}
use Rattle.srt_watch.specs.FirstRoutes.{IsFirst, AreFirst, AreFresh, HasShownMore, HasOpened}
use Rattle.srt_watch.specs.Openings.{IsFresh}
use Rattle.srt_watch.specs.declared.watched_routes.WatchedRoute.{WatchedRoute}
use Rattle.srt_watch.specs.declared.watched_routes.WatchedRoutes.{WatchedRoutes}

-- there are as many statuses as routes
as_many : (all : List Terms) (shown : List RouteStatus) → AreFresh all shown → length shown ≡ length all
as_many [] [] f = refl
as_many [] (s ∷ shown) f = absurd f
as_many (t ∷ all) [] f = absurd f
as_many (t ∷ all) (s ∷ shown) f = ap suc (as_many all shown f.1)

-- one more route, and its status
first_more : (place at : ℕ) (all : List Terms) (routes : List WatchedRoute) (terms : Terms) (route : WatchedRoute) → at ≡ place + length all →
    AreFirst place all routes → IsFirst at terms route → AreFirst place (all ++ terms ∷ []) (routes ++ route ∷ [])
first_more place at [] [] terms route e f is = (subst (λ p. IsFirst p terms route) (let same : at ≡ place = omega (arith, e) in same) is, tt)
first_more place at [] (r ∷ routes) terms route e f is = absurd f
first_more place at (t ∷ all) [] terms route e f is = absurd f
first_more place at (t ∷ all) (r ∷ routes) terms route e f is =
    (f.0, first_more (suc place) at all routes terms route (let next : at ≡ suc place + length all = omega (arith, e) in next) f.1 is)

fresh_more : (all : List Terms) (shown : List RouteStatus) (terms : Terms) (status : RouteStatus) → AreFresh all shown → IsFresh terms status →
    AreFresh (all ++ terms ∷ []) (shown ++ status ∷ [])
fresh_more [] [] terms status f is = (is, tt)
fresh_more [] (s ∷ shown) terms status f is = absurd f
fresh_more (t ∷ all) [] terms status f is = absurd f
fresh_more (t ∷ all) (s ∷ shown) terms status f is = (f.0, fresh_more all shown terms status f.1 is)

opened_more : (all : List Terms) (old new : WatchedRoutes) (terms : Terms) → HasOpened all old → HasShownMore terms old new →
    HasOpened (all ++ terms ∷ []) new
opened_more all old new terms h m = record {
  routes_are = subst (λ l. AreFirst 0 (all ++ terms ∷ []) l) (sym m.routes_are)
      (first_more 0 (length old.shown.items) all old.routes.items terms m.route
      (let many = as_many all old.shown.items h.shown_are in let at : length old.shown.items ≡ 0 + length all = omega (arith, many) in at)
      h.routes_are m.route_is);
  shown_are = subst (λ l. AreFresh (all ++ terms ∷ []) l) (sym m.shown_are)
      (fresh_more all old.shown.items terms m.status h.shown_are m.status_is);
}

pub opened_next : (entries : List Entry) (i : ℕ) (old new : WatchedRoutes) (e : Entry) → i < length entries → HasOpened (map terms_of (take i entries)) old →
    HasShownMore (terms_of (get_or entries i e)) old new → HasOpened (map terms_of (take (i + 1) entries)) new
opened_next entries i old new e within h m =
    subst (λ l. HasOpened l new) (sym (mapped terms_of e entries i within)) (opened_more (map terms_of (take i entries)) old new _ h m)

pub opened_none : (routes : WatchedRoutes) → routes.routes.items ≡ [] → routes.shown.items ≡ [] → HasOpened [] routes
opened_none routes r s = record {
  routes_are = subst (λ l. AreFirst 0 [] l) (sym r) tt;
  shown_are = subst (λ l. AreFresh [] l) (sym s) tt;
}
