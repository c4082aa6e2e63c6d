-- Routes that open while the gateway runs, and the statuses of all routes after that.
use Rattle.std.proofs.Common.{◌≡◌, ℕ, zero, suc, ◌<◌, List, [], ◌∷◌, ◌++◌, length, map, drop, get_or, Option, None, Some, IfSome, ◌⊎◌, inl, inr}
use Rattle.std.proofs.Common.{refl, sym, ap, ◌∙◌, subst, append_assoc, append-nil, arith}
use Rattle.std.specs.Prelude.{slice_get, slice_set}
use Rattle.srt_config.specs.declared.changes.RouteChange.{RouteChange}
use Rattle.srt_status.specs.declared.route_status.RouteStatus.{RouteStatus}
use Rattle.srt_watch.specs.Placing.{added_by, rest_by, opened_routes, joined, status_by, kept_by, next_statuses, IsKnown, AreKnown}
use Rattle.srt_watch.specs.declared.watched_routes.OpeningRoute.{OpeningRoute}
use Rattle.srt_watch.specs.declared.watched_routes.WatchedRoute.{WatchedRoute}

-- the status at a place, and those that are left once it was taken
pub known_at : (kept : List (Option RouteStatus)) (shown : List RouteStatus) (place : ℕ) (s : RouteStatus) → AreKnown kept shown →
    IfSome (slice_get shown place) (λ x. s ≡ x) → IsKnown (joined (slice_get kept place)) s
known_at [] [] place s k e = tt
known_at [] (x ∷ shown) place s k e = absurd k
known_at (None ∷ kept) (x ∷ shown) zero s k e = tt
known_at (Some y ∷ kept) (x ∷ shown) zero s k e = e ∙ k.0
known_at (y ∷ kept) (x ∷ shown) (suc place) s k e = known_at kept shown place s k.1 e
known_at (y ∷ kept) [] place s k e = absurd k

pub known_without : (kept : List (Option RouteStatus)) (shown : List RouteStatus) (place : ℕ) (s : RouteStatus) → AreKnown kept shown →
    AreKnown (slice_set kept place None) (slice_set shown place s)
known_without [] [] place s k = tt
known_without [] (x ∷ shown) place s k = absurd k
known_without (y ∷ kept) (x ∷ shown) zero s k = (tt, k.1)
known_without (y ∷ kept) (x ∷ shown) (suc place) s k = (k.0, known_without kept shown place s k.1)
known_without (y ∷ kept) [] place s k = absurd k

pub all_known : (shown : List RouteStatus) → AreKnown (map Some shown) shown
all_known [] = tt
all_known (x ∷ shown) = (refl, all_known shown)

-- some of the changes were made, and these are left
pub record ArePartly (all : List (Option RouteStatus)) (whole : List WatchedRoute) (rest : List RouteChange) (left : List ℕ)
    (opening : List OpeningRoute) (routes : List WatchedRoute) (shown list : List RouteStatus) : Type 0 where
  pub kept : List (Option RouteStatus)
  pub stands : AreKnown kept shown
  pub shown_are : (tail : List RouteStatus) → AreKnown (next_statuses kept rest left opening) tail → AreKnown all (list ++ tail)
  pub routes_are : routes ++ opened_routes rest left opening ≡ whole

pub partly_begun : (changes : List RouteChange) (indexes : List ℕ) (opening : List OpeningRoute) (routes : List WatchedRoute) (shown list : List RouteStatus) →
    list ≡ [] → ArePartly (next_statuses (map Some shown) changes indexes opening) (routes ++ opened_routes changes indexes opening)
    changes indexes opening routes shown list
partly_begun changes indexes opening routes shown list none = record {
  kept = map Some shown;
  stands = all_known shown;
  shown_are = λ tail k. subst (λ l. AreKnown (next_statuses (map Some shown) changes indexes opening) (l ++ tail)) (sym none) k;
  routes_are = refl;
}

pub partly_more : (all : List (Option RouteStatus)) (whole : List WatchedRoute) (rest : List RouteChange) (left : List ℕ)
    (o p : List OpeningRoute) (r q : List WatchedRoute) (s t list longer : List RouteStatus) (status : RouteStatus) (c : RouteChange) (i : ℕ) →
    0 < length rest → 0 < length left → ArePartly all whole rest left o r s list →
    ((kept : List (Option RouteStatus)) → AreKnown kept s → IsKnown (status_by (get_or rest 0 c) kept o) status) →
    ((kept : List (Option RouteStatus)) → AreKnown kept s → AreKnown (kept_by (get_or rest 0 c) kept) t) →
    q ≡ r ++ added_by (get_or rest 0 c) (get_or left 0 i) o → p ≡ rest_by (get_or rest 0 c) o → longer ≡ list ++ status ∷ [] →
    ArePartly all whole (drop 1 rest) (drop 1 left) p q t longer
partly_more all whole [] left o p r q s t list longer status c i some many h known more added fewer put = absurd (omega arith)
partly_more all whole (x ∷ rest) [] o p r q s t list longer status c i some many h known more added fewer put = absurd (omega arith)
partly_more all whole (x ∷ rest) (y ∷ left) o p r q s t list longer status c i some many h known more added fewer put = record {
  kept = kept_by x h.kept;
  stands = more h.kept h.stands;
  shown_are = λ tail k.
      subst (λ l. AreKnown all l) (sym (ap (λ (l : List RouteStatus). l ++ tail) put ∙ append_assoc list (status ∷ []) tail))
      (h.shown_are (status ∷ tail)
      (known h.kept h.stands, subst (λ z. AreKnown (next_statuses (kept_by x h.kept) rest left z) tail) fewer k));
  routes_are =
      (λ j. added j ++ opened_routes rest left (fewer j))
      ∙ append_assoc r (added_by x y o) (opened_routes rest left (rest_by x o)) ∙ h.routes_are;
}

-- no change is left
ended : (kept : List (Option RouteStatus)) (rest : List RouteChange) (left : List ℕ) (o : List OpeningRoute) → (length rest ≡ 0) ⊎ (length left ≡ 0) →
    (next_statuses kept rest left o ≡ []) × (opened_routes rest left o ≡ [])
ended kept [] left o e = (refl, refl)
ended kept (x ∷ rest) [] o e = (refl, refl)
ended kept (x ∷ rest) (y ∷ left) o (inl e) = cc
ended kept (x ∷ rest) (y ∷ left) o (inr e) = cc

pub partly_shown : (all : List (Option RouteStatus)) (whole : List WatchedRoute) (rest : List RouteChange) (left : List ℕ)
    (o : List OpeningRoute) (r : List WatchedRoute) (s list : List RouteStatus) → ArePartly all whole rest left o r s list →
    (length rest ≡ 0) ⊎ (length left ≡ 0) → AreKnown all list
partly_shown all whole rest left o r s list h e =
    subst (λ l. AreKnown all l) (append-nil list)
    (h.shown_are [] (subst (λ k. AreKnown k []) (sym (ended h.kept rest left o e).0) tt))

pub partly_routes : (all : List (Option RouteStatus)) (whole : List WatchedRoute) (rest : List RouteChange) (left : List ℕ)
    (o : List OpeningRoute) (r : List WatchedRoute) (s list : List RouteStatus) → ArePartly all whole rest left o r s list →
    (length rest ≡ 0) ⊎ (length left ≡ 0) → r ≡ whole
partly_routes all whole rest left o r s list h e =
    sym (append-nil r) ∙ ap (λ (l : List WatchedRoute). r ++ l) (sym (ended h.kept rest left o e).1) ∙ h.routes_are
