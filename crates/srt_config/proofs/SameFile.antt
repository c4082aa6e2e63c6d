-- A configuration that is the same as the one before requests nothing.
use Rattle.std.proofs.Common.{◌≡◌, ℕ, zero, suc, ◌+◌, ◌==◌, ◌&&◌, Bool, true, false, not, cond, Option, None, Some, List, [], ◌∷◌, ◌++◌, length}
use Rattle.std.proofs.Common.{slice_get, refl, sym, ap, ◌∙◌, arith}
use Rattle.std.specs.Str.{bytes_eq}
use Rattle.std.proofs.lemmas.Bool.{and_parts, or_parts}
use Rattle.std.proofs.lemmas.Bool.Decides.{Decides-eqb}
use Rattle.std.proofs.lemmas.Slice.Eq.{bytes_eq-Decides}
use Rattle.srt_types.specs.declared.shared.Schedule.{Schedule}
use Rattle.srt_types.specs.Terms.{Terms}
use Rattle.srt_types.specs.Entries.{is_name}
use Rattle.srt_lobby.specs.Opening.{is_taken, is_fresh, are_names}
use Rattle.srt_config.specs.declared.changes.RouteChange.{RouteChange}
use Rattle.srt_config.specs.declared.changes.RouteChange.TheVariants.{Stays, Reopens}
use Rattle.srt_config.specs.Address.{Address}
use Rattle.srt_config.specs.Config.{Settings}
use Rattle.srt_config.specs.SameKeys.{same_if}
use Rattle.srt_config.specs.Changes.{place_from, place_of, has_terms, has_schedule, change_at, change_of, changes_of, gone_at, gone_from}
use Rattle.srt_config.specs.Changes.{same_address, fixed_keys}
use Rattle.srt_config.specs.ChangeLaws.{all_stay, none_fixed, SameRequestsNothing}
use Rattle.srt_config.proofs.Sameness.{terms_decide, schedules_decide}

-- the tests of what is the same
same_text : (text : List ℕ) → bytes_eq text text ≡ true
same_text text = (bytes_eq-Decides text text).1 refl

same_number : (n : ℕ) → (n == n) ≡ true
same_number n = (Decides-eqb n n).1 refl

both : (a b : Bool) → a ≡ true → b ≡ true → (a && b) ≡ true
both a b p q = ap (λ (t : Bool). t && b) p ∙ q

own_address : (a : Address) → same_address a a ≡ true
own_address a = both (bytes_eq a.ip a.ip) (a.port == a.port) (same_text a.ip) (same_number a.port)

own_page : (a : Option Address) → same_if same_address a a ≡ true
own_page None = refl
own_page (Some a) = own_address a

none_differs : (s : Settings) → fixed_keys s s ≡ none_fixed
none_differs s = λ i. record {
  secret = not (same_text s.secret i);
  bind = not (own_address s.bind i);
  workers = not (same_number s.workers i);
  status = not (own_page s.status i);
}

-- a name that isn't taken is that of none of these routes
not_its : (name : List ℕ) (routes : List Terms) (at : ℕ) (e : Terms) → is_taken name routes ≡ false → slice_get routes at ≡ Some e →
    bytes_eq e.name name ≡ false
not_its name [] at e free there = cc
not_its name (x ∷ routes) zero e free there =
    let same : x ≡ e = cc in
    ap (λ (t : Terms). bytes_eq t.name name) (sym same) ∙ (or_parts (bytes_eq x.name name) (is_taken name routes) free).0
not_its name (x ∷ routes) (suc at) e free there =
    not_its name routes at e (or_parts (bytes_eq x.name name) (is_taken name routes) free).1 there

-- a route among distinct names is found at its place
own_place : (first : ℕ) (routes : List Terms) (at : ℕ) (e : Terms) → are_names routes ≡ true → slice_get routes at ≡ Some e →
    place_from first e.name routes ≡ Some (at + first)
own_place first [] at e named there = cc
own_place first (x ∷ routes) zero e named there =
    let same : e ≡ x = cc in
    ap (λ (b : Bool). cond b (Some first) (place_from (suc first) e.name routes))
    (ap (λ (t : Terms). bytes_eq e.name t.name) (sym same) ∙ same_text e.name)
    ∙ ap Some (let sums : first ≡ 0 + first = omega arith in sums)
own_place first (x ∷ routes) (suc at) e named there =
    let parts = and_parts (is_fresh x routes) (are_names routes) named in
    let free : is_taken x.name routes ≡ false = not_true (is_taken x.name routes) (and_parts (is_name x.name) (not (is_taken x.name routes)) parts.0).1 in
    ap (λ (b : Bool). cond b (Some first) (place_from (suc first) e.name routes)) (not_its x.name routes at e free there)
    ∙ own_place (suc first) routes at e parts.1 there
    ∙ ap Some (let sums : at + suc first ≡ suc at + first = omega arith in sums)
  where
    not_true : (b : Bool) → not b ≡ true → b ≡ false
    not_true true p = sym p
    not_true false p = refl

first_is : (place : ℕ) → place ≡ 0 + place
first_is place = omega arith

module _ (s : Settings) where
  -- these routes and schedules are in the configuration from this place on
  abbrev AreFrom : (place : ℕ) → List Terms → List Schedule → Type 0
  AreFrom place routes schedules =
      ((at : ℕ) (e : Terms) → slice_get routes at ≡ Some e → slice_get s.routes (at + place) ≡ Some e) ×
      ((at : ℕ) (c : Schedule) → slice_get schedules at ≡ Some c → slice_get s.schedules (at + place) ≡ Some c)

  behind : (place : ℕ) (e : Terms) (routes : List Terms) (c : Schedule) (schedules : List Schedule) →
      AreFrom place (e ∷ routes) (c ∷ schedules) → AreFrom (suc place) routes schedules
  behind place e routes c schedules from = (
    λ at x p. ap (slice_get s.routes) (let sums : at + suc place ≡ suc at + place = omega arith in sums) ∙ from.0 (suc at) x p,
    λ at x p. ap (slice_get s.schedules) (let sums : at + suc place ≡ suc at + place = omega arith in sums) ∙ from.1 (suc at) x p,
  )

  module _ (named : are_names s.routes ≡ true) where
    found : (place : ℕ) (e : Terms) → slice_get s.routes place ≡ Some e → place_of e.name s.routes ≡ Some place
    found place e there = own_place 0 s.routes place e named there ∙ ap Some (let sums : place + 0 ≡ place = omega arith in sums)

    one_stays : (place : ℕ) (e : Terms) (c : Schedule) → slice_get s.routes place ≡ Some e → slice_get s.schedules place ≡ Some c →
        change_of s e c ≡ Stays place
    unfolding change_of
    one_stays place e c there then =
        ap (change_at s e c) (found place e there)
        ∙ ap (λ (b : Bool). cond b (Stays place) (Reopens place))
        (both (has_terms e (slice_get s.routes place)) (has_schedule c (slice_get s.schedules place))
        (ap (has_terms e) there ∙ (terms_decide e e).1 refl) (ap (has_schedule c) then ∙ (schedules_decide c c).1 refl))

    each_stays : (place : ℕ) (routes : List Terms) (schedules : List Schedule) → length schedules ≡ length routes →
        AreFrom place routes schedules → changes_of s routes schedules ≡ all_stay place routes
    each_stays place [] schedules many from = refl
    each_stays place (e ∷ routes) [] many from = cc
    each_stays place (e ∷ routes) (c ∷ schedules) many from =
        let there = ap (slice_get s.routes) (first_is place) ∙ from.0 zero e refl in
        let then = ap (slice_get s.schedules) (first_is place) ∙ from.1 zero c refl in
        ap (λ (x : RouteChange). x ∷ changes_of s routes schedules) (one_stays place e c there then)
        ∙ ap (λ (xs : List RouteChange). Stays place ∷ xs)
        (each_stays (suc place) routes schedules (let fewer : length schedules ≡ length routes = omega (arith, many) in fewer)
        (behind place e routes c schedules from))

    none_goes : (place : ℕ) (routes : List Terms) →
        ((at : ℕ) (e : Terms) → slice_get routes at ≡ Some e → slice_get s.routes (at + place) ≡ Some e) → gone_from place s.routes routes ≡ []
    none_goes place [] from = refl
    none_goes place (e ∷ routes) from =
        ap (λ (o : Option ℕ). gone_at place o ++ gone_from (suc place) s.routes routes)
        (found place e (ap (slice_get s.routes) (first_is place) ∙ from zero e refl))
        ∙ none_goes (suc place) routes
        (λ at x p. ap (slice_get s.routes) (let sums : at + suc place ≡ suc at + place = omega arith in sums) ∙ from (suc at) x p)

pub same_requests_nothing : SameRequestsNothing
same_requests_nothing s named many =
    let all : (at : ℕ) → at + 0 ≡ at = λ at. omega arith in
    let routes_are = λ (at : ℕ) (e : Terms) (p : slice_get s.routes at ≡ Some e). ap (slice_get s.routes) (all at) ∙ p in
    let schedules_are = λ (at : ℕ) (c : Schedule) (p : slice_get s.schedules at ≡ Some c). ap (slice_get s.schedules) (all at) ∙ p in
    λ i. record {
      fixed = none_differs s i;
      routes = each_stays s named 0 s.routes s.schedules many (routes_are, schedules_are) i;
      gone = none_goes s named 0 s.routes routes_are i;
    }
