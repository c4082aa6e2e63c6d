-- A change that is prepared route by route.
use Rattle.std.proofs.Common.{◌≡◌, ℕ, ◌<◌, List, [], ◌∷◌, ◌++◌, length, map, drop, get_or, refl, sym, ap, ◌∙◌, subst, append_assoc, append-nil, suc, arith}
use Rattle.std.proofs.Common.{◌==◌, false, true, if◌then◌else◌, Some, slice_get}
use Rattle.std.proofs.lemmas.Bool.Decides.{nat_tests}
use Rattle.std.specs.List.{flat_map}
use Rattle.srt_types.specs.declared.shared.Entry.{Entry}
use Rattle.srt_types.specs.declared.shared.Schedule.{Schedule}
use Rattle.srt_types.specs.Terms.{Terms, terms_of}
use Rattle.srt_config.specs.Changes.{changes_of}
use Rattle.srt_config.specs.Config.{Settings}
use Rattle.srt_config.specs.declared.changes.RouteChange.{RouteChange}
use Rattle.srt_watch.specs.Following.{IsWanted}
use Rattle.srt_watch.specs.Indexes.{closing, reopened_at, counted_all, numbers_of, opens}
use Rattle.srt_watch.specs.Openings.{AreOpening}
use Rattle.srt_watch.specs.Preparing.{HasClosings, HasPrepared, IsPrepared, NamesRoute, NamesNone, IsNoRoom}
use Rattle.srt_watch.specs.Requests.{opened_at, opened_by}
use Rattle.srt_watch.specs.declared.in_force.InForce.{InForce}
use Rattle.srt_watch.specs.declared.in_force.Wanted.{Wanted}
use Rattle.srt_watch.specs.declared.prepared_change.NoRoom.{NoRoom}
use Rattle.srt_watch.specs.declared.prepared_change.NoRoom.TheVariants.{Route, Lists}
use Rattle.srt_watch.specs.declared.prepared_change.Preparation.{Preparation}
use Rattle.srt_watch.specs.declared.watched_routes.OpeningRoute.{OpeningRoute}

-- some routes were added, and these are left
pub record IsPartly (indexes gone : List ℕ) (all : List RouteChange) (terms : List Terms) (rest : List RouteChange) (left : List Entry) (p : Preparation) :
    Type 0 where
  pub numbers_are : counted_all p.numbers rest ≡ numbers_of gone all
  pub closes_are : p.closes.items ++ flat_map (reopened_at indexes) rest ≡ closing indexes gone all
  pub opens_are : map terms_of p.entries.items ++ opened_by rest (map terms_of left) ≡ opened_by all terms
  pub opening_are : (tail : List OpeningRoute) → AreOpening (opened_by rest (map terms_of left)) tail →
      AreOpening (opened_by all terms) (p.opening.items ++ tail)

-- routes that are to open, and others
opening_both : (a b : List Terms) (x y : List OpeningRoute) → AreOpening a x → AreOpening b y → AreOpening (a ++ b) (x ++ y)
opening_both [] b [] y f g = g
opening_both [] b (r ∷ x) y f g = absurd f
opening_both (t ∷ a) b [] y f g = absurd f
opening_both (t ∷ a) b (r ∷ x) y f g = (f.0, opening_both a b x y f.1 g)

pub partly_begun : (indexes gone : List ℕ) (all : List RouteChange) (entries : List Entry) (p : Preparation) → HasClosings indexes gone p →
    IsPartly indexes gone all (map terms_of entries) all entries p
unfolding closing
partly_begun indexes gone all entries p b = record {
  numbers_are = ap (λ n. counted_all n all) b.numbers_are;
  closes_are = ap (λ (l : List ℕ). l ++ flat_map (reopened_at indexes) all) b.closes_are;
  opens_are = ap (λ (l : List Entry). map terms_of l ++ opened_by all (map terms_of entries)) b.entries_are;
  opening_are = λ tail k. subst (λ (l : List OpeningRoute). AreOpening (opened_by all (map terms_of entries)) (l ++ tail)) (sym b.opening_are) k;
}

-- one more
pub partly_more : (indexes gone : List ℕ) (all : List RouteChange) (terms : List Terms) (rest : List RouteChange) (left : List Entry)
    (p q : Preparation) (c : RouteChange) (e : Entry) → 0 < length rest → length rest ≡ length left → IsPartly indexes gone all terms rest left p →
    HasPrepared indexes (get_or rest 0 c) (terms_of (get_or left 0 e)) p q → IsPartly indexes gone all terms (drop 1 rest) (drop 1 left) q
partly_more indexes gone all terms [] left p q c e some many h k = absurd (omega arith)
partly_more indexes gone all terms (x ∷ rest) [] p q c e some many h k = absurd (omega (arith, many))
partly_more indexes gone all terms (x ∷ rest) (y ∷ left) p q c e some many h k = record {
  numbers_are = ap (λ n. counted_all n rest) k.numbers_are ∙ h.numbers_are;
  closes_are =
      ap (λ (l : List ℕ). l ++ flat_map (reopened_at indexes) rest) k.closes_are
      ∙ append_assoc p.closes.items (reopened_at indexes x) (flat_map (reopened_at indexes) rest) ∙ h.closes_are;
  opens_are =
      ap (λ (l : List Terms). l ++ opened_by rest (map terms_of left)) k.opens_are
      ∙ append_assoc (map terms_of p.entries.items) (opened_at x (terms_of y)) (opened_by rest (map terms_of left)) ∙ h.opens_are;
  opening_are = λ tail more.
      subst (λ (l : List OpeningRoute). AreOpening (opened_by all terms) l)
      (sym (ap (λ (l : List OpeningRoute). l ++ tail) k.opening_are ∙ append_assoc p.opening.items k.opening tail))
      (h.opening_are (k.opening ++ tail) (opening_both (opened_at x (terms_of y)) (opened_by rest (map terms_of left)) k.opening tail k.opening_is more));
}

some_of : (n : ℕ) → (n == 0) ≡ false → 0 < n
some_of n some = grind (arith, nat_tests, some)

-- the same by the code's tests, and for the slices that are left
pub partly_kept : (indexes gone : List ℕ) (all : List RouteChange) (terms : List Terms) (rest fewer : List RouteChange) (left others : List Entry)
    (p q : Preparation) (change first : RouteChange) (entry one : Entry) → (length rest == 0) ≡ false → length rest ≡ length left →
    change ≡ get_or rest 0 first → entry ≡ get_or left 0 one → fewer ≡ drop 1 rest → others ≡ drop 1 left → IsPartly indexes gone all terms rest left p →
    HasPrepared indexes change (terms_of entry) p q → IsPartly indexes gone all terms fewer others q
partly_kept indexes gone all terms rest fewer left others p q change first entry one some many ec ee er eo h k =
    subst (λ l. IsPartly indexes gone all terms l others q) (sym er)
    (subst (λ l. IsPartly indexes gone all terms (drop 1 rest) l q) (sym eo)
    (partly_more indexes gone all terms rest left p q first one (some_of _ some) many h
    (subst (λ e. HasPrepared indexes (get_or rest 0 first) (terms_of e) p q) ee (subst (λ x. HasPrepared indexes x (terms_of entry) p q) ec k))))

pub fewer_by_one : {A B : Type 0} (xs : List A) (ys : List B) → length xs ≡ length ys → length (drop 1 xs) ≡ length (drop 1 ys)
fewer_by_one [] [] many = refl
fewer_by_one [] (y ∷ ys) many = cc
fewer_by_one (x ∷ xs) [] many = cc
fewer_by_one (x ∷ xs) (y ∷ ys) many = let fewer : length xs ≡ length ys = omega (arith, many) in fewer

-- none is left
pub partly_done : (indexes gone : List ℕ) (all : List RouteChange) (terms : List Terms) (rest : List RouteChange) (left : List Entry) (p : Preparation) →
    length rest ≡ 0 → IsPartly indexes gone all terms rest left p → IsPrepared indexes gone all terms p
partly_done indexes gone all terms [] left p none h = record {
  numbers_are = h.numbers_are;
  closes_are = sym (append-nil p.closes.items) ∙ h.closes_are;
  opens_are = sym (append-nil (map terms_of p.entries.items)) ∙ h.opens_are;
  opening_are = subst (λ (l : List OpeningRoute). AreOpening (opened_by all terms) l) (append-nil p.opening.items) (h.opening_are [] tt);
}
partly_done indexes gone all terms (x ∷ rest) left p none h = cc

-- each route of a changed configuration has its change
as_many_changes : (s : Settings) (routes : List Terms) (schedules : List Schedule) → length schedules ≡ length routes →
    length (changes_of s routes schedules) ≡ length routes
as_many_changes s [] schedules many = refl
as_many_changes s (x ∷ routes) [] many = cc
as_many_changes s (x ∷ routes) (y ∷ schedules) many =
    ap suc (as_many_changes s routes schedules (let fewer : length schedules ≡ length routes = omega (arith, many) in fewer))

length_mapped : (entries : List Entry) → length (map terms_of entries) ≡ length entries
length_mapped [] = refl
length_mapped (x ∷ entries) = ap suc (length_mapped entries)

pub each_changes : (in_force : InForce) (wanted : Wanted) → length wanted.config.schedules.items ≡ length wanted.config.entries.items →
    IsWanted in_force wanted → length wanted.changes.routes.items ≡ length wanted.config.entries.items
each_changes in_force wanted many is =
    ap (λ r. length r.routes) is.changes_are
    ∙ as_many_changes _ (map terms_of wanted.config.entries.items) wanted.config.schedules.items (many ∙ sym (length_mapped wanted.config.entries.items))
    ∙ length_mapped wanted.config.entries.items

-- memory lacks for something that isn't a route
pub none_named : (opening : List Terms) (why : NoRoom) → NamesNone why → IsNoRoom opening why
none_named opening (Route name want) none = absurd none
none_named opening (Lists want) none = tt

-- memory lacks for the first of those that are left, which opens
slice_get_seam : {A : Type 0} (xs : List A) (y : A) (ys : List A) → slice_get (xs ++ y ∷ ys) (length xs) ≡ Some y
slice_get_seam [] y ys = refl
slice_get_seam (x ∷ xs) y ys = slice_get_seam xs y ys

first_opens : (x : RouteChange) (t : Terms) (more : List Terms) → opens x ≡ true → opened_at x t ++ more ≡ t ∷ more
first_opens x t more o = ap (λ b. (if b then t ∷ [] else []) ++ more) o

pub one_named : (indexes gone : List ℕ) (all : List RouteChange) (terms : List Terms) (rest : List RouteChange) (left : List Entry) (p : Preparation)
    (change first : RouteChange) (entry one : Entry) (why : NoRoom) → (length rest == 0) ≡ false → length rest ≡ length left → change ≡ get_or rest 0 first →
    entry ≡ get_or left 0 one → IsPartly indexes gone all terms rest left p → opens change ≡ true → NamesRoute (terms_of entry) why →
    IsNoRoom (opened_by all terms) why
one_named indexes gone all terms [] left p change first entry one why some many ec ee h o k = absurd (cc some)
one_named indexes gone all terms (x ∷ rest) [] p change first entry one why some many ec ee h o k = absurd (omega (arith, many))
one_named indexes gone all terms (x ∷ rest) (y ∷ left) p change first entry one (Lists want) some many ec ee h o k = absurd k
one_named indexes gone all terms (x ∷ rest) (y ∷ left) p change first entry one (Route name want) some many ec ee h o k =
    let es = map terms_of p.entries.items in
    let more = opened_by rest (map terms_of left) in
    record {
      place = length es;
      route = terms_of entry;
      route_at =
          subst (λ (l : List Terms). slice_get l (length es) ≡ Some (terms_of entry)) h.opens_are
          (subst (λ (l : List Terms). slice_get (es ++ l) (length es) ≡ Some (terms_of entry)) (sym (first_opens x (terms_of y) more (sym (ap opens ec) ∙ o)))
          (slice_get_seam es (terms_of y) more ∙ ap (λ (e : Entry). Some (terms_of e)) (sym ee)));
      name_is = k;
    }
