-- Names and their indexes.
use Rattle.std.proofs.Common.{◌≡◌, ℕ, zero, suc, ◌+◌, ◌<◌, Bool, true, false, not, cond, ◌&&◌, List, [], ◌∷◌, length, get_or, take, drop}
use Rattle.std.proofs.Common.{◌++◌, map, Option, None, Some, position, slice_get, nat_lt, refl, sym, ap, ◌∙◌, arith}
use Rattle.std.specs.List.{position_or_len, list_any, list_all}
use Rattle.std.specs.Option.{option_map}
use Rattle.std.specs.Str.{bytes_eq}
use Rattle.std.proofs.lemmas.Bool.{false_from_ne_true}
use Rattle.std.proofs.lemmas.Bool.Decides.{nat_tests}
use Rattle.std.proofs.lemmas.Slice.Eq.{bytes_eq-Decides}
use Rattle.std.proofs.lemmas.List.Folds.{list_all-map}
use Rattle.std.proofs.lemmas.List.Sums.{position_or_len_is}
use Rattle.std.proofs.lemmas.List.Quantifiers.{position-Some}
use Rattle.std.proofs.lemmas.Option.{get_or_from_slice_get, slice_get-get_or, slice_get_within}
use Rattle.srt_types.specs.declared.shared.Entry.{Entry}
use Rattle.srt_types.specs.Terms.{Terms, terms_of}
use Rattle.srt_types.specs.Entries.{is_between, is_name, in_limits}
use Rattle.srt_lobby.specs.Opening.{text_in, is_taken, is_fresh, are_names, are_in_limits}
use Rattle.srt_types.specs.Access.{anyone}
use Rattle.srt_lobby.specs.Names.{RouteName, AreDistinct, shown, name_of, is_requested, index_of, shows, is_shown_at, has_name, has_name_at}

same_length : {K X : Type 0} (f : K → X) (ks : List K) → length (map f ks) ≡ length ks
same_length f [] = refl
same_length f (k ∷ ks) = ap suc (same_length f ks)

places_of : {K X : Type 0} (p : X → Bool) (f : K → X) (ks : List K) → position_or_len p (map f ks) ≡ position_or_len (λ k. p (f k)) ks
places_of p f [] = refl
places_of p f (k ∷ ks) = ap (λ n. cond (not (p (f k))) (1 + n) 0) (places_of p f ks)

pub position_of : {K X : Type 0} (p : X → Bool) (f : K → X) (ks : List K) → position p (map f ks) ≡ position (λ k. p (f k)) ks
position_of p f ks =
    ap (λ n. cond (nat_lt n (length (map f ks))) (Some n) None) (places_of p f ks) ∙
    ap (λ n. cond (nat_lt (position_or_len (λ k. p (f k)) ks) n) (Some (position_or_len (λ k. p (f k)) ks)) None) (same_length f ks)

pub any_of : {K X : Type 0} (p : X → Bool) (f : K → X) (ks : List K) → list_any p (map f ks) ≡ list_any (λ k. p (f k)) ks
any_of p f [] = refl
any_of p f (k ∷ ks) = rw (any_of p f ks)

abbrev pub no_name : RouteName
no_name = shown [] anyone

-- the route that is found has the requested name, and is visible
pub found_name : (names : List RouteName) (r : ℕ) (name : RouteName) (requested : List ℕ)
    → slice_get names r ≡ Some name → index_of names requested ≡ Some r → is_requested requested name ≡ true
found_name names r name requested h e =
    ap (is_requested requested) (sym (get_or_from_slice_get names r name no_name h)) ∙ (position-Some (is_requested requested) names r no_name e).1

record IsBoth (a b : Bool) : Type 0 where
  first : a ≡ true
  second : b ≡ true

both : (a b : Bool) → (a && b) ≡ true → IsBoth a b
both true b h = record { first = refl; second = h }
both false b h = cc

pub requested_is_shown : (requested : List ℕ) (name : RouteName) → is_requested requested name ≡ true → name.is_shown ≡ true
requested_is_shown requested name h = (both name.is_shown (bytes_eq requested name.text) h).first

pub requested_is_text : (requested : List ℕ) (name : RouteName) → is_requested requested name ≡ true → requested ≡ name.text
requested_is_text requested name h = (bytes_eq-Decides requested name.text).0 (both name.is_shown (bytes_eq requested name.text) h).second

other_before : (names : List RouteName) (r : ℕ) (requested : List ℕ)
    → AreDistinct names → has_name_at names r requested ≡ true → r < length names → (k : ℕ) → k < r → is_requested requested (get_or names k no_name) ≡ false
other_before names r requested distinct h inside k below =
    false_from_ne_true _ (λ same.
    let there : has_name_at names k requested ≡ true = ap (has_name requested) (slice_get-get_or names k no_name (omega arith)) ∙ same in
    let e : k ≡ r = distinct k r requested there h in
    omega arith)

-- the name of a visible route is found
pub name_found : (names : List RouteName) (r : ℕ) (name : RouteName) (requested : List ℕ)
    → AreDistinct names → slice_get names r ≡ Some name → is_requested requested name ≡ true → index_of names requested ≡ Some r
name_found names r name requested distinct h is =
    let inside : r < length names = slice_get_within names r name h in
    let here : is_requested requested (get_or names r no_name) ≡ true = ap (is_requested requested) (get_or_from_slice_get names r name no_name h) ∙ is in
    let at : position_or_len (is_requested requested) names ≡ r =
    position_or_len_is (is_requested requested) names r no_name (omega arith)
    (other_before names r requested distinct (ap (has_name requested) h ∙ is) inside) (λ w. here) in
    rw at (grind (arith, nat_tests))

-- a visible route exists
pub shown_within : (names : List RouteName) (r : ℕ) → is_shown_at names r ≡ true → r < length names
shown_within [] r h = cc
shown_within (x ∷ xs) zero h = omega arith
shown_within (x ∷ xs) (suc r) h = omega (arith, shown_within xs r h)

-- the route that is found is visible
pub found_shown : (names : List RouteName) (r : ℕ) (requested : List ℕ) → index_of names requested ≡ Some r → is_shown_at names r ≡ true
found_shown names r requested e =
    let found = position-Some (is_requested requested) names r no_name e in
    ap shows (slice_get-get_or names r no_name found.0) ∙ requested_is_shown requested (get_or names r no_name) found.1

pub found_there : (names : List RouteName) (r : ℕ) (text : List ℕ) → index_of names text ≡ Some r → has_name_at names r text ≡ true
found_there names r text e =
    let found = position-Some (is_requested text) names r no_name e in
    ap (has_name text) (slice_get-get_or names r no_name found.0) ∙ found.1

-- a route with this name by has_name is visible, and has this text
pub has_name_shown : (text : List ℕ) (o : Option RouteName) → has_name text o ≡ true → shows o ≡ true
has_name_shown text (Some name) h = requested_is_shown text name h
has_name_shown text None h = cc

pub has_name_text : (text : List ℕ) (o : Option RouteName) → has_name text o ≡ true → option_map (λ (name : RouteName). name.text) o ≡ Some text
has_name_text text (Some name) h = ap Some (sym (requested_is_text text name h))
has_name_text text None h = cc

pub any_taken : (name : List ℕ) (es : List Entry) → list_any (λ (e : Entry). bytes_eq (terms_of e).name name) es ≡ is_taken name (map terms_of es)
any_taken name es = sym (any_of (λ (e : Terms). bytes_eq e.name name) terms_of es)

pub all_limited : (es : List Entry) → list_all (λ (e : Entry). in_limits (terms_of e)) es ≡ list_all in_limits (map terms_of es)
all_limited es = sym (list_all-map in_limits terms_of es)

-- the names of entries, the first one separate
pub names_step : (es : List Entry) (d : Entry) → 0 < length es
    → are_names (map terms_of es) ≡ (is_fresh (terms_of (get_or es 0 d)) (map terms_of (drop 1 es)) && are_names (map terms_of (drop 1 es)))
names_step [] d h = absurd (omega arith)
names_step (e ∷ es) d h = refl

-- the name of an entry
pub name_at : (es : List Entry) (i : ℕ) (d : Entry) → i < length es → slice_get (map text_in (map terms_of es)) i ≡ Some (terms_of (get_or es i d)).name
name_at [] i d h = absurd (omega arith)
name_at (e ∷ es) zero d h = refl
name_at (e ∷ es) (suc i) d h = name_at es i d (omega arith)

pub route_at : (es : List Entry) (i : ℕ) (d : Entry)
    → i < length es → slice_get (map name_of (map terms_of es)) i ≡ Some (name_of (terms_of (get_or es i d)))
route_at [] i d h = absurd (omega arith)
route_at (e ∷ es) zero d h = refl
route_at (e ∷ es) (suc i) d h = route_at es i d (omega arith)

-- one more name
pub take_next : (names : List (List ℕ)) (i : ℕ) (name : List ℕ) → slice_get names i ≡ Some name → take (suc i) names ≡ take i names ++ name ∷ []
take_next [] i name h = cc
take_next (x ∷ xs) zero name h = cc
take_next (x ∷ xs) (suc i) name h = ap (λ (rest : List (List ℕ)). x ∷ rest) (take_next xs i name h)

true_and : (a b : Bool) → a ≡ true → b ≡ (a && b)
true_and true b h = refl
true_and false b h = cc

-- an entry whose name is valid and isn't taken
pub fresh : (e : Entry) (others : List Entry) (name : List ℕ) (good taken : Bool) → name ≡ (terms_of e).name → good ≡ is_name name → good ≡ true →
    taken ≡ is_taken name (map terms_of others) → not taken ≡ is_fresh (terms_of e) (map terms_of others)
fresh e others name good taken p q h t =
    ap not (t ∙ ap (λ n. is_taken n (map terms_of others)) p) ∙
    true_and (is_name (terms_of e).name) _ (sym (ap is_name p) ∙ sym q ∙ h)

-- entries whose numbers are within their limits
pub limited : (es : List Entry) (fits all : Bool) → fits ≡ is_between 1 511 (length es) → fits ≡ true
    → all ≡ list_all (λ (e : Entry). in_limits (terms_of e)) es
    → all ≡ are_in_limits (map terms_of es)
limited es fits all p h t =
    t ∙ all_limited es ∙ true_and (is_between 1 511 (length (map terms_of es))) _ (ap (is_between 1 511) (same_length terms_of es) ∙ sym p ∙ h)
