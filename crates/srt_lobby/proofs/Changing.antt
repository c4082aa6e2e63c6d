-- The names of the routes after one was added, hidden or made visible.
use Rattle.std.proofs.Common.{◌≡◌, ◌≢◌, ℕ, zero, suc, ◌<◌, Bool, true, false, not, ◌&&◌, cond, List, [], ◌∷◌, ◌++◌, length, map, Option}
use Rattle.std.proofs.Common.{None, Some, IfSome, is_some, slice_get, get_or, nat_lt, inl, inr, ◌⊎◌, refl, sym, ap, subst, ◌∙◌, arith}
use Rattle.std.proofs.lemmas.Bool.{cases_eq}
use Rattle.std.proofs.lemmas.Option.{slice_get-get_or}
use Rattle.std.specs.Str.{bytes_eq}
use Rattle.std.proofs.lemmas.Slice.Eq.{bytes_eq-Decides}
use Rattle.srt_types.specs.declared.shared.OpenFault.TheVariants as faults
use Rattle.srt_types.specs.Terms.{Terms}
use Rattle.srt_types.specs.Entries.{is_name, in_limits}
use Rattle.srt_lobby.specs.Names.{RouteName, as_shown, name_of, index_of, is_shown_at, has_name, has_name_at, AreDistinct}
use Rattle.srt_lobby.specs.Changing.{marked_at, hidden_at, shown_at, added, fault_of_adding, AddingKeepsNames, HidingKeepsNames}
use Rattle.srt_lobby.specs.Changing.{ShowingKeepsNames, AreSameFor, AddingKeepsOthers, HidingKeepsOthers, ShowingKeepsOthers, HiddenHasNone}
use Rattle.srt_lobby.specs.Changing.{DistinctAreUnused}
use Rattle.srt_lobby.proofs.Finds.{no_name, requested_is_text, name_found, found_there, has_name_shown}
use Rattle.srt_lobby.proofs.Kept.{own, is_for_shown}

-- the name of a visible route is found, so a name that isn't found has no visible route
pub not_there : (names : List RouteName) (i : ℕ) (text : List ℕ) → AreDistinct names → has_name_at names i text ≡ true → index_of names text ≡ None → ⊥
not_there names i text distinct there none = by (slice_get names i) refl there
  where
    by : (o : Option RouteName) → slice_get names i ≡ o → has_name text o ≡ true → ⊥
    by (Some name) e h =
        let found : index_of names text ≡ Some i = name_found names i name text distinct e h in
        let bad : Some i ≡ None = sym found ∙ none in
        cc
    by None e h = cc

-- a change keeps the other routes
pub stays : (b : Bool) (names : List RouteName) (s r : ℕ) → r ≢ s → slice_get (marked_at b s names) r ≡ slice_get names r
stays b [] s r apart = refl
stays b (n ∷ ns) zero zero apart = absurd (apart refl)
stays b (n ∷ ns) zero (suc r) apart = refl
stays b (n ∷ ns) (suc s) zero apart = refl
stays b (n ∷ ns) (suc s) (suc r) apart = stays b ns s r (λ e. apart (ap suc e))

pub mark_is : (b : Bool) (names : List RouteName) (r : ℕ) → r < length names → is_shown_at (marked_at b r names) r ≡ b
mark_is b [] r h = absurd (omega (arith, h))
mark_is b (n ∷ ns) zero h = refl
mark_is b (n ∷ ns) (suc r) h = mark_is b ns r (omega (arith, h))

pub is_hidden : (names : List RouteName) (r : ℕ) → is_shown_at (hidden_at r names) r ≡ false
is_hidden [] r = refl
is_hidden (n ∷ ns) zero = refl
is_hidden (n ∷ ns) (suc r) = is_hidden ns r

pub was_shown : (names : List RouteName) (r i : ℕ) (text : List ℕ) → has_name_at (hidden_at r names) i text ≡ true → has_name_at names i text ≡ true
was_shown names r i text h = by (cases_eq i r)
  where
    by : (i ≡ r) ⊎ (i ≢ r) → has_name_at names i text ≡ true
    by (inl same) =
        let bad : false ≡ true = sym (is_hidden names r) ∙ ap (is_shown_at (hidden_at r names)) (sym same) ∙ has_name_shown text _ h in
        cc
    by (inr apart) = ap (has_name text) (sym (stays false names r i apart)) ∙ h

pub hiding_keeps_names : HidingKeepsNames
hiding_keeps_names names r distinct i j text p q = distinct i j text (was_shown names r i text p) (was_shown names r j text q)

-- the text of the route that is made visible
abbrev text_of : Option RouteName → List ℕ
text_of (Some name) = name.text
text_of None = []

text_stays : (b : Bool) (names : List RouteName) (r : ℕ) → text_of (slice_get (marked_at b r names) r) ≡ text_of (slice_get names r)
text_stays b [] r = refl
text_stays b (n ∷ ns) zero = refl
text_stays b (n ∷ ns) (suc r) = text_stays b ns r

-- a route that has a name has its text
text_is : (names : List RouteName) (r : ℕ) (text : List ℕ) → has_name_at names r text ≡ true → text_of (slice_get names r) ≡ text
text_is names r text h = by (slice_get names r) h
  where
    by : (o : Option RouteName) → has_name text o ≡ true → text_of o ≡ text
    by (Some name) h = sym (requested_is_text text name h)
    by None h = cc

pub showing_keeps_names : ShowingKeepsNames
showing_keeps_names names r within unused distinct i j text p q = by (cases_eq i r) (cases_eq j r)
  where
    other : (k : ℕ) → k ≢ r → has_name_at (shown_at r names) k text ≡ true → has_name_at names k text ≡ true
    other k apart h = ap (has_name text) (sym (stays true names r k apart)) ∙ h

    own_text : has_name_at (shown_at r names) r text ≡ true → (get_or names r no_name).text ≡ text
    own_text h = ap text_of (sym (slice_get-get_or names r no_name within)) ∙ sym (text_stays true names r) ∙ text_is (shown_at r names) r text h

    none : index_of (hidden_at r names) (get_or names r no_name).text ≡ None
    none = subst (λ (o : Option RouteName). IfSome o (λ name. index_of (hidden_at r names) name.text ≡ None)) (slice_get-get_or names r no_name within) unused

    never : (k : ℕ) → k ≢ r → has_name_at (shown_at r names) k text ≡ true → has_name_at (shown_at r names) r text ≡ true → ⊥
    never k apart h mine = not_there (hidden_at r names) k text (hiding_keeps_names names r distinct)
        (ap (has_name text) (stays false names r k apart) ∙ other k apart h) (ap (index_of (hidden_at r names)) (sym (own_text mine)) ∙ none)

    by : (i ≡ r) ⊎ (i ≢ r) → (j ≡ r) ⊎ (j ≢ r) → i ≡ j
    by (inl a) (inl b) = a ∙ sym b
    by (inl a) (inr b) = absurd (never j b q (ap (λ (k : ℕ). has_name_at (shown_at r names) k text) (sym a) ∙ p))
    by (inr a) (inl b) = absurd (never i a p (ap (λ (k : ℕ). has_name_at (shown_at r names) k text) (sym b) ∙ q))
    by (inr a) (inr b) = distinct i j text (other i a p) (other j b q)

-- the routes after one was added
pub before_or_last : (names : List RouteName) (x : RouteName) (i : ℕ) (text : List ℕ)
    → has_name_at (names ++ x ∷ []) i text ≡ true → (has_name_at names i text ≡ true) ⊎ ((i ≡ length names) × (x.text ≡ text))
before_or_last [] x zero text h = inr (refl, sym (requested_is_text text x h))
before_or_last [] x (suc i) text h = absurd (let bad : false ≡ true = h in cc)
before_or_last (n ∷ ns) x zero text h = inl h
before_or_last (n ∷ ns) x (suc i) text h = by (before_or_last ns x i text h)
  where
    by : (has_name_at ns i text ≡ true) ⊎ ((i ≡ length ns) × (x.text ≡ text))
        → (has_name_at ns i text ≡ true) ⊎ ((suc i ≡ suc (length ns)) × (x.text ≡ text))
    by (inl p) = inl p
    by (inr q) = inr (ap suc q.0, q.1)

is_new : (names : List RouteName) (e : Terms) → fault_of_adding names e ≡ None → index_of names e.name ≡ None
is_new names e h = by (is_name e.name) (index_of names e.name) (nat_lt (length names) 511 && in_limits e) h
  where
    by : (good : Bool) (o : Option ℕ) (fits : Bool) → cond (good && not (is_some o)) (cond fits None (Some faults.Limits)) (Some faults.Names) ≡ None → o ≡ None
    by good None fits h = refl
    by true (Some s) fits h = cc
    by false (Some s) fits h = cc

pub adding_keeps_names : AddingKeepsNames
adding_keeps_names names e sound distinct i j text p q = by (before_or_last names (name_of e) i text p) (before_or_last names (name_of e) j text q)
  where
    never : (k : ℕ) → has_name_at names k text ≡ true → e.name ≡ text → ⊥
    never k there same = not_there names k text distinct there (ap (index_of names) (sym same) ∙ is_new names e sound)

    by : (has_name_at names i text ≡ true) ⊎ ((i ≡ length names) × (e.name ≡ text))
        → (has_name_at names j text ≡ true) ⊎ ((j ≡ length names) × (e.name ≡ text)) → i ≡ j
    by (inl a) (inl b) = distinct i j text a b
    by (inl a) (inr b) = absurd (never i a b.1)
    by (inr a) (inl b) = absurd (never j b a.1)
    by (inr a) (inr b) = a.0 ∙ sym b.0

-- the other routes keep their datagrams
same_for : (r : ℕ) (names others : List RouteName)
    → r < length names → AreDistinct names → AreDistinct others → slice_get others r ≡ slice_get names r → AreSameFor r names others
same_for r names others within distinct distinct_there same secret datagram moment =
    let there : slice_get names r ≡ Some (get_or names r no_name) = slice_get-get_or names r no_name within in
    own secret names others r (get_or names r no_name) (record { named = there; distinct = distinct })
    (record { named = same ∙ there; distinct = distinct_there }) datagram moment

stands_before : (names more : List RouteName) (r : ℕ) → r < length names → slice_get (names ++ more) r ≡ slice_get names r
stands_before [] more r h = absurd (omega (arith, h))
stands_before (n ∷ ns) more zero h = refl
stands_before (n ∷ ns) more (suc r) h = stands_before ns more r (omega (arith, h))

pub adding_keeps_others : AddingKeepsOthers
adding_keeps_others names e r within sound distinct =
    same_for r names (added e names) within distinct (adding_keeps_names names e sound distinct)
    (stands_before names (name_of e ∷ []) r within)

pub hiding_keeps_others : HidingKeepsOthers
hiding_keeps_others names s r within apart distinct =
    same_for r names (hidden_at s names) within distinct (hiding_keeps_names names s distinct) (stays false names s r apart)

pub showing_keeps_others : ShowingKeepsOthers
showing_keeps_others names s r within there apart unused distinct =
    same_for r names (shown_at s names) within distinct (showing_keeps_names names s there unused distinct) (stays true names s r apart)

pub hidden_has_none : HiddenHasNone
hidden_has_none secret names r datagram moment h =
    let bad : false ≡ true = sym (is_hidden names r) ∙ is_for_shown secret (hidden_at r names) datagram moment r h in
    cc

-- if all names are distinct, each name is found
all_shown : (names : List RouteName) (r : ℕ) (name : RouteName) → slice_get names r ≡ Some name → has_name_at (map as_shown names) r name.text ≡ true
all_shown [] r name h = cc
all_shown (n ∷ ns) zero name h =
    let same : n ≡ name = cc in
    ap (λ (m : RouteName). bytes_eq name.text m.text) same ∙ (bytes_eq-Decides name.text name.text).1 refl
all_shown (n ∷ ns) (suc r) name h = all_shown ns r name h

still_named : (names : List RouteName) (r : ℕ) (text : List ℕ) → has_name_at names r text ≡ true → has_name_at (map as_shown names) r text ≡ true
still_named [] r text h = cc
still_named (n ∷ ns) zero text h = (bytes_eq-Decides text n.text).1 (requested_is_text text n h)
still_named (n ∷ ns) (suc r) text h = still_named ns r text h

pub distinct_are_unused : DistinctAreUnused
distinct_are_unused names distinct r = at (slice_get names r) refl
  where
    none : (name : RouteName) → slice_get names r ≡ Some name → (o : Option ℕ) → index_of (hidden_at r names) name.text ≡ o → o ≡ None
    none name h None e = refl
    none name h (Some k) e =
        let there : has_name_at (hidden_at r names) k name.text ≡ true = found_there (hidden_at r names) k name.text e in
        let same : k ≡ r = distinct k r name.text (still_named names k name.text (was_shown names r k name.text there)) (all_shown names r name h) in
        let bad : false ≡ true = sym (is_hidden names r) ∙ ap (is_shown_at (hidden_at r names)) (sym same) ∙ has_name_shown name.text _ there in
        absurd (let never : ⊥ = cc in never)

    at : (o : Option RouteName) → slice_get names r ≡ o → IfSome o (λ name. index_of (hidden_at r names) name.text ≡ None)
    at (Some name) h = none name h (index_of (hidden_at r names) name.text) refl
    at None h = _
