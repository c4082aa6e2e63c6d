-- Tables that find visible routes by their names.
use Rattle.std.proofs.Common.{◌≡◌, ◌≢◌, ℕ, zero, suc, ◌<◌, Bool, true, false, not, cond, ◌&&◌, List, [], ◌∷◌, ◌++◌, length, map, Option, None, Some}
use Rattle.std.proofs.Common.{is_some, slice_get, slice_set, get_or, inl, inr, ◌⊎◌, refl, sym, ap, subst, ◌∙◌, arith}
use Rattle.std.proofs.Common.{Bor, Result, Ok, Err, IsOk, OnOk}
use Rattle.std.specs.Option.{option_map, option_copied, is_none}
use Rattle.std.specs.Map.{lookup, set_value}
use Rattle.std.specs.Str.{bytes_eq}
use Rattle.std.proofs.lemmas.Bool.{cases_eq}
use Rattle.std.proofs.lemmas.Option.{slice_get-map, slice_get-get_or}
use Rattle.std.proofs.lemmas.Slice.Eq.{bytes_eq-Decides}
use Rattle.indexmap.specs.IndexMap.{insert_entry}
use Rattle.srt_types.specs.Access.{AccessTerms, access_of}
use Rattle.srt_lobby.specs.RouteNames.{RouteName, hidden, index_of, shows, is_shown_at, has_name, has_name_at, AreDistinct}
use Rattle.srt_lobby.specs.declared.names.NamedRoute.{NamedRoute}
use Rattle.srt_lobby.specs.Tables.{name_in, text_at, index_in, entered, HasShown, HasNamed, HasTexts}
use Rattle.srt_lobby.specs.Changing.{marked_at, hidden_at, shown_at, IsUnused}
use Rattle.srt_lobby.proofs.Finds.{name_found, found_shown, found_there, has_name_text}
use Rattle.srt_lobby.proofs.Changing.{stays, mark_is, was_shown, showing_keeps_names}

-- changes of visibility keep the texts of routes
pub text_stays_at : (b : Bool) (names : List RouteName) (s r : ℕ) → text_at (marked_at b s names) r ≡ text_at names r
text_stays_at b [] s r = refl
text_stays_at b (n ∷ ns) zero zero = refl
text_stays_at b (n ∷ ns) zero (suc r) = refl
text_stays_at b (n ∷ ns) (suc s) zero = refl
text_stays_at b (n ∷ ns) (suc s) (suc r) = text_stays_at b ns s r

text_before : (names : List RouteName) (x : RouteName) (r : ℕ) (text : List ℕ) → text_at names r ≡ Some text → text_at (names ++ x ∷ []) r ≡ Some text
text_before [] x r text h = cc
text_before (n ∷ ns) x zero text h = h
text_before (n ∷ ns) x (suc r) text h = text_before ns x r text h

text_last : (names : List RouteName) (x : RouteName) → text_at (names ++ x ∷ []) (length names) ≡ Some x.text
text_last [] x = refl
text_last (n ∷ ns) x = text_last ns x

text_before_or_last : (names : List RouteName) (x : RouteName) (r : ℕ) (text : List ℕ)
    → text_at (names ++ x ∷ []) r ≡ Some text → (text_at names r ≡ Some text) ⊎ (x.text ≡ text)
text_before_or_last [] x zero text h = inr (let same : x.text ≡ text = cc in same)
text_before_or_last [] x (suc r) text h = absurd (let bad : None ≡ Some text = h in cc)
text_before_or_last (n ∷ ns) x zero text h = inl h
text_before_or_last (n ∷ ns) x (suc r) text h = text_before_or_last ns x r text h

-- a visible route with this text
shown_there : (names : List RouteName) (r : ℕ) (text : List ℕ)
    → text_at names r ≡ Some text → is_shown_at names r ≡ true → has_name_at names r text ≡ true
shown_there names r text h q = by (slice_get names r) h q
  where
    by : (o : Option RouteName) → option_map (λ (name : RouteName). name.text) o ≡ Some text → shows o ≡ true → has_name text o ≡ true
    by (Some name) h q =
        let same : text ≡ name.text = cc in
        ap (λ (b : Bool). b && bytes_eq text name.text) q ∙ (bytes_eq-Decides text name.text).1 same
    by None h q = cc

-- no two routes in a table are visible with the same name
pub apart : (names : List RouteName) (latest : List ℕ → Option ℕ) → HasShown names latest → AreDistinct names
apart names latest has i j text p q =
    let first : latest text ≡ Some i = has i text p in
    let second : latest text ≡ Some j = has j text q in
    let both : Some i ≡ Some j = sym first ∙ second in
    cc

-- the table finds the visible route
pub found : (names : List RouteName) (latest : List ℕ → Option ℕ) → HasShown names latest → HasNamed names latest →
    (r : ℕ) (text : List ℕ) → latest text ≡ Some r → is_shown_at names r ≡ true → Some r ≡ index_of names text
found names latest has named r text h q = by (slice_get names r) refl (shown_there names r text (named r text h) q)
  where
    by : (o : Option RouteName) → slice_get names r ≡ o → has_name text o ≡ true → Some r ≡ index_of names text
    by (Some name) e p = sym (name_found names r name text (apart names latest has) e p)
    by None e p = cc

pub not_found : (names : List RouteName) (latest : List ℕ → Option ℕ) → HasShown names latest →
    (text : List ℕ) → ((r : ℕ) → latest text ≡ Some r → is_shown_at names r ≡ false) → None ≡ index_of names text
not_found names latest has text never = by (index_of names text) refl
  where
    by : (o : Option ℕ) → index_of names text ≡ o → None ≡ o
    by None e = refl
    by (Some s) e =
        let hidden : is_shown_at names s ≡ false = never s (has s text (found_there names s text e)) in
        let bad : true ≡ false = sym (found_shown names s text e) ∙ hidden in
        cc

-- a table's entries
cond_again : {X : Type 0} (b : Bool) (x y z : X) → cond b x z ≡ cond b x (cond b y z)
cond_again true x y z = refl
cond_again false x y z = refl

cond_swapped : {X : Type 0} (a b : Bool) (x y z : X) → (a ≡ true → b ≡ true → ⊥) → cond b y (cond a x z) ≡ cond a x (cond b y z)
cond_swapped true true x y z never = absurd (never refl refl)
cond_swapped true false x y z never = refl
cond_swapped false true x y z never = refl
cond_swapped false false x y z never = refl

module _ {K : Type 0} (f : K → List ℕ) (text : List ℕ) where
  never_both : (name other : List ℕ) → bytes_eq name other ≡ false → bytes_eq text name ≡ true → bytes_eq text other ≡ true → ⊥
  never_both name other h p q =
      let same : name ≡ other = sym ((bytes_eq-Decides text name).0 p) ∙ (bytes_eq-Decides text other).0 q in
      let bad : true ≡ false = sym ((bytes_eq-Decides name other).1 same) ∙ h in
      cc

  pub inserted : (es : List (K × ℕ)) (key : K) (r : ℕ) →
      index_in f (insert_entry (λ a b. bytes_eq (f a) (f b)) es key r) text ≡ cond (bytes_eq text (f key)) (Some r) (index_in f es text)
  inserted [] key r = refl
  inserted (e ∷ es) key r = by (inserted es key r) (bytes_eq (f key) (f e.0)) refl
    where
      by : index_in f (insert_entry (λ a b. bytes_eq (f a) (f b)) es key r) text ≡ cond (bytes_eq text (f key)) (Some r) (index_in f es text) →
          (b : Bool) → bytes_eq (f key) (f e.0) ≡ b →
          index_in f (cond b ((e.0, r) ∷ es) (e ∷ insert_entry (λ a b. bytes_eq (f a) (f b)) es key r)) text
          ≡ cond (bytes_eq text (f key)) (Some r) (index_in f (e ∷ es) text)
      by rest true h =
          cond_again (bytes_eq text (f e.0)) (Some r) (Some e.1) (index_in f es text) ∙
          ap (λ name. cond (bytes_eq text name) (Some r) (index_in f (e ∷ es) text)) (sym ((bytes_eq-Decides (f key) (f e.0)).0 h))
      by rest false h =
          ap (cond (bytes_eq text (f e.0)) (Some e.1)) rest ∙
          cond_swapped (bytes_eq text (f key)) (bytes_eq text (f e.0)) (Some r) (Some e.1) (index_in f es text) (never_both (f key) (f e.0) h)

  pub turned : (es : List (K × ℕ)) (name : List ℕ) (r : ℕ) → is_some (index_in f es name) ≡ true →
      index_in f (set_value (λ key. bytes_eq name (f key)) es r) text ≡ cond (bytes_eq text name) (Some r) (index_in f es text)
  turned [] name r there = cc
  turned (e ∷ es) name r there = by (turned es name r) (bytes_eq name (f e.0)) refl there
    where
      by : (is_some (index_in f es name) ≡ true
          → index_in f (set_value (λ key. bytes_eq name (f key)) es r) text ≡ cond (bytes_eq text name) (Some r) (index_in f es text))
          →
          (b : Bool) → bytes_eq name (f e.0) ≡ b → is_some (cond b (Some e.1) (index_in f es name)) ≡ true →
          index_in f (cond b ((e.0, r) ∷ es) (e ∷ set_value (λ key. bytes_eq name (f key)) es r)) text
          ≡ cond (bytes_eq text name) (Some r) (index_in f (e ∷ es) text)
      by rest true h q =
          cond_again (bytes_eq text (f e.0)) (Some r) (Some e.1) (index_in f es text) ∙
          ap (λ t. cond (bytes_eq text t) (Some r) (index_in f (e ∷ es) text)) (sym ((bytes_eq-Decides name (f e.0)).0 h))
      by rest false h q =
          ap (cond (bytes_eq text (f e.0)) (Some e.1)) (rest q) ∙
          cond_swapped (bytes_eq text name) (bytes_eq text (f e.0)) (Some r) (Some e.1) (index_in f es text) (never_both name (f e.0) h)

-- nothing is set if no entry passes the test
pub none_set : {K : Type 0} (test : K → Bool) (es : List (K × ℕ)) (r : ℕ) → lookup test es ≡ None → es ≡ set_value test es r
none_set test [] r h = refl
none_set test (e ∷ es) r h = by (none_set test es r) (test e.0) h
  where
    by : (lookup test es ≡ None → es ≡ set_value test es r)
        → (b : Bool) → cond b (Some e.1) (lookup test es) ≡ None → e ∷ es ≡ cond b ((e.0, r) ∷ es) (e ∷ set_value test es r)
    by rest true h = cc
    by rest false h = ap (λ (es : List _). e ∷ es) (rest h)

-- a consequence of a value follows if the result has one
pub of_ok : {T E : Type 0} (r : Result T E) (P : Type 0) → IsOk r → OnOk r P → P
of_ok (Ok x) P ok p = p
of_ok (Err e) P ok p = cc

pub none_behind : (r : Option (Bor ℕ)) → is_none r ≡ true → option_copied r ≡ None
none_behind None h = refl
none_behind (Some x) h = cc

-- the table after a name is entered
entered_new : (latest : List ℕ → Option ℕ) (name : List ℕ) (r : ℕ) (text : List ℕ)
    → latest name ≡ None → cond (bytes_eq text name) (Some r) (latest text) ≡ entered latest name r text
entered_new latest name r text none = by (bytes_eq text name) (latest name) none
  where
    by : (b : Bool) (o : Option ℕ) → o ≡ None → cond b (Some r) (latest text) ≡ cond (b && not (is_some o)) (Some r) (latest text)
    by true None e = refl
    by true (Some s) e = cc
    by false o e = refl

pub entered_by_inserting : {K : Type 0} (f : K → List ℕ) (es : List (K × ℕ)) (key : K) (r : ℕ) (text : List ℕ) → index_in f es (f key) ≡ None →
    index_in f (insert_entry (λ a b. bytes_eq (f a) (f b)) es key r) text ≡ entered (index_in f es) (f key) r text
entered_by_inserting f es key r text none = inserted f text es key r ∙ entered_new (index_in f es) (f key) r text none

-- one more hidden route
hidden_last : (names : List RouteName) (name : List ℕ) (access : AccessTerms) (r : ℕ) (text : List ℕ)
    → has_name_at (names ++ hidden name access ∷ []) r text ≡ has_name_at names r text
hidden_last [] name access zero text = refl
hidden_last [] name access (suc r) text = refl
hidden_last (n ∷ ns) name access zero text = refl
hidden_last (n ∷ ns) name access (suc r) text = hidden_last ns name access r text

module _ (names : List RouteName) (latest after : List ℕ → Option ℕ) (name : List ℕ) (access : AccessTerms)
    (is : (text : List ℕ) → after text ≡ entered latest name (length names) text) where
  pub appended_shown : HasShown names latest → HasShown (names ++ hidden name access ∷ []) after
  appended_shown has r text p = is text ∙ by (bytes_eq text name) refl
    where
      at : latest text ≡ Some r
      at = has r text (sym (hidden_last names name access r text) ∙ p)

      by : (b : Bool) → bytes_eq text name ≡ b → cond (b && not (is_some (latest name))) (Some (length names)) (latest text) ≡ Some r
      by true e =
          let known : latest name ≡ Some r = ap latest (sym ((bytes_eq-Decides text name).0 e)) ∙ at in
          ap (λ (o : Option ℕ). cond (not (is_some o)) (Some (length names)) (latest text)) known ∙ at
      by false e = at

  pub appended_named : HasNamed names latest → HasNamed (names ++ hidden name access ∷ []) after
  appended_named has r text p = by (bytes_eq text name) (not (is_some (latest name))) refl (sym (is text) ∙ p)
    where
      by : (b c : Bool) → bytes_eq text name ≡ b → cond (b && c) (Some (length names)) (latest text) ≡ Some r →
          text_at (names ++ hidden name access ∷ []) r ≡ Some text
      by true true e q =
          let at : length names ≡ r = cc in
          ap (text_at (names ++ hidden name access ∷ [])) (sym at) ∙ text_last names (hidden name access) ∙ ap Some (sym ((bytes_eq-Decides text name).0 e))
      by true false e q = text_before names (hidden name access) r text (has r text q)
      by false c e q = text_before names (hidden name access) r text (has r text q)

  pub appended_texts : HasTexts names latest → HasTexts (names ++ hidden name access ∷ []) after
  appended_texts has r text p =
      ap is_some (is text) ∙ by (bytes_eq text name) (latest name) refl refl (text_before_or_last names (hidden name access) r text p)
    where
      by : (b : Bool) (o : Option ℕ) → bytes_eq text name ≡ b → latest name ≡ o → (text_at names r ≡ Some text) ⊎ (name ≡ text) →
          is_some (cond (b && not (is_some o)) (Some (length names)) (latest text)) ≡ true
      by true None e f q = refl
      by true (Some s) e f q = ap is_some (ap latest ((bytes_eq-Decides text name).0 e) ∙ f)
      by false o e f (inl q) = has r text q
      by false o e f (inr q) =
          let bad : true ≡ false = sym ((bytes_eq-Decides text name).1 (sym q)) ∙ e in
          cc

-- a hidden route
pub hidden_shown : (names : List RouteName) (latest : List ℕ → Option ℕ) (s : ℕ) → HasShown names latest → HasShown (hidden_at s names) latest
hidden_shown names latest s has r text p = has r text (was_shown names s r text p)

pub marked_named : (b : Bool) (names : List RouteName) (latest : List ℕ → Option ℕ) (s : ℕ) → HasNamed names latest → HasNamed (marked_at b s names) latest
marked_named b names latest s has r text p = text_stays_at b names s r ∙ has r text p

pub marked_texts : (b : Bool) (names : List RouteName) (latest : List ℕ → Option ℕ) (s : ℕ) → HasTexts names latest → HasTexts (marked_at b s names) latest
marked_texts b names latest s has r text p = has r text (sym (text_stays_at b names s r) ∙ p)

-- a hidden route that is made visible again
module _ (names : List RouteName) (latest after : List ℕ → Option ℕ) (s : ℕ) (name : List ℕ) (there : text_at names s ≡ Some name)
    (is : (text : List ℕ) → after text ≡ cond (bytes_eq text name) (Some s) (latest text)) where
  pub again_shown : s < length names → IsUnused s names → HasShown names latest → HasShown (shown_at s names) after
  again_shown within unused has r text p = is text ∙ by (bytes_eq text name) refl (cases_eq r s)
    where
      own : (t : List ℕ) → t ≡ name → has_name_at (shown_at s names) s t ≡ true
      own t same = shown_there (shown_at s names) s t (text_stays_at true names s s ∙ there ∙ ap Some (sym same)) (mark_is true names s within)

      by : (b : Bool) → bytes_eq text name ≡ b → (r ≡ s) ⊎ (r ≢ s) → cond b (Some s) (latest text) ≡ Some r
      by true e at =
          let same : text ≡ name = (bytes_eq-Decides text name).0 e in
          ap Some (sym (showing_keeps_names names s within unused (apart names latest has) r s text p (own text same)))
      by false e (inl at) =
          let here : Some name ≡ Some text = sym there ∙ sym (text_stays_at true names s s) ∙ ap (text_at (shown_at s names)) (sym at)
          ∙ has_name_text text _ p in
          let same : name ≡ text = cc in
          let bad : true ≡ false = sym ((bytes_eq-Decides text name).1 (sym same)) ∙ e in
          cc
      by false e (inr other) = has r text (ap (has_name text) (sym (stays true names s r other)) ∙ p)

  pub again_named : HasNamed names latest → HasNamed (shown_at s names) after
  again_named has r text p = text_stays_at true names s r ∙ by (bytes_eq text name) refl (sym (is text) ∙ p)
    where
      by : (b : Bool) → bytes_eq text name ≡ b → cond b (Some s) (latest text) ≡ Some r → text_at names r ≡ Some text
      by true e q =
          let at : s ≡ r = cc in
          ap (text_at names) (sym at) ∙ there ∙ ap Some (sym ((bytes_eq-Decides text name).0 e))
      by false e q = has r text q

  pub again_texts : HasTexts names latest → HasTexts (shown_at s names) after
  again_texts has r text p = ap is_some (is text) ∙ by (bytes_eq text name)
    where
      by : (b : Bool) → is_some (cond b (Some s) (latest text)) ≡ true
      by true = refl
      by false = has r text (sym (text_stays_at true names s r) ∙ p)

-- routes of the code
pub set_mark : (b : Bool) (routes : List NamedRoute) (r : ℕ) (route other : NamedRoute) → route ≡ get_or routes r other →
    map name_in (slice_set routes r (record { text = route.text; is_shown = b; access = route.access })) ≡ marked_at b r (map name_in routes)
set_mark b [] r route other h = refl
set_mark b (x ∷ xs) zero route other h = ap (λ (n : NamedRoute). record { text = n.text.items; is_shown = b; access = access_of n.access } ∷ map name_in xs) h
set_mark b (x ∷ xs) (suc r) route other h = ap (λ (names : List RouteName). name_in x ∷ names) (set_mark b xs r route other h)

pub text_of_route : (routes : List NamedRoute) (r : ℕ) (route : NamedRoute)
    → r < length routes → route ≡ get_or routes r route → text_at (map name_in routes) r ≡ Some route.text.items
text_of_route routes r route within h = at routes r route within ∙ ap (λ (n : NamedRoute). Some n.text.items) (sym h)
  where
    at : (routes : List NamedRoute) (r : ℕ) (other : NamedRoute) → r < length routes → text_at (map name_in routes) r ≡ Some (get_or routes r other).text.items
    at [] r other h = absurd (omega (arith, h))
    at (x ∷ xs) zero other h = refl
    at (x ∷ xs) (suc r) other h = at xs r other (omega (arith, h))

pub route_here : (routes xs : List NamedRoute) (r : ℕ) (route : NamedRoute)
    → xs ≡ routes → route ≡ get_or xs r route → r < length xs → slice_get (map name_in routes) r ≡ Some (name_in route)
route_here routes xs r route same is within =
    slice_get-map name_in routes r
    ∙ ap (λ (rs : List NamedRoute). option_map name_in (slice_get rs r)) (sym same)
    ∙ ap (option_map name_in) (slice_get-get_or xs r route within ∙ ap Some (sym is))

pub count : (routes : List NamedRoute) → length (map name_in routes) ≡ length routes
count [] = refl
count (x ∷ xs) = ap suc (count xs)

-- the same names and the same table
module _ {K : Type 0} (f : K → List ℕ) (names others : List RouteName) (es fs : List (K × ℕ)) (p : others ≡ names) (q : fs ≡ es) where
  pub shown_kept : HasShown names (index_in f es) → HasShown others (index_in f fs)
  shown_kept h = subst (λ (n : List RouteName). HasShown n (index_in f fs)) (sym p) (subst (λ (l : List (K × ℕ)). HasShown names (index_in f l)) (sym q) h)

  pub named_kept : HasNamed names (index_in f es) → HasNamed others (index_in f fs)
  named_kept h = subst (λ (n : List RouteName). HasNamed n (index_in f fs)) (sym p) (subst (λ (l : List (K × ℕ)). HasNamed names (index_in f l)) (sym q) h)

  pub texts_kept : HasTexts names (index_in f es) → HasTexts others (index_in f fs)
  texts_kept h = subst (λ (n : List RouteName). HasTexts n (index_in f fs)) (sym p) (subst (λ (l : List (K × ℕ)). HasTexts names (index_in f l)) (sym q) h)
