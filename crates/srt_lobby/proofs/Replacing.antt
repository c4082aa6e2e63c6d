-- The names of the routes after the lists and keys of one were replaced.
use Rattle.std.proofs.Common.{◌≡◌, ◌≢◌, ℕ, zero, suc, ◌<◌, List, [], ◌∷◌, length, map, Option, Some, slice_get, slice_set, get_or}
use Rattle.std.proofs.Common.{position, refl, sym, ap, ◌∙◌}
use Rattle.std.specs.Option.{option_map}
use Rattle.srt_types.specs.declared.shared.Access.{Access}
use Rattle.srt_types.specs.Access.{access_of, anyone}
use Rattle.srt_lobby.specs.declared.names.NamedRoute.{NamedRoute}
use Rattle.srt_lobby.specs.RouteNames.{RouteName, is_requested, index_of, is_shown_at, has_name_at}
use Rattle.srt_lobby.specs.Tables.{name_in, text_at, HasShown, HasNamed, HasTexts}
use Rattle.srt_lobby.specs.ListsAndKeys.{ListsAndKeys, lists_and_keys, access_with, replaced_at}
use Rattle.srt_lobby.proofs.Finds.{position_of}
use Rattle.srt_lobby.proofs.Tables.{route_here}

pub text_kept : (new : ListsAndKeys) (names : List RouteName) (s r : ℕ) → text_at (replaced_at new s names) r ≡ text_at names r
text_kept new [] s r = refl
text_kept new (n ∷ ns) zero zero = refl
text_kept new (n ∷ ns) zero (suc r) = refl
text_kept new (n ∷ ns) (suc s) zero = refl
text_kept new (n ∷ ns) (suc s) (suc r) = text_kept new ns s r

pub name_kept : (new : ListsAndKeys) (names : List RouteName) (s r : ℕ) (text : List ℕ)
    → has_name_at (replaced_at new s names) r text ≡ has_name_at names r text
name_kept new [] s r text = refl
name_kept new (n ∷ ns) zero zero text = refl
name_kept new (n ∷ ns) zero (suc r) text = refl
name_kept new (n ∷ ns) (suc s) zero text = refl
name_kept new (n ∷ ns) (suc s) (suc r) text = name_kept new ns s r text

pub mark_kept : (new : ListsAndKeys) (names : List RouteName) (s r : ℕ) → is_shown_at (replaced_at new s names) r ≡ is_shown_at names r
mark_kept new [] s r = refl
mark_kept new (n ∷ ns) zero zero = refl
mark_kept new (n ∷ ns) zero (suc r) = refl
mark_kept new (n ∷ ns) (suc s) zero = refl
mark_kept new (n ∷ ns) (suc s) (suc r) = mark_kept new ns s r

-- the other routes
pub other_kept : (new : ListsAndKeys) (names : List RouteName) (s r : ℕ) → r ≢ s → slice_get (replaced_at new s names) r ≡ slice_get names r
other_kept new [] s r apart = refl
other_kept new (n ∷ ns) zero zero apart = absurd (apart refl)
other_kept new (n ∷ ns) zero (suc r) apart = refl
other_kept new (n ∷ ns) (suc s) zero apart = refl
other_kept new (n ∷ ns) (suc s) (suc r) apart = other_kept new ns s r (λ e. apart (ap suc e))

-- the route with new lists and keys
pub replaced_there : (new : ListsAndKeys) (names : List RouteName) (r : ℕ) (name : RouteName) → slice_get names r ≡ Some name
    → slice_get (replaced_at new r names) r ≡ Some (record name { access = access_with new name.access })
replaced_there new [] r name h = cc
replaced_there new (n ∷ ns) zero name h =
    let same : n ≡ name = cc in
    ap (λ (m : RouteName). Some (record m { access = access_with new m.access })) same
replaced_there new (n ∷ ns) (suc r) name h = replaced_there new ns r name h

-- which route has a name doesn't depend on access rules
bare : RouteName → RouteName
bare name = record name { access = anyone }

bare_kept : (new : ListsAndKeys) (names : List RouteName) (s : ℕ) → map bare (replaced_at new s names) ≡ map bare names
unfolding bare
bare_kept new [] s = refl
bare_kept new (n ∷ ns) zero = refl
bare_kept new (n ∷ ns) (suc s) = ap (λ (rest : List RouteName). bare n ∷ rest) (bare_kept new ns s)

bare_found : (names : List RouteName) (text : List ℕ) → position (is_requested text) (map bare names) ≡ index_of names text
unfolding bare
bare_found names text = position_of (is_requested text) bare names

pub index_kept : (new : ListsAndKeys) (names : List RouteName) (s : ℕ) (text : List ℕ) → index_of (replaced_at new s names) text ≡ index_of names text
index_kept new names s text =
    sym (bare_found (replaced_at new s names) text)
    ∙ ap (λ (ns : List RouteName). position (is_requested text) ns) (bare_kept new names s)
    ∙ bare_found names text

-- the table of names
pub still_shown : (new : ListsAndKeys) (names : List RouteName) (latest : List ℕ → Option ℕ) (s : ℕ)
    → HasShown names latest → HasShown (replaced_at new s names) latest
still_shown new names latest s has r text p = has r text (sym (name_kept new names s r text) ∙ p)

pub still_named : (new : ListsAndKeys) (names : List RouteName) (latest : List ℕ → Option ℕ) (s : ℕ)
    → HasNamed names latest → HasNamed (replaced_at new s names) latest
still_named new names latest s has r text p = text_kept new names s r ∙ has r text p

pub still_texts : (new : ListsAndKeys) (names : List RouteName) (latest : List ℕ → Option ℕ) (s : ℕ)
    → HasTexts names latest → HasTexts (replaced_at new s names) latest
still_texts new names latest s has r text p = has r text (sym (text_kept new names s r) ∙ p)

-- routes of the code
pub set_rules : (new : ListsAndKeys) (routes : List NamedRoute) (r : ℕ) (route other : NamedRoute) (access : Access)
    → route ≡ get_or routes r other → access_of access ≡ access_with new (access_of route.access)
    → map name_in (slice_set routes r (record { text = route.text; is_shown = route.is_shown; access = access })) ≡ replaced_at new r (map name_in routes)
set_rules new [] r route other access h is = refl
set_rules new (x ∷ xs) zero route other access h is =
    ap (λ rules. record { text = route.text.items; is_shown = route.is_shown; access = rules } ∷ map name_in xs) is
    ∙ ap (λ (n : NamedRoute). record { text = n.text.items; is_shown = n.is_shown; access = access_with new (access_of n.access) } ∷ map name_in xs) h
set_rules new (x ∷ xs) (suc r) route other access h is =
    ap (λ (names : List RouteName). name_in x ∷ names) (set_rules new xs r route other access h is)

pub rules_there : (routes : List NamedRoute) (r : ℕ) (route : NamedRoute) → r < length routes → route ≡ get_or routes r route
    → Some (lists_and_keys (access_of route.access)) ≡ option_map (λ (name : RouteName). lists_and_keys name.access) (slice_get (map name_in routes) r)
rules_there routes r route within is =
    ap (option_map (λ (name : RouteName). lists_and_keys name.access)) (sym (route_here routes routes r route refl is within))
