-- The names in force after changes, and the lists and keys that a route was last given.
use Rattle.std.proofs.Common.{◌≡◌, ◌≢◌, ℕ, zero, suc, Bool, true, false, cond, List, [], ◌∷◌, ◌++◌, Option, None, Some, nat_eq, slice_get}
use Rattle.std.proofs.Common.{inl, inr, ◌⊎◌, refl, sym, ap, subst, ◌∙◌, arith}
use Rattle.std.specs.Option.{option_map}
use Rattle.std.proofs.lemmas.Bool.{cases_eq}
use Rattle.std.proofs.lemmas.Bool.Decides.{nat_tests}
use Rattle.srt_types.specs.Access.{AccessTerms}
use Rattle.srt_lobby.specs.declared.classes.Class.{Class}
use Rattle.srt_lobby.specs.RouteNames.{RouteName}
use Rattle.srt_lobby.specs.ListsAndKeys.{ListsAndKeys, access_with, replaced_at}
use Rattle.srt_lobby.specs.Lobby.{class_of}
use Rattle.srt_lobby.specs.Laws.{MayCall}
use Rattle.srt_lobby.specs.Changing.{marked_at}
use Rattle.srt_lobby.specs.InForce.{Event, names_after, in_force, classes, last_given, access_given, access_in}
use Rattle.srt_lobby.specs.InForce.{Appends, Hides, Shows, Replaces, Arrives}
use Rattle.srt_lobby.specs.InForce.{LastGivenAreInForce, LastGivenDecide, ClassesAreByNamesInForce}
use Rattle.srt_lobby.proofs.Callers.{route_is_for_callers}
use Rattle.srt_lobby.proofs.Replacing.{other_kept}

-- the access rules at an index
abbrev rules_at : List RouteName → (r : ℕ) → Option AccessTerms
rules_at names r = access_in (slice_get names r)

marked_rules : (b : Bool) (names : List RouteName) (s r : ℕ) → rules_at (marked_at b s names) r ≡ rules_at names r
marked_rules b [] s r = refl
marked_rules b (n ∷ ns) zero zero = refl
marked_rules b (n ∷ ns) zero (suc r) = refl
marked_rules b (n ∷ ns) (suc s) zero = refl
marked_rules b (n ∷ ns) (suc s) (suc r) = marked_rules b ns s r

appended_rules : (names more : List RouteName) (r : ℕ) (access : AccessTerms) → rules_at names r ≡ Some access → rules_at (names ++ more) r ≡ Some access
appended_rules [] more r access h = cc
appended_rules (n ∷ ns) more zero access h = h
appended_rules (n ∷ ns) more (suc r) access h = appended_rules ns more r access h

replaced_rules : (new : ListsAndKeys) (names : List RouteName) (r : ℕ) → rules_at (replaced_at new r names) r ≡ option_map (access_with new) (rules_at names r)
replaced_rules new [] r = refl
replaced_rules new (n ∷ ns) zero = refl
replaced_rules new (n ∷ ns) (suc r) = replaced_rules new ns r

given_twice : (new : ListsAndKeys) (given : Option ListsAndKeys) (access : AccessTerms) → access_with new (access_given given access) ≡ access_with new access
given_twice new None access = refl
given_twice new (Some old) access = refl

pub last_given_are_in_force : LastGivenAreInForce
last_given_are_in_force names [] r name h = ap access_in h
last_given_are_in_force names (Appends more ∷ earlier) r name h =
    appended_rules (in_force names earlier) (more ∷ []) r _ (last_given_are_in_force names earlier r name h)
last_given_are_in_force names (Hides s ∷ earlier) r name h =
    marked_rules false (in_force names earlier) s r ∙ last_given_are_in_force names earlier r name h
last_given_are_in_force names (Shows s ∷ earlier) r name h =
    marked_rules true (in_force names earlier) s r ∙ last_given_are_in_force names earlier r name h
last_given_are_in_force names (Arrives datagram moment ∷ earlier) r name h = last_given_are_in_force names earlier r name h
last_given_are_in_force names (Replaces s new ∷ earlier) r name h = by (last_given_are_in_force names earlier r name h) (cases_eq r s)
  where
    by : rules_at (in_force names earlier) r ≡ Some (access_given (last_given r earlier) name.access) → (r ≡ s) ⊎ (r ≢ s)
        → rules_at (replaced_at new s (in_force names earlier)) r ≡ Some (access_given (cond (nat_eq r s) (Some new) (last_given r earlier)) name.access)
    by before (inl same) =
        let test : nat_eq r s ≡ true = grind (arith, nat_tests, same) in
        ap (λ (i : ℕ). rules_at (replaced_at new i (in_force names earlier)) r) (sym same)
        ∙ replaced_rules new (in_force names earlier) r
        ∙ ap (option_map (access_with new)) before
        ∙ ap Some (given_twice new (last_given r earlier) name.access)
        ∙ ap (λ (b : Bool). Some (access_given (cond b (Some new) (last_given r earlier)) name.access)) (sym test)
    by before (inr apart) =
        let test : nat_eq r s ≡ false = grind (arith, nat_tests, apart) in
        ap access_in (other_kept new (in_force names earlier) s r apart)
        ∙ before
        ∙ ap (λ (b : Bool). Some (access_given (cond b (Some new) (last_given r earlier)) name.access)) (sym test)

pub last_given_decide : LastGivenDecide
last_given_decide secret names events datagram moment r name h class =
    by (slice_get (in_force names events) r) refl (last_given_are_in_force names events r name h)
  where
    by : (o : Option RouteName) → slice_get (in_force names events) r ≡ o → access_in o ≡ Some (access_given (last_given r events) name.access)
        → MayCall (access_given (last_given r events) name.access) datagram
    by (Some there) e is =
        let same : there.access ≡ access_given (last_given r events) name.access = cc in
        subst (λ (access : AccessTerms). MayCall access datagram) same
        (route_is_for_callers secret (in_force names events) datagram moment r there e class)
    by None e is = cc

in_force_joined : (names : List RouteName) (later earlier : List Event) → in_force names (later ++ earlier) ≡ in_force (in_force names earlier) later
in_force_joined names [] earlier = refl
in_force_joined names (event ∷ later) earlier = ap (names_after event) (in_force_joined names later earlier)

pub classes_are_by_names_in_force : ClassesAreByNamesInForce
classes_are_by_names_in_force secret names [] earlier = refl
classes_are_by_names_in_force secret names (Appends name ∷ later) earlier = classes_are_by_names_in_force secret names later earlier
classes_are_by_names_in_force secret names (Hides r ∷ later) earlier = classes_are_by_names_in_force secret names later earlier
classes_are_by_names_in_force secret names (Shows r ∷ later) earlier = classes_are_by_names_in_force secret names later earlier
classes_are_by_names_in_force secret names (Replaces r new ∷ later) earlier = classes_are_by_names_in_force secret names later earlier
classes_are_by_names_in_force secret names (Arrives datagram moment ∷ later) earlier =
    ap (λ (ns : List RouteName). class_of secret ns datagram moment ∷ classes secret names (later ++ earlier)) (in_force_joined names later earlier)
    ∙ ap (λ (rest : List Class). class_of secret (in_force (in_force names earlier) later) datagram moment ∷ rest)
    (classes_are_by_names_in_force secret names later earlier)
