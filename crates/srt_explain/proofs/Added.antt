-- Warnings that may be given, one after the other.
use Rattle.std.proofs.Common.{◌≡◌, ℕ, ◌<◌, ◌≤◌, ◌+◌, Bool, List, [], ◌∷◌, ◌++◌, length, map, get_or, drop, append_assoc, append-nil, add-one}
use Rattle.std.proofs.Common.{refl, sym, ap, ◌∙◌}
use Rattle.std.proofs.lemmas.List.{at_drop_more, at_drop_all}
use Rattle.toml.specs.Data.{Members}
use Rattle.srt_types.specs.Terms.{terms_of}
use Rattle.srt_types.specs.declared.shared.Entry.{Entry}
use Rattle.srt_explain.specs.declared.warnings.Warning.{Warning}
use Rattle.srt_explain.specs.Warnings.{given, route_table, route_warnings, routes_warnings}

-- three lists in a row
three : (old a b c : List Warning) → ((old ++ a) ++ b) ++ c ≡ old ++ ((a ++ b) ++ c)
three [] a b c = refl
three (x ∷ old) a b c = ap (λ xs. x ∷ xs) (three old a b c)

given_is : (some some' : Bool) (it it' : Warning) → some ≡ some' → it ≡ it' → given some it ≡ given some' it'
given_is some some' it it' e f = ap (λ b. given b it) e ∙ ap (given some') f

-- three warnings after others
pub three_given : (l0 l1 l2 l3 : List Warning) (b b' d d' f f' : Bool) (u u' v v' w w' : Warning) →
    l1 ≡ l0 ++ given b u → l2 ≡ l1 ++ given d v → l3 ≡ l2 ++ given f w →
    b ≡ b' → u ≡ u' → d ≡ d' → v ≡ v' → f ≡ f' → w ≡ w' →
    l3 ≡ l0 ++ ((given b' u' ++ given d' v') ++ given f' w')
three_given l0 l1 l2 l3 b b' d d' f f' u u' v v' w w' e1 e2 e3 p q r s t y =
    let at1 : l1 ≡ l0 ++ given b' u' = e1 ∙ ap (λ x. l0 ++ x) (given_is b b' u u' p q) in
    let at2 : l2 ≡ (l0 ++ given b' u') ++ given d' v' = e2 ∙ ap (λ x. x ++ given d v) at1 ∙ ap (λ x. (l0 ++ given b' u') ++ x) (given_is d d' v v' r s) in
    e3 ∙ ap (λ x. x ++ given f w) at2 ∙ ap (λ x. ((l0 ++ given b' u') ++ given d' v') ++ x) (given_is f f' w w' t y) ∙
    three l0 (given b' u') (given d' v') (given f' w')

-- one warning from an empty list on, and others
pub one_given : (l0 l1 l2 l3 status routes : List Warning) (b b' : Bool) (w : Warning) →
    l0 ≡ [] → l1 ≡ l0 ++ given b w → l2 ≡ l1 ++ status → l3 ≡ l2 ++ routes → b ≡ b' → l3 ≡ given b' w ++ status ++ routes
one_given l0 l1 l2 l3 status routes b b' w e0 e1 e2 e3 p =
    let at1 : l1 ≡ given b' w = e1 ∙ ap (λ x. x ++ given b w) e0 ∙ ap (λ v. given v w) p in
    e3 ∙ ap (λ x. x ++ routes) (e2 ∙ ap (λ x. x ++ status) at1)

-- two lists of warnings after others
pub two_more : (l0 l1 l2 a b : List Warning) → l1 ≡ l0 ++ a → l2 ≡ l1 ++ b → l2 ≡ l0 ++ (a ++ b)
two_more l0 l1 l2 a b p q = q ∙ ap (λ x. x ++ b) p ∙ append_assoc l0 a b

-- three lists of warnings after others
pub three_more : (l0 l1 l2 l3 a b d : List Warning) → l1 ≡ l0 ++ a → l2 ≡ l1 ++ b → l3 ≡ l2 ++ d → l3 ≡ l0 ++ ((a ++ b) ++ d)
three_more l0 l1 l2 l3 a b d p q r = two_more l0 l2 l3 (a ++ b) d (two_more l0 l1 l2 a b p q) r

-- two warnings after others
pub two_given : (l0 l1 l2 : List Warning) (b b' d d' : Bool) (u u' v v' : Warning) →
    l1 ≡ l0 ++ given b u → l2 ≡ l1 ++ given d v → b ≡ b' → u ≡ u' → d ≡ d' → v ≡ v' → l2 ≡ l0 ++ (given b' u' ++ given d' v')
two_given l0 l1 l2 b b' d d' u u' v v' e f p q r s =
    two_more l0 l1 l2 (given b' u') (given d' v')
    (e ∙ ap (λ x. l0 ++ x) (given_is b b' u u' p q))
    (f ∙ ap (λ x. l1 ++ x) (given_is d d' v v' r s))

split_at : (table : Members) (entries : List Entry) (e d : Entry) (at : ℕ) → at < length entries → e ≡ get_or entries at d
    → routes_warnings table (at + 1) (map terms_of (drop at entries))
    ≡ route_warnings (at + 1) (route_table table (at + 1)) (terms_of e) ++ routes_warnings table (at + 1 + 1) (map terms_of (drop (at + 1) entries))
split_at table entries e d at within is =
    let others = map terms_of (drop (at + 1) entries) in
    let first = λ (x : Entry). route_warnings (at + 1) (route_table table (at + 1)) (terms_of x) in
    at_drop_more (λ (es : List Entry). routes_warnings table (at + 1) (map terms_of es)) entries at d within
    ∙ ap (λ (n : ℕ). first (get_or entries at d) ++ routes_warnings table n others) (sym (add-one (at + 1)))
    ∙ ap (λ (x : Entry). first x ++ routes_warnings table (at + 1 + 1) others) (sym is)

-- one route more
pub next_route : (table : Members) (entries : List Entry) (e d : Entry) (at : ℕ) (x y z : List Warning) → at < length entries
    → e ≡ get_or entries at d
    → y ++ routes_warnings table (at + 1) (map terms_of (drop at entries)) ≡ x
    → z ≡ y ++ route_warnings (at + 1) (route_table table (at + 1)) (terms_of e)
    → z ++ routes_warnings table (at + 1 + 1) (map terms_of (drop (at + 1) entries)) ≡ x
next_route table entries e d at x y z within is before put =
    let first = route_warnings (at + 1) (route_table table (at + 1)) (terms_of e) in
    let others = routes_warnings table (at + 1 + 1) (map terms_of (drop (at + 1) entries)) in
    ap (λ (l : List Warning). l ++ others) put
    ∙ append_assoc y first others
    ∙ ap (λ (l : List Warning). y ++ l) (sym (split_at table entries e d at within is))
    ∙ before

-- no route is left
pub no_route_left : (table : Members) (entries : List Entry) (at : ℕ) (x y : List Warning) → length entries ≤ at
    → y ++ routes_warnings table (at + 1) (map terms_of (drop at entries)) ≡ x → y ≡ x
no_route_left table entries at x y past before =
    sym (append-nil y)
    ∙ ap (λ (l : List Warning). y ++ l) (sym (at_drop_all (λ es. routes_warnings table (at + 1) (map terms_of es)) entries at past)) ∙ before
