-- The active one of a route's publishers.
use Rattle.std.proofs.Common.{◌≡◌, ◌≢◌, ℕ, ◌<◌, ◌≤◌, ◌==◌, ◌&&◌, Bool, true, false, cond, Option, None, Some, List, [], ◌∷◌, find}
use Rattle.std.proofs.Common.{refl, sym, ap, ◌∙◌, arith}
use Rattle.std.proofs.lemmas.Bool.{and_from, and_parts, eq-eqb, eqb-true, ne_eqb}
use Rattle.srt_route.specs.Activity.{OneIsActive, OneDelivers, StaysActive, StandbyLeads, OpensBehind, OneIsActiveAmong, is_active_publisher}
use Rattle.srt_route.specs.Sessions.{Session, active, advanced, aged, has_slot, is_active, is_open_in, is_publisher, open_publishers, publishes}
use Rattle.srt_route.specs.Route.{after, clock_after, passed_by, route_before, taken_by, heard_by}
use Rattle.srt_route.specs.Tables.{AreAlone}
use Rattle.srt_route.proofs.model.Lists.{how_many, one_more}
use Rattle.srt_route.proofs.model.Marking.{standby_leads}
use Rattle.srt_route.proofs.model.TakeOver.{active_in_slot, active_is, active_publishes, aged_opens_none, none_active, opens_behind}
use Rattle.srt_route.proofs.model.TakeOver.{some_publisher, stays_active}
use Rattle.srt_route.proofs.model.Alone.{advanced_alone, are_alone, before_are_alone, after_delivery_alone, none_pass, one_in_slot, taken_alone}
use Rattle.srt_route.proofs.stored.Stored.{alone_apart}
use Rattle.srt_route.proofs.steps.Aging.{ages, ages_marks}

-- an element that is found and passes a test is counted
some_there : {A : Type 0} (p q : A → Bool) (xs : List A) (x : A) → find q xs ≡ Some x → p x ≡ true → 0 < how_many p xs
some_there p q [] x h passes = absurd (let bad : None ≡ Some x = h in cc)
some_there {A} p q (y ∷ ys) x h passes = by (λ k. some_there p q ys x k passes) (q y) refl h (p y) refl
  where
    by : (find q ys ≡ Some x → 0 < how_many p ys) → (b : Bool) → q y ≡ b → cond b (Some y) (find q ys) ≡ Some x
        → (d : Bool) → p y ≡ d → 0 < how_many p (y ∷ ys)
    by rest b found k true is = omega (arith, one_more p y ys true is)
    by rest true found k false is = absurd (let same : y ≡ x = cc in let bad : true ≡ false = sym passes ∙ (ap p (sym same) ∙ is) in cc)
    by rest false found k false is = omega (arith, one_more p y ys false is, rest k)

-- a narrower test passes at most as many
narrower : {A : Type 0} (p q : A → Bool) (xs : List A) → ((x : A) → p x ≡ true → q x ≡ true) → how_many p xs ≤ how_many q xs
narrower p q [] passes = omega arith
narrower p q (x ∷ xs) passes = by (narrower p q xs passes) (p x) refl (q x) refl
  where
    by : how_many p xs ≤ how_many q xs → (b : Bool) → p x ≡ b → (d : Bool) → q x ≡ d → how_many p (x ∷ xs) ≤ how_many q (x ∷ xs)
    by rest true is true was = omega (arith, one_more p x xs true is, one_more q x xs true was, rest)
    by rest true is false was = absurd (let bad : q x ≡ true = passes x is in cc)
    by rest false is true was = omega (arith, one_more p x xs false is, one_more q x xs true was, rest)
    by rest false is false was = omega (arith, one_more p x xs false is, one_more q x xs false was, rest)

-- of open sessions that are alone in their slots exactly one is active, if one publishes
one_among : (places : ℕ) (ss : List Session) → AreAlone places ss → OneIsActiveAmong ss
one_among places ss alone = by (active ss) refl
  where
    by : (o : Option Session) → active ss ≡ o → OneIsActiveAmong ss
    by None none =
        let nobody : how_many (is_active_publisher ss) ss ≡ 0 =
        none_pass (is_active_publisher ss) ss (λ s h.
        let bad : false ≡ true = ap (λ (o : Option Session). has_slot o s.slot) (sym none) ∙ (and_parts (is_publisher s) (is_active ss s) h).1 in
        cc) in
        nobody ∙ sym (ap (λ (n : ℕ). cond (n == 0) 0 1) (none_active ss none))
    by (Some t) one =
        let place = active_in_slot ss t (alone_apart places ss alone).0 one in
        let role = active_publishes ss t one in
        let few : how_many (is_active_publisher ss) ss ≤ 1 =
        omega (
          arith,
          narrower (is_active_publisher ss) (is_open_in t.slot) ss (λ s h. in_slot s h),
          one_in_slot places ss alone t.slot,
        ) in
        let some : 0 < how_many (is_active_publisher ss) ss =
        some_there (is_active_publisher ss) (is_open_in t.slot) ss t place (and_from (is_publisher t) (is_active ss t) role (active_is ss t one)) in
        let many : open_publishers ss ≢ 0 = λ none. omega (arith, none, some_publisher ss t.slot t place role) in
        let exactly : how_many (is_active_publisher ss) ss ≡ 1 = omega (arith, few, some) in
        exactly ∙ sym (ap (λ (b : Bool). cond b 0 1) (ne_eqb (open_publishers ss) 0 many))
      where
        in_slot : (s : Session) → is_active_publisher ss s ≡ true → is_open_in t.slot s ≡ true
        in_slot s h =
            let parts = and_parts (is_publisher s) (is_active ss s) h in
            let same : t.slot ≡ s.slot = eqb-true t.slot s.slot (ap (λ (o : Option Session). has_slot o s.slot) (sym one) ∙ parts.1) in
            and_from s.is_open (s.slot == t.slot) (and_parts s.is_open (publishes s.conclusion.role) parts.0).0 (eq-eqb s.slot t.slot (sym same))

pub one_is_active : OneIsActive
one_is_active e index items = one_among e.sessions (after e index items).sessions (are_alone e index items)

pub one_delivers : OneDelivers
one_delivers e index items item =
    let m = route_before e index item items in
    let clock = clock_after item m in
    one_among e.sessions (passed_by e index item m)
    (after_delivery_alone e clock (taken_by e index item m).sessions
    (taken_alone e index clock (heard_by e index item m) (advanced e clock m.sessions)
    (advanced_alone e clock m.sessions (before_are_alone e index items item))))

pub stays : StaysActive
stays e clock ss s is lives =
    let role = and_parts s.is_open (publishes s.conclusion.role) (active_publishes ss s is) in
    stays_active (aged e clock) (aged_opens_none e clock) (ages_marks e clock) ss s is
    (and_from (aged e clock s).is_open (publishes (aged e clock s).conclusion.role) lives (rw ((ages e clock).conclusion s) role.1))

pub standby_is_next : StandbyLeads
standby_is_next ss t is = standby_leads ss t is

pub behind : OpensBehind
behind s t ss unmarked is = opens_behind s ss t (ap (λ (b : Bool). is_publisher s && b) unmarked ∙ never (is_publisher s)) is
  where
    never : (b : Bool) → (b && false) ≡ false
    never true = refl
    never false = refl
