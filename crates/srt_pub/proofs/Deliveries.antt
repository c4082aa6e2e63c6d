-- The payload that is delivered next.
use Rattle.std.proofs.Common.{◌≡◌, ℕ, suc, zero, ◌+◌, ◌-◌, ◌<◌, min, ℤ, pos, Bool, true, false, cond, Some, None, List, [], ◌∷◌, take, refl}
use Rattle.std.proofs.Common.{sym, ap, ◌∙◌, inl, inr, arith}
use Rattle.std.specs.Prelude.{int_le, filter_map}
use Rattle.std.specs.List.{take_while, prefix_len}
use Rattle.std.proofs.lemmas.Bool.{cases_eq, eq-eqb, ne_eqb}
use Rattle.std.proofs.lemmas.Bool.Decides.{nat_tests}
use Rattle.srt_types.specs.declared.shared.Mode.{Mode}
use Rattle.srt_types.specs.declared.shared.Mode.TheVariants.{Live, Buffer}
use Rattle.srt_types.specs.Runs.{numbers_from}
use Rattle.srt_recvbuf.specs.Receiving.{Arrival, Receiving, arrival_of, ack_point, waiting, unbroken, most, first_due, next_due}
use Rattle.srt_recvbuf.specs.OneByOne.{NothingBeyond}
use Rattle.srt_recvbuf.proofs.Unbroken.{unbroken_one_by_one}
use Rattle.srt_pub.specs.Publishing.{Terms, Publishing, deliveries}
use Rattle.srt_pub.specs.Calls.{first_of, next_delivery}
use Rattle.srt_pub.specs.Stands.{Each, IsInMode, IsOrderly}
use Rattle.srt_pub.proofs.Goings.{first_waiting}

first_taken : (n : ℕ) (a : Arrival) (more : List Arrival) → 0 < n → first_of (take most (take n (a ∷ more))) ≡ Some a
first_taken zero a more lt = absurd (omega (arith, lt))
first_taken (suc n) a more lt = refl

first_live : (time : ℕ) (xs : List Arrival) → first_of (take most (take_while (λ (a : Arrival). int_le a.due (pos time)) xs)) ≡ first_due time xs
first_live time [] = refl
first_live time (a ∷ more) = by (int_le a.due (pos time)) (prefix_len (λ (x : Arrival). int_le x.due (pos time)) more)
  where
    by : (b : Bool) (k : ℕ) → first_of (take most (take (cond b (1 + k) 0) (a ∷ more))) ≡ cond b (Some a) None
    by true k = first_taken (1 + k) a more (omega arith)
    by false k = refl

pub live_next : (terms : Terms) (time room : ℕ) (m : Publishing) → terms.mode ≡ Live → next_delivery terms time room m ≡ next_due time 1 m.receiving
unfolding deliveries
live_next terms time room m e = ap (λ (d : Mode). first_of (deliveries d terms time (Some room) m)) e ∙ first_live time (waiting m.receiving)

pub buffer_is : (terms : Terms) (time room : ℕ) (m : Publishing)
    → terms.mode ≡ Buffer → next_delivery terms time room m ≡ first_of (take (min most room) (unbroken terms.width m.receiving))
unfolding deliveries
buffer_is terms time room m e = ap (λ (d : Mode). first_of (deliveries d terms time (Some room) m)) e

take_nothing : (n : ℕ) → first_of (take n []) ≡ None
take_nothing zero = refl
take_nothing (suc n) = refl

pub buffer_none : (terms : Terms) (time room : ℕ) (m : Publishing)
    → terms.mode ≡ Buffer → ack_point terms.width m.receiving - m.receiving.front ≡ 0 → next_delivery terms time room m ≡ None
buffer_none terms time room m e none =
    buffer_is terms time room m e
    ∙ ap (λ (k : ℕ). first_of (take (min most room) (filter_map (arrival_of m.receiving.arrivals) (numbers_from m.receiving.front k)))) none
    ∙ take_nothing (min most room)

take_first : (n : ℕ) (a : Arrival) (xs : List Arrival) → 0 < n → first_of (take n (a ∷ xs)) ≡ Some a
take_first zero a xs lt = absurd (omega (arith, lt))
take_first (suc n) a xs lt = refl

take_none : (n : ℕ) (xs : List Arrival) → n ≡ 0 → first_of (take n xs) ≡ None
take_none zero xs e = refl
take_none (suc n) xs e = absurd (omega (arith, e))

at_once : (time : ℕ) → int_le (pos 0) (pos time) ≡ true
at_once time = grind (arith, nat_tests)

due_at_once : (time : ℕ) (a : Arrival) (more : List Arrival) → a.due ≡ pos 0 → first_due time (a ∷ more) ≡ Some a
due_at_once time a more e = ap (λ (b : Bool). cond b (Some a) None) (ap (λ (d : ℤ). int_le d (pos time)) e ∙ at_once time)

due_ones : (r : Receiving) → IsInMode Buffer r → Each (λ (a : Arrival). a.due ≡ pos 0) r.arrivals
due_ones r h = h.1

no_requests : (r : Receiving) → IsInMode Buffer r → r.requests ≡ []
no_requests r h = h.0

pub buffer_next : (terms : Terms) (time room : ℕ) (m : Publishing) → terms.mode ≡ Buffer → NothingBeyond terms.width m.receiving
    → IsOrderly Buffer terms.width m.receiving → m.receiving.front < ack_point terms.width m.receiving
    → next_delivery terms time room m ≡ next_due time room m.receiving
buffer_next terms time room m e beyond h lt =
    let r = m.receiving in
    let u = unbroken_one_by_one terms.width r (no_requests r h.in_mode) beyond lt in
    let a = u.0 in
    let k = first_waiting (λ (x : Arrival). x.due ≡ pos 0) r a u.1 (due_ones r h.in_mode) u.2 in
    elim (cases_eq room 0) [
      | inl z ↦
          buffer_is terms time room m e ∙ take_none (min most room) (unbroken terms.width r) (omega (arith, z))
          ∙ sym (ap (λ (b : Bool). cond b None (first_due time (waiting r))) (eq-eqb room 0 z))
      | inr s ↦
          buffer_is terms time room m e ∙ ap (λ (xs : List Arrival). first_of (take (min most room) xs)) u.3 ∙ take_first (min most room) a _ (omega (arith, s))
          ∙ sym (due_at_once time a u.1 k.holds) ∙ sym (ap (first_due time) u.2)
          ∙ sym (ap (λ (b : Bool). cond b None (first_due time (waiting r))) (ne_eqb room 0 s))
    ]
