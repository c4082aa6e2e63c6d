-- Delivering payloads one by one has the same result as delivering them together.
use Rattle.std.proofs.Common.{◌≡◌, inl, inr, ℕ, suc, zero, ◌+◌, ◌-◌, ◌<◌, min, pos, Bool, true, false, cond, Option, Some, None, List, []}
use Rattle.std.proofs.Common.{◌∷◌, length, take, refl, sym, ap, subst, ◌∙◌, arith}
use Rattle.std.specs.Prelude.{int_le, filter_map}
use Rattle.srt_types.specs.Runs.{numbers_from}
use Rattle.std.specs.List.{take_while, prefix_len}
use Rattle.std.proofs.lemmas.Bool.{cases_eq, cases_lt}
use Rattle.srt_types.specs.declared.shared.Mode.{Mode}
use Rattle.srt_types.specs.declared.shared.Mode.TheVariants.{Live, Buffer}
use Rattle.srt_recvbuf.specs.Receiving.{Arrival, Receiving, arrival_of, ack_point, waiting, unbroken, most, first_due, in_order, deliverable, passed}
use Rattle.srt_recvbuf.specs.OneByOne.{NothingBeyond}
use Rattle.srt_recvbuf.proofs.OneByOne.{others_wait, passes_one_by_one}
use Rattle.srt_recvbuf.proofs.Unbroken.{unbroken_one_by_one}
use Rattle.srt_pub.specs.Publishing.{Terms, Publishing, deliveries, delivered}
use Rattle.srt_pub.specs.Calls.{first_of, next_delivery, after_delivery, room_after, gives, leaves}
use Rattle.srt_pub.specs.Laws.{DeliversOneByOne}
use Rattle.srt_pub.specs.Stands.{IsInMode, IsOrderly}
use Rattle.srt_pub.proofs.Goings.{first_waiting, orderly_passed, settled_already, settles}
use Rattle.srt_pub.proofs.Deliveries.{live_next, buffer_is, buffer_none}

pub record IsGood (terms : Terms) (m : Publishing) : Type 0 where
  pub orderly : IsOrderly terms.mode terms.width m.receiving
  pub beyond : NothingBeyond terms.width m.receiving

-- one call, where `left` are the remaining payloads
pub data Step (terms : Terms) (time room : ℕ) (m : Publishing) (left : List Arrival) (rest : Publishing → List Arrival) : Type 0 where
  Nothing : next_delivery terms time room m ≡ None → left ≡ [] → Step terms time room m left rest
  One : (a : Arrival) (more : List Arrival) → next_delivery terms time room m ≡ Some a → waiting m.receiving ≡ a ∷ more
      → left ≡ a ∷ rest (after_delivery terms (Some a) m)
      → Step terms time room m left rest

good_after : (terms : Terms) (m : Publishing) (a : Arrival) (more : List Arrival)
    → IsGood terms m → waiting m.receiving ≡ a ∷ more → IsGood terms (after_delivery terms (Some a) m)
good_after terms m a more g w =
    let r = m.receiving in
    let k = first_waiting (λ (x : Arrival). 0 < length x.payload) r a more g.orderly.filled w in
    let s = settles terms.width (record r { front = a.number + 1 }) in
    record { orderly = orderly_passed terms.mode terms.width r a k.low g.orderly; beyond = λ n le. g.beyond n (omega (arith, le, s.0, k.low)) }

passed_more : (terms : Terms) (m : Publishing) (a : Arrival) (xs : List Arrival) → IsGood terms (after_delivery terms (Some a) m)
    → passed terms.width xs (passed terms.width (a ∷ []) m.receiving) ≡ passed terms.width (a ∷ xs) m.receiving
passed_more terms m a [] g = settled_already terms.width (passed terms.width (a ∷ []) m.receiving) g.orderly.settled
passed_more terms m a (b ∷ xs) g = passes_one_by_one terms.width m.receiving a b xs

with_passed : (terms : Terms) → List Arrival → Publishing → Publishing
with_passed terms xs m = record m { receiving = passed terms.width xs m.receiving }

pub record GivesAll (terms : Terms) (time room calls : ℕ) (m : Publishing) (xs : List Arrival) : Type 0 where
  pub given : gives terms time room calls m ≡ xs
  pub left : leaves terms time room calls m ≡ record m { receiving = passed terms.width xs m.receiving }

nothing_passed : (terms : Terms) (m : Publishing) → IsGood terms m → m ≡ record m { receiving = passed terms.width [] m.receiving }
nothing_passed terms m g = ap (λ (r : Receiving). record m { receiving = r }) (sym (settled_already terms.width m.receiving g.orderly.settled))

-- n calls, if each is such a step
by_steps : (terms : Terms) (time : ℕ) (left : (calls room : ℕ) → Publishing → List Arrival)
    → ((room : ℕ) (m : Publishing) → left 0 room m ≡ [])
    → ((calls room : ℕ) (m : Publishing)
    → IsGood terms m → Step terms time room m (left (suc calls) room m) (left calls (room_after terms.mode room)))
    → (calls room : ℕ) (m : Publishing) → IsGood terms m
    → GivesAll terms time room calls m (left calls room m)
by_steps terms time left none step zero room m g = record {
  given = sym (none room m);
  left = nothing_passed terms m g ∙ ap (λ (xs : List Arrival). record m { receiving = passed terms.width xs m.receiving }) (sym (none room m));
}
by_steps terms time left none step (suc calls) room m g = by (step calls room m g) (by_steps terms time left none step calls (room_after terms.mode room))
  where
    given_by : Option Arrival → List Arrival
    given_by o = elim o as (λ v. List Arrival)
        [ None ↦ [] | Some a ↦ a ∷ gives terms time (room_after terms.mode room) calls (after_delivery terms (Some a) m) ]

    left_by : Option Arrival → Publishing
    left_by o = elim o as (λ v. Publishing) [ None ↦ m | Some a ↦ leaves terms time (room_after terms.mode room) calls (after_delivery terms (Some a) m) ]

    by : Step terms time room m (left (suc calls) room m) (left calls (room_after terms.mode room))
        → ((p : Publishing)
        → IsGood terms p → GivesAll terms time (room_after terms.mode room) calls p (left calls (room_after terms.mode room) p))
        → GivesAll terms time room (suc calls) m (left (suc calls) room m)
    by (Nothing next all) fewer = record {
      given = ap given_by next ∙ sym all;
      left = ap left_by next ∙ nothing_passed terms m g ∙ ap (λ (xs : List Arrival). record m { receiving = passed terms.width xs m.receiving }) (sym all);
    }
    by (One a more next w all) fewer =
        let g' = good_after terms m a more g w in
        let m' = after_delivery terms (Some a) m in
        let xs = left calls (room_after terms.mode room) m' in
        let h = fewer m' g' in
        record {
          given = ap given_by next ∙ ap (λ (ys : List Arrival). a ∷ ys) h.given ∙ sym all;
          left = ap left_by next ∙ h.left ∙ ap (λ (r : Receiving). record m { receiving = r }) (passed_more terms m a xs g')
              ∙ ap (λ (ys : List Arrival). record m { receiving = passed terms.width ys m.receiving }) (sym all);
        }

taken_more : (n k : ℕ) (a : Arrival) (xs : List Arrival) → n ≡ k + 1 → take n (a ∷ xs) ≡ a ∷ take k xs
taken_more zero k a xs e = absurd (omega (arith, e))
taken_more (suc n) k a xs e = let same : n ≡ k = omega (arith, e) in ap (λ (j : ℕ). a ∷ take j xs) same

taken_none : (n : ℕ) (xs : List Arrival) → n ≡ 0 → take n xs ≡ []
taken_none zero xs e = refl
taken_none (suc n) xs e = absurd (omega (arith, e))

taken_nothing : (n : ℕ) → take {A = Arrival} n [] ≡ []
taken_nothing zero = refl
taken_nothing (suc n) = refl

pub live_step : (terms : Terms) (time : ℕ) → terms.mode ≡ Live → (calls room : ℕ) (m : Publishing) → IsGood terms m
    → Step terms time room m (take (suc calls) (take_while (λ (a : Arrival). int_le a.due (pos time)) (waiting m.receiving)))
    (λ p. take calls (take_while (λ (a : Arrival). int_le a.due (pos time)) (waiting p.receiving)))
live_step terms time live calls room m g = by (waiting m.receiving) refl
  where
    whole : List Arrival → List Arrival
    whole xs = take (suc calls) (take_while (λ (a : Arrival). int_le a.due (pos time)) xs)

    rest : Publishing → List Arrival
    rest p = take calls (take_while (λ (a : Arrival). int_le a.due (pos time)) (waiting p.receiving))

    next : next_delivery terms time room m ≡ first_due time (waiting m.receiving)
    next = live_next terms time room m live

    by_due : (a : Arrival) (more : List Arrival) → waiting m.receiving ≡ a ∷ more → (b : Bool) → int_le a.due (pos time) ≡ b
        → Step terms time room m (whole (waiting m.receiving)) rest
    by_due a more w true d =
        One a more (next ∙ ap (first_due time) w ∙ ap (λ (x : Bool). cond x (Some a) None) d) w
        (ap whole w ∙ ap (λ (x : Bool). take (suc calls) (take (cond x (1 + prefix_len (λ (x : Arrival). int_le x.due (pos time)) more) 0) (a ∷ more))) d
        ∙ ap (take (suc calls))
        (taken_more (1 + prefix_len (λ (x : Arrival). int_le x.due (pos time)) more)
        (prefix_len (λ (x : Arrival). int_le x.due (pos time)) more) a more (omega arith))
        ∙ sym
        (ap (λ (ys : List Arrival). a ∷ take calls (take_while (λ (x : Arrival). int_le x.due (pos time)) ys))
        (others_wait terms.width m.receiving a more w)))
    by_due a more w false d =
        Nothing (next ∙ ap (first_due time) w ∙ ap (λ (x : Bool). cond x (Some a) None) d)
        (ap whole w ∙ ap (λ (x : Bool). take (suc calls) (take (cond x (1 + prefix_len (λ (x : Arrival). int_le x.due (pos time)) more) 0) (a ∷ more))) d)

    by : (xs : List Arrival) → waiting m.receiving ≡ xs → Step terms time room m (whole (waiting m.receiving)) rest
    by [] w = Nothing (next ∙ ap (first_due time) w) (ap whole w)
    by (a ∷ more) w = by_due a more w (int_le a.due (pos time)) refl

-- buffer mode: the payloads without a gap, while there is room
pub buffer_step : (terms : Terms) (time : ℕ) → terms.mode ≡ Buffer → (calls room : ℕ) (m : Publishing) → IsGood terms m
    → Step terms time room m (take (min (suc calls) room) (unbroken terms.width m.receiving))
    (λ p. take (min calls (room_after terms.mode room)) (unbroken terms.width p.receiving))
buffer_step terms time buffer calls room m g = elim (cases_lt m.receiving.front (ack_point terms.width m.receiving)) [
  | inl lt ↦ by (unbroken_one_by_one terms.width m.receiving in_buffer.0 g.beyond lt)
  | inr ge ↦ Nothing (buffer_none terms time room m buffer (omega (arith, ge))) (nothing_unbroken (omega (arith, ge)))
]
  where
    in_buffer : IsInMode Buffer m.receiving
    in_buffer = subst (λ (d : Mode). IsInMode d m.receiving) buffer g.orderly.in_mode

    nothing_unbroken : ack_point terms.width m.receiving - m.receiving.front ≡ 0 → take (min (suc calls) room) (unbroken terms.width m.receiving) ≡ []
    nothing_unbroken e =
        ap (λ (k : ℕ). take (min (suc calls) room) (filter_map (arrival_of m.receiving.arrivals) (numbers_from m.receiving.front k))) e
        ∙ taken_nothing (min (suc calls) room)

    by : (a : Arrival) × (more : List Arrival) × (waiting m.receiving ≡ a ∷ more) ×
        (unbroken terms.width m.receiving ≡ a ∷ unbroken terms.width (passed terms.width (a ∷ []) m.receiving))
        → Step terms time room m (take (min (suc calls) room) (unbroken terms.width m.receiving))
        (λ p. take (min calls (room_after terms.mode room)) (unbroken terms.width p.receiving))
    by u = elim (cases_eq room 0) [
      | inl z ↦ Nothing
          (buffer_is terms time room m buffer
          ∙ ap first_of (taken_none (min most room) (unbroken terms.width m.receiving) (omega (arith, z))))
          (taken_none (min (suc calls) room) (unbroken terms.width m.receiving) (omega (arith, z)))
      | inr s ↦
          let after : room_after terms.mode room ≡ room - 1 = ap (λ (d : Mode). room_after d room) buffer in
          One u.0 u.1
          (buffer_is terms time room m buffer ∙ ap (λ (xs : List Arrival). first_of (take (min most room) xs)) u.3
          ∙ ap first_of (taken_more (min most room) (min most room - 1) u.0 _ (omega (arith, s))))
          u.2
          (ap (take (min (suc calls) room)) u.3 ∙ taken_more (min (suc calls) room) (min calls (room_after terms.mode room)) u.0 _ (omega (arith, s, after)))
    ]

pub delivers : (terms : Terms) (m : Publishing) → IsGood terms m → DeliversOneByOne terms m
unfolding deliveries
delivers terms m g time room = by terms.mode refl
  where
    by : (d : Mode) → terms.mode ≡ d
        → (gives terms time room 64 m ≡ deliveries terms.mode terms time (Some room) m) ×
        (leaves terms time room 64 m ≡ delivered terms time (Some room) m)
    by Live e =
        let h =
        by_steps terms time (λ calls room p. take calls (take_while (λ (a : Arrival). int_le a.due (pos time)) (waiting p.receiving)))
        (λ room p. refl) (live_step terms time e) 64 room m g in
        let same : deliveries terms.mode terms time (Some room) m ≡ deliverable time m.receiving = ap (λ (x : Mode). deliveries x terms time (Some room) m) e in
        (h.given ∙ sym same, h.left ∙ sym (ap (λ (xs : List Arrival). record m { receiving = passed terms.width xs m.receiving }) same))
    by Buffer e =
        let h = by_steps terms time (λ calls room p. take (min calls room) (unbroken terms.width p.receiving))
        (λ room p. taken_none (min 0 room) (unbroken terms.width p.receiving) (omega arith)) (buffer_step terms time e) 64 room m g in
        let same : deliveries terms.mode terms time (Some room) m ≡ in_order terms.width room m.receiving =
        ap (λ (x : Mode). deliveries x terms time (Some room) m) e in
        (h.given ∙ sym same, h.left ∙ sym (ap (λ (xs : List Arrival). record m { receiving = passed terms.width xs m.receiving }) same))
