-- Delivering payloads one by one has the same result as delivering them together.
use Rattle.std.proofs.Common.{◌≡◌, ◌≢◌, ℕ, zero, suc, ◌+◌, ◌-◌, ◌<◌, Bool, true, false, not, ◌&&◌, Option, None, Some, List, [], ◌∷◌, refl}
use Rattle.std.proofs.Common.{sym, ap, ◌∙◌, ◌⊎◌, inl, inr, arith}
use Rattle.std.specs.Prelude.{filter_map, is_some}
use Rattle.std.specs.List.{cons_option}
use Rattle.std.proofs.lemmas.Bool.{cases_eq, eq-eqb, ne_eqb}
use Rattle.srt_types.specs.Runs.{numbers_from, least_from}
use Rattle.srt_recvbuf.specs.Receiving.{Arrival, arrival_of, is_requested, is_dropped, end_of}
use Rattle.srt_recvbuf.specs.OneByOne.{OthersWait, PassesOneByOne}

abbrev pub number_or : ℕ → Option Arrival → ℕ
number_or n None = n
number_or n (Some a) = a.number

pub found_number : (xs : List Arrival) (n : ℕ) → number_or n (arrival_of xs n) ≡ n
found_number [] n = refl
found_number (a ∷ xs) n = elim (cases_eq a.number n) [
  | inl same ↦ rw (eq-eqb _ _ same) same
  | inr other ↦ rw (ne_eqb _ _ other) (found_number xs n)
]

abbrev head_or : Arrival → List Arrival → Arrival
head_or a [] = a
head_or a (x ∷ ys) = x

abbrev tail_of : List Arrival → List Arrival
tail_of [] = []
tail_of (x ∷ ys) = ys

-- the number of the first packet, and the packets after it
record IsFirst (xs : List Arrival) (p c : ℕ) (a : Arrival) (more : List Arrival) : Type 0 where
  place : ℕ
  number_is : a.number ≡ p + place
  more_is : more ≡ filter_map (arrival_of xs) (numbers_from (p + place + 1) (c - (place + 1)))

first_of_all : (xs : List Arrival) (p c : ℕ) (a : Arrival) (more : List Arrival)
    → filter_map (arrival_of xs) (numbers_from p c) ≡ a ∷ more → IsFirst xs p c a more
first_of_all xs p zero a more e = cc
first_of_all xs p (suc c) a more e = by (arrival_of xs p) refl (first_of_all xs (p + 1) c a more)
  where
    by : (o : Option Arrival) → arrival_of xs p ≡ o
        → (filter_map (arrival_of xs) (numbers_from (p + 1) c) ≡ a ∷ more → IsFirst xs (p + 1) c a more)
        → IsFirst xs p (suc c) a more
    by None is next =
        let h = next (sym (ap (λ o. cons_option o (filter_map (arrival_of xs) (numbers_from (p + 1) c))) is) ∙ e) in
        let q : p + 1 + h.place + 1 ≡ p + (h.place + 1) + 1 = omega arith in
        let d : c - (h.place + 1) ≡ suc c - (h.place + 1 + 1) = omega arith in
        record {
          place = h.place + 1;
          number_is = omega (arith, h.number_is);
          more_is = h.more_is ∙ ap (λ x. filter_map (arrival_of xs) (numbers_from x (c - (h.place + 1)))) q
              ∙ ap (λ x. filter_map (arrival_of xs) (numbers_from (p + (h.place + 1) + 1) x)) d;
        }
    by (Some x) is next =
        let whole : x ∷ filter_map (arrival_of xs) (numbers_from (p + 1) c) ≡ a ∷ more =
        sym (ap (λ o. cons_option o (filter_map (arrival_of xs) (numbers_from (p + 1) c))) is) ∙ e in
        let same : x ≡ a = ap (head_or a) whole in
        let rest : filter_map (arrival_of xs) (numbers_from (p + 1) c) ≡ more = ap tail_of whole in
        let n : x.number ≡ p = sym (ap (number_or p) is) ∙ found_number xs p in
        let m : a.number ≡ p = sym (ap (λ (y : Arrival). y.number) same) ∙ n in
        let q : p + 1 ≡ p + 0 + 1 = omega arith in
        let d : c ≡ suc c - (0 + 1) = omega arith in
        record {
          place = 0;
          number_is = omega (arith, m);
          more_is = sym rest ∙ ap (λ y. filter_map (arrival_of xs) (numbers_from y c)) q
              ∙ ap (λ y. filter_map (arrival_of xs) (numbers_from (p + 0 + 1) y)) d;
        }

-- numbers without a packet can be omitted
pub skipped : (xs : List Arrival) (q c j : ℕ) → ((i : ℕ) → i < j → arrival_of xs (q + i) ≡ None)
    → filter_map (arrival_of xs) (numbers_from q c) ≡ filter_map (arrival_of xs) (numbers_from (q + j) (c - j))
skipped xs q c zero none =
    let a : q ≡ q + 0 = omega arith in
    let b : c ≡ c - 0 = omega arith in
    ap (λ x. filter_map (arrival_of xs) (numbers_from x c)) a ∙ ap (λ x. filter_map (arrival_of xs) (numbers_from (q + 0) x)) b
skipped xs q zero (suc j) none =
    let b : 0 ≡ 0 - suc j = omega arith in
    ap (λ x. filter_map (arrival_of xs) (numbers_from (q + suc j) x)) b
skipped xs q (suc c) (suc j) none =
    let z : q + 0 ≡ q = omega arith in
    let here : arrival_of xs q ≡ None = rw z at (none 0 (omega arith)) in
    let a : q + 1 + j ≡ q + suc j = omega arith in
    let b : c - j ≡ suc c - suc j = omega arith in
    ap (λ o. cons_option o (filter_map (arrival_of xs) (numbers_from (q + 1) c))) here
    ∙ skipped xs (q + 1) c j (λ i lt. let m : q + 1 + i ≡ q + suc i = omega arith in rw m (none (suc i) (omega (arith, lt))))
    ∙ ap (λ x. filter_map (arrival_of xs) (numbers_from x (c - j))) a
    ∙ ap (λ x. filter_map (arrival_of xs) (numbers_from (q + suc j) x)) b

record IsLeast (test : ℕ → Bool) (from least : ℕ) : Type 0 where
  steps : ℕ
  least_is : least ≡ from + steps
  before : (i : ℕ) → i < steps → test (from + i) ≡ false

pub found : (test : ℕ → Bool) (from places : ℕ) (b : Bool)
    → test from ≡ b → least_from test from (suc places) ≡ elim b as (λ v. ℕ) [ true ↦ from | false ↦ least_from test (from + 1) places ]
found test from places b here = ap (λ (x : Bool). elim x as (λ v. ℕ) [ true ↦ from | false ↦ least_from test (from + 1) places ]) here

least : (test : ℕ → Bool) (from places : ℕ) → IsLeast test from (least_from test from places)
least test from zero = record { steps = 0; least_is = omega arith; before = λ i lt. absurd (omega (arith, lt)) }
least test from (suc places) = by (test from) refl (least test (from + 1) places)
  where
    by : (b : Bool) → test from ≡ b → IsLeast test (from + 1) (least_from test (from + 1) places) → IsLeast test from (least_from test from (suc places))
    by true is h =
        let e : from ≡ from + 0 = omega arith in
        record { steps = 0; least_is = found test from places true is ∙ e; before = λ i lt. absurd (omega (arith, lt)) }
    by false is h =
        let e : from + 1 + h.steps ≡ from + (h.steps + 1) = omega arith in
        record { steps = h.steps + 1; least_is = found test from places false is ∙ h.least_is ∙ e; before = λ i lt. at i (cases_eq i 0) lt }
      where
        at : (i : ℕ) → (i ≡ 0) ⊎ (i ≢ 0) → i < h.steps + 1 → test (from + i) ≡ false
        at i (inl none) lt = let z : from + i ≡ from = omega (arith, none) in rw z is
        at i (inr some) lt = let z : from + 1 + (i - 1) ≡ from + i = omega (arith, some) in rw z at (h.before (i - 1) (omega (arith, some, lt)))

-- a dropped number wasn't received
gone : (b : Bool) (o : Option Arrival) → not (b && not (is_some o)) ≡ false → o ≡ None
gone b None e = refl
gone true (Some a) e = cc
gone false (Some a) e = cc

pub others_wait : OthersWait
others_wait width r a more e =
    let h = first_of_all r.arrivals r.front (end_of r.arrivals - r.front) a more e in
    let q = a.number + 1 in
    let l = least (λ n. not (is_dropped width r n)) q width in
    let none : (i : ℕ) → i < l.steps → arrival_of r.arrivals (q + i) ≡ None =
    λ i lt. gone (is_requested width r.requests (q + i)) (arrival_of r.arrivals (q + i)) (l.before i lt) in
    let from : r.front + h.place + 1 ≡ q = omega (arith, h.number_is) in
    let count : (end_of r.arrivals - r.front) - (h.place + 1) ≡ end_of r.arrivals - q = omega (arith, h.number_is) in
    let left : end_of r.arrivals - (q + l.steps) ≡ (end_of r.arrivals - q) - l.steps = omega arith in
    ap (λ x. filter_map (arrival_of r.arrivals) (numbers_from x (end_of r.arrivals - x))) l.least_is
    ∙ ap (λ x. filter_map (arrival_of r.arrivals) (numbers_from (q + l.steps) x)) left
    ∙ sym (skipped r.arrivals q (end_of r.arrivals - q) l.steps none)
    ∙ ap (λ x. filter_map (arrival_of r.arrivals) (numbers_from q x)) (sym count)
    ∙ ap (λ x. filter_map (arrival_of r.arrivals) (numbers_from x ((end_of r.arrivals - r.front) - (h.place + 1)))) (sym from)
    ∙ sym h.more_is

pub passes_one_by_one : PassesOneByOne
passes_one_by_one width r a b more = refl
