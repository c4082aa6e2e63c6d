-- Packets without a gap can be delivered one by one.
use Rattle.std.proofs.Common.{◌≡◌, ℕ, zero, suc, ◌+◌, ◌-◌, ◌<◌, Bool, true, false, not, ◌||◌, Option, None, Some, List, [], ◌∷◌, refl, sym}
use Rattle.std.proofs.Common.{ap, subst, ◌∙◌, inl, inr, arith}
use Rattle.std.specs.Prelude.{is_some, filter_map}
use Rattle.std.specs.List.{cons_option}
use Rattle.std.proofs.lemmas.Bool.{cases_eq, cases_lt, ne_eqb}
use Rattle.srt_types.specs.Runs.{least_from, numbers_from}
use Rattle.srt_recvbuf.specs.Receiving.{Arrival, Request, Receiving, arrival_of, is_received, is_missing, is_dropped, end_of, ack_point}
use Rattle.srt_recvbuf.specs.Receiving.{waiting, unbroken, passed, moved_to}
use Rattle.srt_recvbuf.specs.OneByOne.{NothingBeyond, UnbrokenOneByOne}
use Rattle.srt_recvbuf.proofs.OneByOne.{found_number, number_or}
use Rattle.srt_recvbuf.proofs.Points.{ack_points}
use Rattle.srt_recvbuf.proofs.Buffers.{least_is}

-- received numbers are below the end
below_end : (xs : List Arrival) (n : ℕ) → is_some (arrival_of xs n) ≡ true → n < end_of xs
below_end [] n e = cc
below_end (a ∷ xs) n e = elim (cases_eq a.number n) [
  | inl same ↦ omega (arith, same)
  | inr other ↦ let k = below_end xs n (rw (ne_eqb _ _ other) at e) in omega (arith, k)
]

received_is : (b : Bool) → not (b || false) ≡ false → b ≡ true
received_is true e = refl
received_is false e = cc

missing_is : (b : Bool) → not (b || false) ≡ true → b ≡ false
missing_is true e = cc
missing_is false e = refl

still_there : (b : Bool) → b ≡ true → not (b || false) ≡ false
still_there b e = rw e refl

still_missing : (b : Bool) → b ≡ false → not (b || false) ≡ true
still_missing b e = rw e refl

head_is : (xs : List Arrival) (p c : ℕ) (a : Arrival) → arrival_of xs p ≡ Some a → 0 < c
    → filter_map (arrival_of xs) (numbers_from p c) ≡ a ∷ filter_map (arrival_of xs) (numbers_from (p + 1) (c - 1))
head_is xs p zero a e lt = absurd (omega (arith, lt))
head_is xs p (suc c) a e lt =
    let m : c ≡ suc c - 1 = omega arith in
    ap (λ o. cons_option o (filter_map (arrival_of xs) (numbers_from (p + 1) c))) e ∙ ap (λ x. a ∷ filter_map (arrival_of xs) (numbers_from (p + 1) x)) m

at_once : (test : ℕ → Bool) (from width : ℕ) → test from ≡ true → least_from test from width ≡ from
at_once test from width e =
    let z : from + 0 ≡ from = omega arith in
    least_is test from width 0 (omega arith) (λ k lt. absurd (omega (arith, lt))) (λ lt. rw z e) ∙ z

-- the first packet and the others, if the first has the front's number
first_and_rest : (width front : ℕ) (xs : List Arrival) (a : Arrival)
    → let r : Receiving = record { arrivals = xs; requests = []; front = front } in
    NothingBeyond width r → front < ack_point width r → arrival_of xs front ≡ Some a → is_some (arrival_of xs front) ≡ true
    → (waiting r ≡ a ∷ filter_map (arrival_of xs) (numbers_from (front + 1) (end_of xs - front - 1))) ×
    (unbroken width r ≡ a ∷ unbroken width (passed width (a ∷ []) r))
first_and_rest width front xs a beyond lt is some =
    let r : Receiving = record { arrivals = xs; requests = []; front = front } in
    let point = ack_point width r in
    let h = ack_points width r in
    let low = below_end xs front some in
    let number : a.number ≡ front = sym (ap (number_or front) is) ∙ found_number xs front in
    let next : (passed width (a ∷ []) r).front ≡ front + 1 =
    at_once (λ n. not (is_dropped width (moved_to (a.number + 1) r) n)) (a.number + 1) width refl ∙ ap (λ n. n + 1) number in
    let at : front + 1 + (point - (front + 1)) ≡ point = omega (arith, lt) in
    let again : least_from (is_missing width r) (front + 1) width ≡ front + 1 + (point - (front + 1)) =
    least_is (is_missing width r) (front + 1) width (point - (front + 1)) (omega (arith, h.high))
    (λ k less. h.before (front + 1 + k) (omega arith) (omega (arith, less))) (λ less. rw at (elim (cases_lt point (front + width)) [
      | inl inside ↦ h.here inside
      | inr outside ↦ still_missing (is_received r point) (beyond point outside)
    ])) in
    let count : least_from (is_missing width r) (front + 1) width - (front + 1) ≡ point - front - 1 = omega (arith, again, lt) in (
      head_is xs front (end_of xs - front) a is (omega (arith, low)),
      head_is xs front (point - front) a is (omega (arith, lt))
          ∙ ap (λ n. a ∷ filter_map (arrival_of xs) (numbers_from (front + 1) n)) (sym count)
          ∙ ap (λ n. a ∷ filter_map (arrival_of xs) (numbers_from n (least_from (is_missing width r) n width - n))) (sym next),
    )

-- the same for a record without drop requests
of_record : (width front : ℕ) (xs : List Arrival)
    → let r : Receiving = record { arrivals = xs; requests = []; front = front } in
    NothingBeyond width r → front < ack_point width r
    → (a : Arrival) × (more : List Arrival) × (waiting r ≡ a ∷ more) × (unbroken width r ≡ a ∷ unbroken width (passed width (a ∷ []) r))
of_record width front xs beyond lt = by (arrival_of xs front) refl
  where
    r : Receiving
    r = record { arrivals = xs; requests = []; front = front }

    has : is_some (arrival_of xs front) ≡ true
    has = received_is (is_some (arrival_of xs front)) ((ack_points width r).before front (omega arith) lt)

    none_is : false ≡ true → (a : Arrival) × (more : List Arrival) × (waiting r ≡ a ∷ more) × (unbroken width r ≡ a ∷ unbroken width (passed width (a ∷ []) r))
    none_is e = cc

    by : (o : Option Arrival) → arrival_of xs front ≡ o
        → (a : Arrival) × (more : List Arrival) × (waiting r ≡ a ∷ more) × (unbroken width r ≡ a ∷ unbroken width (passed width (a ∷ []) r))
    by None is = none_is (sym (ap is_some is) ∙ has)
    by (Some a) is =
        let k = first_and_rest width front xs a beyond lt is has in
        (a, filter_map (arrival_of xs) (numbers_from (front + 1) (end_of xs - front - 1)), k.0, k.1)

pub unbroken_one_by_one : UnbrokenOneByOne
unbroken_one_by_one width r none =
    let P : List Request → Type 0 = λ q. let s : Receiving = record { arrivals = r.arrivals; requests = q; front = r.front } in
    NothingBeyond width s → s.front < ack_point width s
    → (a : Arrival) × (more : List Arrival) × (waiting s ≡ a ∷ more) × (unbroken width s ≡ a ∷ unbroken width (passed width (a ∷ []) s)) in
    subst P (sym none) (of_record width r.front r.arrivals)
