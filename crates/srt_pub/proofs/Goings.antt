-- A receiver moves on and keeps its invariants.
use Rattle.std.proofs.Common.{◌≡◌, ◌⊎◌, inl, inr, ℕ, suc, zero, ◌+◌, ◌-◌, ◌*◌, ◌^◌, ◌<◌, ◌≤◌, max, Bool, true, false, not, cond, ◌||◌, ◌&&◌}
use Rattle.std.proofs.Common.{Option, Some, None, List, [], ◌∷◌, length, refl, sym, ap, subst, ◌∙◌, arith, ℤ, pos}
use Rattle.std.specs.Prelude.{nat_lt, nat_le, ◌==◌, is_some, filter_map, int_le, option_map, IfSome}
use Rattle.std.specs.List.{cons_option}
use Rattle.std.proofs.lemmas.Bool.{cases_lt, cases_eq, cases_Bool, eq-eqb, ne_eqb, and_left, not-true, not-false, le-ltb}
use Rattle.std.proofs.lemmas.Bool.Decides.{nat_tests}
use Rattle.srt_types.specs.declared.shared.Mode.{Mode}
use Rattle.srt_types.specs.declared.shared.Mode.TheVariants.{Live, Buffer}
use Rattle.srt_types.specs.Window.{in_window}
use Rattle.srt_types.specs.Runs.{Range, span, least_from, numbers_from}
use Rattle.srt_recvbuf.specs.Receiving.{Arrival, Request, Receiving, arrival_of, is_received, is_requested, is_dropped, is_missing, end_of}
use Rattle.srt_recvbuf.specs.Receiving.{ack_point, moved_to, settled, passed, with_number, received, requested, waiting, nothing_yet}
use Rattle.srt_recvbuf.specs.Receiving.{first_due, next_due, after_next}
use Rattle.srt_recvbuf.specs.OneByOne.{NothingBeyond}
use Rattle.srt_recvbuf.proofs.OneByOne.{found}
use Rattle.srt_recvbuf.proofs.Points.{ack_points}
use Rattle.srt_pub.specs.Stands.{Each, IsInMode, IsOrderly, GoesOn}

-- the least number that passes a test
pub record IsLeast (test : ℕ → Bool) (from places least : ℕ) : Type 0 where
  pub low : from ≤ least
  pub high : least ≤ from + places
  pub here : least < from + places → test least ≡ true

is_least : (test : ℕ → Bool) (from places a b : ℕ) → a ≡ b → IsLeast test from places b → IsLeast test from places a
is_least test from places a b same h = let P : ℕ → Type 0 = λ x. IsLeast test from places x in subst P (sym same) h

pub least_of : (test : ℕ → Bool) (from places : ℕ) → IsLeast test from places (least_from test from places)
least_of test from zero = record { low = omega arith; high = omega arith; here = λ lt. absurd (omega (arith, lt)) }
least_of test from (suc places) = by (test from) refl (least_of test (from + 1) places)
  where
    by : (b : Bool) → test from ≡ b → IsLeast test (from + 1) places (least_from test (from + 1) places)
        → IsLeast test from (suc places) (least_from test from (suc places))
    by true is h = is_least test from (suc places) _ from (found test from places true is) (record { low = omega arith; high = omega arith; here = λ lt. is })
    by false is h = is_least test from (suc places) _ _ (found test from places false is)
        (record { low = omega (arith, h.low); high = omega (arith, h.high); here = λ lt. h.here (omega (arith, lt)) })

-- a missing number can be received, and no number becomes missing
pub goes : (width : ℕ) (r s : Receiving) → r.front ≤ s.front → s.front ≤ r.front + 2 ^ 30
    → ((n : ℕ) → is_missing width r n ≡ false → is_missing width s n ≡ false) → end_of r.arrivals ≤ end_of s.arrivals
    → GoesOn width r s
goes width r s on near kept ends =
    let h = ack_points width r in
    let k = ack_points width s in
    record {
      front = on;
      near = near;
      point = elim (cases_lt (ack_point width s) (ack_point width r)) [
        | inl lt ↦
            let t = kept (ack_point width s) (h.before (ack_point width s) (omega (arith, k.low, on)) lt) in
            let f = k.here (omega (arith, lt, h.high, on)) in
            cc
        | inr ge ↦ ge
      ];
      end = ends;
    }

pub stays_put : (width : ℕ) (r : Receiving) → GoesOn width r r
stays_put width r = goes width r r (omega arith) (omega arith) (λ n e. e) (omega arith)

-- the settled front is within the window
pub settles : (width : ℕ) (r : Receiving) → (r.front ≤ (settled width r).front) × ((settled width r).front ≤ r.front + width)
settles width r = let h = least_of (λ n. not (is_dropped width r n)) r.front width in (h.low, h.high)

pub goes_settled : (width : ℕ) (r s : Receiving) → width ≤ 8192 → r.front ≤ s.front → s.front ≤ r.front + 3 * 8192
    → ((n : ℕ) → is_missing width r n ≡ false → is_missing width s n ≡ false) → end_of r.arrivals ≤ end_of s.arrivals
    → GoesOn width r (settled width s)
goes_settled width r s narrow on near kept ends =
    let k = settles width s in
    goes width r (settled width s) (omega (arith, k.0, on)) (omega (arith, k.1, near, narrow)) kept ends

not_named : (front n width : ℕ) (b : Bool) → front + width ≤ n → ((nat_le front n && nat_lt n (front + width)) && b) ≡ false
not_named front n width b le = grind (arith, nat_tests)

joined : (a b : Bool) → a ≡ false → b ≡ false → (a || b) ≡ false
joined a b e f = grind (arith, nat_tests)

not_beyond : (width n : ℕ) (qs : List Request) → Each (λ (q : Request). q.front + width ≤ n) qs → is_requested width qs n ≡ false
not_beyond width n [] all = refl
not_beyond width n (q ∷ qs) all = joined _ _ (not_named q.front n width _ all.0) (not_beyond width n qs all.1)

fronts_below : (width a b : ℕ) (qs : List Request) → a + width ≤ b → Each (λ (q : Request). q.front ≤ a) qs → Each (λ (q : Request). q.front + width ≤ b) qs
fronts_below width a b [] le all = tt
fronts_below width a b (q ∷ qs) le all = (omega (arith, le, all.0), fronts_below width a b qs le all.1)

pub fronts_on : (a b : ℕ) (qs : List Request) → a ≤ b → Each (λ (q : Request). q.front ≤ a) qs → Each (λ (q : Request). q.front ≤ b) qs
fronts_on a b [] le all = tt
fronts_on a b (q ∷ qs) le all = (omega (arith, le, all.0), fronts_on a b qs le all.1)

-- after settling, the front isn't dropped
pub settled_stays : (width : ℕ) (r : Receiving)
    → Each (λ (q : Request). q.front ≤ r.front) r.requests → is_dropped width (settled width r) (settled width r).front ≡ false
settled_stays width r fronts =
    let h = least_of (λ n. not (is_dropped width r n)) r.front width in
    let n = (settled width r).front in
    elim (cases_lt n (r.front + width)) [
      | inl lt ↦ not-true (is_dropped width r n) (h.here lt)
      | inr ge ↦ and_left _ _ (not_beyond width n r.requests (fronts_below width r.front n r.requests ge fronts))
    ]

pub settled_already : (width : ℕ) (r : Receiving) → is_dropped width r r.front ≡ false → settled width r ≡ r
settled_already zero r e = refl
settled_already (suc width) r e = ap (λ n. moved_to n r) (found (λ n. not (is_dropped (suc width) r n)) r.front width true (ap not e))

in_mode_moved : (mode : Mode) (n : ℕ) (r : Receiving) → IsInMode mode r → IsInMode mode (moved_to n r)
in_mode_moved Live n r h = tt
in_mode_moved Buffer n r h = h

-- a payload is delivered
pub orderly_passed : (mode : Mode) (width : ℕ) (r : Receiving) (a : Arrival)
    → r.front ≤ a.number → IsOrderly mode width r → IsOrderly mode width (passed width (a ∷ []) r)
orderly_passed mode width r a le h =
    let s = moved_to (a.number + 1) r in
    let k = settles width s in
    let fronts = fronts_on r.front (a.number + 1) r.requests (omega (arith, le)) h.fronts in
    record {
      fronts = fronts_on (a.number + 1) (settled width s).front r.requests k.0 fronts;
      settled = settled_stays width s fronts;
      filled = h.filled;
      in_mode = in_mode_moved mode (settled width s).front s (in_mode_moved mode (a.number + 1) r h.in_mode);
    }

pub goes_passed : (width : ℕ) (r : Receiving) (a : Arrival)
    → width ≤ 8192 → r.front ≤ a.number → a.number ≤ r.front + width → GoesOn width r (passed width (a ∷ []) r)
goes_passed width r a narrow low high =
    goes_settled width r (moved_to (a.number + 1) r) narrow (omega (arith, low)) (omega (arith, high, narrow)) (λ n e. e) (omega arith)

-- numbers are dropped
with_range : Range → Receiving → Receiving
with_range q r = record r { requests = record { front = r.front; range = q } ∷ r.requests }

missing_range : (a b c : Bool) → not (a || b) ≡ false → not (a || (c || b)) ≡ false
missing_range a b c e = grind (arith, nat_tests)

orderly_range : (width : ℕ) (q : Range) (r : Receiving) → IsOrderly Live width r
    → IsOrderly Live width (settled width (record r { requests = record { front = r.front; range = q } ∷ r.requests }))
orderly_range width q r h =
    let s : Receiving = record r { requests = record { front = r.front; range = q } ∷ r.requests } in
    let k = settles width s in
    let fronts : Each (λ (q : Request). q.front ≤ r.front) s.requests = (omega arith, h.fronts) in
    record { fronts = fronts_on r.front (settled width s).front s.requests k.0 fronts; settled = settled_stays width s fronts; filled = h.filled; in_mode = tt }

goes_range : (width : ℕ) (q : Range) (r : Receiving)
    → width ≤ 8192 → GoesOn width r (settled width (record r { requests = record { front = r.front; range = q } ∷ r.requests }))
goes_range width q r narrow =
    let s : Receiving = record r { requests = record { front = r.front; range = q } ∷ r.requests } in
    goes_settled width r s narrow (omega arith) (omega arith) (λ n e. missing_range (is_received r n) (is_requested width r.requests n) _ e) (omega arith)

pub record IsAfterRequest (width : ℕ) (r s : Receiving) : Type 0 where
  pub orderly : IsOrderly Live width s
  pub goes_on : GoesOn width r s

by_test : (width : ℕ) (q : Range) (r : Receiving) (b : Bool) → width ≤ 8192 → IsOrderly Live width r
    → IsAfterRequest width r (cond b (settled width (record r { requests = record { front = r.front; range = q } ∷ r.requests })) r)
by_test width q r true narrow h = record { orderly = orderly_range width q r h; goes_on = goes_range width q r narrow }
by_test width q r false narrow h = record { orderly = h; goes_on = stays_put width r }

pub after_request : (width : ℕ) (q : Range) (r : Receiving) → width ≤ 8192 → IsOrderly Live width r → IsAfterRequest width r (requested width q r)
after_request width q r narrow h = by_test width q r _ narrow h

-- words with their top bit set drop nothing
pub no_request : (width : ℕ) (q : Range) (r : Receiving) → (2 ^ 31 ≤ q.first) ⊎ (2 ^ 31 ≤ q.last) → requested width q r ≡ r
no_request width q r (inl e) =
    ap
    (λ (b : Bool). cond (b && nat_lt q.last (2 ^ 31) && nat_lt (span q) (2 ^ 30))
    (settled width (record r { requests = record { front = r.front; range = q } ∷ r.requests })) r)
    (le-ltb q.first (2 ^ 31) e)
no_request width q r (inr e) =
    ap
    (λ (b : Bool). cond (nat_lt q.first (2 ^ 31) && b && nat_lt (span q) (2 ^ 30))
    (settled width (record r { requests = record { front = r.front; range = q } ∷ r.requests })) r)
    (le-ltb q.last (2 ^ 31) e)
    ∙ ap (λ (b : Bool). cond b (settled width (record r { requests = record { front = r.front; range = q } ∷ r.requests })) r)
    (none_of_three (nat_lt q.first (2 ^ 31)) (nat_lt (span q) (2 ^ 30)))
  where
    none_of_three : (a b : Bool) → (a && false && b) ≡ false
    none_of_three true b = refl
    none_of_three false b = refl

-- a packet arrives
missing_more : (a b c : Bool) → not (a || b) ≡ false → (a ≡ true → c ≡ true) → not (c || b) ≡ false
missing_more true b c e f = let k = f refl in rw k refl
missing_more false b c e f = let k = not-false _ e in rw k (by c)
  where
    by : (c : Bool) → not (c || true) ≡ false
    by true = refl
    by false = refl

pub still_received : (a : Arrival) (xs : List Arrival) (n : ℕ) → is_some (arrival_of xs n) ≡ true → is_some (arrival_of (a ∷ xs) n) ≡ true
still_received a xs n e = by (a.number == n)
  where
    by : (b : Bool) → is_some (cond b (Some a) (arrival_of xs n)) ≡ true
    by true = refl
    by false = e

pub record IsAfterData (mode : Mode) (width : ℕ) (r s : Receiving) : Type 0 where
  pub orderly : IsOrderly mode width s
  pub goes_on : GoesOn width r s

not_dropped : (a b c : Bool) → (a && not b) ≡ false → (b ≡ true → c ≡ true) → (a && not c) ≡ false
not_dropped true true c e f = let k = f refl in rw k refl
not_dropped true false c e f = cc
not_dropped false b c e f = refl

in_mode_more : (mode : Mode) (a : Arrival) (r : Receiving)
    → (mode ≡ Buffer → a.due ≡ pos 0) → IsInMode mode r → IsInMode mode (record r { arrivals = a ∷ r.arrivals })
in_mode_more Live a r due h = tt
in_mode_more Buffer a r due h = (h.0, (due refl, h.1))

with_one : (mode : Mode) (width : ℕ) (a : Arrival) (r : Receiving) → 0 < length a.payload → (mode ≡ Buffer → a.due ≡ pos 0)
    → IsOrderly mode width r
    → IsAfterData mode width r (record r { arrivals = a ∷ r.arrivals })
with_one mode width a r some due h =
    record {
      orderly =
          record {
            fronts = h.fronts;
            settled = not_dropped (is_requested width r.requests r.front) (is_received r r.front) _ h.settled (still_received a r.arrivals r.front);
            filled = (some, h.filled);
            in_mode = in_mode_more mode a r due h.in_mode;
          };
      goes_on = goes width r (record r { arrivals = a ∷ r.arrivals }) (omega arith) (omega arith)
          (λ n e. missing_more (is_received r n) (is_requested width r.requests n) _ e (still_received a r.arrivals n)) (omega arith);
    }

by_received : (mode : Mode) (width n : ℕ) (payload : List ℕ) (due : ℤ) (r : Receiving) (b : Bool) → 0 < length payload
    → (mode ≡ Buffer → due ≡ pos 0) → IsOrderly mode width r
    → IsAfterData mode width r (cond b r (record r { arrivals = record { number = n; payload = payload; due = due } ∷ r.arrivals }))
by_received mode width n payload due r true some d h = record { orderly = h; goes_on = stays_put width r }
by_received mode width n payload due r false some d h = with_one mode width (record { number = n; payload = payload; due = due }) r some d h

by_number : (mode : Mode) (width : ℕ) (n : Option ℕ) (payload : List ℕ) (due : ℤ) (r : Receiving)
    → 0 < length payload → (mode ≡ Buffer → due ≡ pos 0) → IsOrderly mode width r → IsAfterData mode width r (with_number n payload due r)
by_number mode width None payload due r some d h = record { orderly = h; goes_on = stays_put width r }
by_number mode width (Some n) payload due r some d h = by_received mode width n payload due r (is_received r n) some d h

pub after_data : (mode : Mode) (width word : ℕ) (payload : List ℕ) (due : ℤ) (r : Receiving) → 0 < length payload
    → (mode ≡ Buffer → due ≡ pos 0) → IsOrderly mode width r
    → IsAfterData mode width r (received width word payload due r)
after_data mode width word payload due r some d h = by_number mode width (in_window word r.front width) payload due r some d h

-- the received numbers end within the window
ends_below : (bound : ℕ) (xs : List Arrival) → ((n : ℕ) → bound ≤ n → is_some (arrival_of xs n) ≡ false) → end_of xs ≤ bound
ends_below bound [] none = omega arith
ends_below bound (a ∷ xs) none =
    let rest = ends_below bound xs (λ n le. tail_none a xs n (none n le)) in
    elim (cases_lt a.number bound) [
      | inl lt ↦ omega (arith, rest, lt)
      | inr ge ↦ let t = ap (λ (b : Bool). is_some (cond b (Some a) (arrival_of xs a.number))) (eq-eqb a.number a.number refl) in let f = none a.number ge in cc
    ]
  where
    tail_none : (a : Arrival) (xs : List Arrival) (n : ℕ) → is_some (arrival_of (a ∷ xs) n) ≡ false → is_some (arrival_of xs n) ≡ false
    tail_none a xs n e = elim (cases_Bool (is_some (arrival_of xs n))) [
      | inl y ↦ let k = still_received a xs n y in cc
      | inr z ↦ z
    ]

pub end_within : (width : ℕ) (r : Receiving) → NothingBeyond width r → end_of r.arrivals ≤ r.front + width
end_within width r beyond = ends_below (r.front + width) r.arrivals (λ n le. beyond n le)

-- the first waiting packet was received, and its number is at or above the front and below the end
pub record IsOneOf (P : Arrival → Type 0) (from end : ℕ) (a : Arrival) : Type 0 where
  pub low : from ≤ a.number
  pub high : a.number < end
  pub holds : P a

looked_up : (P : Arrival → Type 0) (xs : List Arrival) (n : ℕ) (a : Arrival) → Each P xs → arrival_of xs n ≡ Some a → (a.number ≡ n) × P a
looked_up P [] n a all e = cc
looked_up P (x ∷ xs) n a all e = elim (cases_eq x.number n) [
  | inl same ↦
      let k : Some x ≡ Some a = sym (ap (λ (b : Bool). cond b (Some x) (arrival_of xs n)) (eq-eqb _ _ same)) ∙ e in
      let i : x ≡ a = cc in
      (sym (ap (λ (y : Arrival). y.number) i) ∙ same, subst P i all.0)
  | inr other ↦ looked_up P xs n a all.1 (sym (ap (λ (b : Bool). cond b (Some x) (arrival_of xs n)) (ne_eqb _ _ other)) ∙ e)
]

pub first_is_one : (P : Arrival → Type 0) (xs : List Arrival) (from count end : ℕ) (a : Arrival) (more : List Arrival)
    → from + count ≤ end → Each P xs → filter_map (arrival_of xs) (numbers_from from count) ≡ a ∷ more → IsOneOf P from end a
first_is_one P xs from zero end a more inside all e = cc
first_is_one P xs from (suc count) end a more inside all e =
    by (arrival_of xs from) refl (first_is_one P xs (from + 1) count end a more (omega (arith, inside)) all)
  where
    by : (o : Option Arrival) → arrival_of xs from ≡ o
        → (filter_map (arrival_of xs) (numbers_from (from + 1) count) ≡ a ∷ more → IsOneOf P (from + 1) end a)
        → IsOneOf P from end a
    by None is next =
        let h = next (sym (ap (λ o. cons_option o (filter_map (arrival_of xs) (numbers_from (from + 1) count))) is) ∙ e) in
        record { low = omega (arith, h.low); high = h.high; holds = h.holds }
    by (Some x) is next =
        let whole : x ∷ filter_map (arrival_of xs) (numbers_from (from + 1) count) ≡ a ∷ more =
        sym (ap (λ o. cons_option o (filter_map (arrival_of xs) (numbers_from (from + 1) count))) is) ∙ e in
        let same : x ≡ a = cc in
        let k = looked_up P xs from x all is in
        let n : a.number ≡ from = sym (ap (λ (y : Arrival). y.number) same) ∙ k.0 in
        record { low = omega (arith, n); high = omega (arith, n, inside); holds = subst P same k.1 }

pub first_waiting : (P : Arrival → Type 0) (r : Receiving) (a : Arrival) (more : List Arrival)
    → Each P r.arrivals → waiting r ≡ a ∷ more → IsOneOf P r.front (max r.front (end_of r.arrivals)) a
first_waiting P r a more all e = first_is_one P r.arrivals r.front (end_of r.arrivals - r.front) (max r.front (end_of r.arrivals)) a more (omega arith) all e

pub first_point : (width : ℕ) → ack_point width nothing_yet ≡ 0
first_point zero = refl
first_point (suc width) = found (is_missing (suc width) nothing_yet) 0 width true refl

pub orderly_first : (mode : Mode) (width : ℕ) → IsOrderly mode width nothing_yet
orderly_first Live width = record { fronts = tt; settled = refl; filled = tt; in_mode = tt }
orderly_first Buffer width = record { fronts = tt; settled = refl; filled = tt; in_mode = (refl, tt) }

first_due_is : (time : ℕ) (xs : List Arrival) (a : Arrival) → first_due time xs ≡ Some a → (more : List Arrival) × (xs ≡ a ∷ more)
first_due_is time [] a e = cc
first_due_is time (x ∷ more) a e = by (int_le x.due (pos time)) e
  where
    by : (b : Bool) → cond b (Some x) None ≡ Some a → (more' : List Arrival) × (x ∷ more ≡ a ∷ more')
    by true k = let same : x ≡ a = cc in (more, ap (λ (y : Arrival). y ∷ more) same)
    by false k = cc

pub next_waits : (time room : ℕ) (r : Receiving) (a : Arrival) → next_due time room r ≡ Some a → (more : List Arrival) × (waiting r ≡ a ∷ more)
next_waits time room r a e = by (room == 0) e
  where
    by : (b : Bool) → cond b None (first_due time (waiting r)) ≡ Some a → (more : List Arrival) × (waiting r ≡ a ∷ more)
    by true k = cc
    by false k = first_due_is time (waiting r) a k

pub after_one : (mode : Mode) (width time room : ℕ) (r : Receiving) (o : Option Arrival) → next_due time room r ≡ o → width ≤ 8192
    → end_of r.arrivals ≤ r.front + width → IsOrderly mode width r
    → IsAfterData mode width r (after_next width o r)
after_one mode width time room r None e narrow ends h = record { orderly = h; goes_on = stays_put width r }
after_one mode width time room r (Some a) e narrow ends h =
    let w = next_waits time room r a e in
    let k = first_waiting (λ (x : Arrival). 0 < length x.payload) r a w.0 h.filled w.1 in
    record { orderly = orderly_passed mode width r a k.low h; goes_on = goes_passed width r a narrow k.low (omega (arith, k.high, ends)) }

-- a delivered payload isn't empty
pub due_filled : (time room : ℕ) (r : Receiving) (given : Option (List ℕ)) → Each (λ (a : Arrival). 0 < length a.payload) r.arrivals
    → given ≡ option_map (λ (a : Arrival). a.payload) (next_due time room r)
    → IfSome given (λ payload. 0 < length payload)
due_filled time room r None filled e = tt
due_filled time room r (Some payload) filled e = by (next_due time room r) refl e
  where
    by : (q : Option Arrival) → next_due time room r ≡ q → Some payload ≡ option_map (λ (a : Arrival). a.payload) q → 0 < length payload
    by None is f = cc
    by (Some a) is f =
        let w = next_waits time room r a is in
        let k = first_waiting (λ (x : Arrival). 0 < length x.payload) r a w.0 filled w.1 in
        let same : payload ≡ a.payload = cc in
        subst (λ (xs : List ℕ). 0 < length xs) (sym same) k.holds
