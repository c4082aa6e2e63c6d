-- A publisher's past in buffer mode: its acknowledgement point never decreases, and it delivers in order.
use Rattle.std.proofs.Common.{◌≡◌, inl, inr, ℕ, zero, suc, ◌+◌, ◌-◌, ◌<◌, ◌≤◌, ◌==◌, min, ℤ, Bool, true, false, cond, not, ◌&&◌, ◌||◌, Option, None}
use Rattle.std.proofs.Common.{Some, List, [], ◌∷◌, ◌++◌, map, take, length, refl, sym, ap, subst, ◌∙◌, arith}
use Rattle.std.specs.Prelude.{filter_map, is_some}
use Rattle.std.specs.List.{cons_option}
use Rattle.std.proofs.lemmas.Bool.{cases_lt}
use Rattle.srt_types.specs.declared.shared.Mode.{Mode}
use Rattle.srt_types.specs.declared.shared.Mode.TheVariants.{Buffer}
use Rattle.srt_types.specs.Runs.{Run, numbers_from}
use Rattle.srt_types.specs.Window.{in_window}
use Rattle.srt_recvbuf.specs.Receiving.{Arrival, Request, Receiving, ack_point, arrival_of, is_missing, is_received, is_requested, moved_to, most}
use Rattle.srt_recvbuf.specs.Receiving.{next_after, passed, unbroken, with_number}
use Rattle.srt_recvbuf.proofs.OneByOne.{found_number, number_or}
use Rattle.srt_recvbuf.proofs.Points.{ack_points}
use Rattle.srt_pub.specs.Heard.{Heard, Data, AckAck, DropRequest, Other}
use Rattle.srt_pub.specs.Publishing.{Terms, Full, Note, Sent, Report, LightAck, Publishing, opened, ack_of, acks_at, confirmed_at, confirmed_by}
use Rattle.srt_pub.specs.Publishing.{correction_of}
use Rattle.srt_pub.specs.Publishing.{delivered, deliveries, due_in, full_ack, keep_alive_if, keep_alives, acks, has_undelivered, nak_with, naks}
use Rattle.srt_pub.specs.Publishing.{noted, reported, reports, runs_said, gaps_reported, is_nak_due, is_full_due, is_light_due, took, with_data}
use Rattle.srt_pub.specs.Publishing.{with_request}
use Rattle.srt_pub.specs.Stands.{Each}
use Rattle.srt_pub.proofs.Goings.{settled_already}
use Rattle.srt_route.specs.Acknowledged.{AreAtMost, FrontsStay, IsDelivered, IsInOrder, number_in, points_in, points_reported}

at_most_on : (points : List ℕ) (a b : ℕ) → a ≤ b → AreAtMost points a → AreAtMost points b
at_most_on [] a b le h = tt
at_most_on (point ∷ points) a b le h = (omega (arith, le, h.0), at_most_on points a b le h.1)

at_most_both : (xs ys : List ℕ) (n : ℕ) → AreAtMost xs n → AreAtMost ys n → AreAtMost (xs ++ ys) n
at_most_both [] ys n h k = k
at_most_both (x ∷ xs) ys n h k = (h.0, at_most_both xs ys n h.1 k)

-- the point of a window that advanced isn't below the earlier one
point_on : (width : ℕ) (r s : Receiving) → r.front ≤ s.front
    → ((n : ℕ) → is_missing width r n ≡ false → is_missing width s n ≡ false)
    → ack_point width r ≤ ack_point width s
point_on width r s on kept =
    let h = ack_points width r in
    let k = ack_points width s in
    elim (cases_lt (ack_point width s) (ack_point width r)) [
      | inl lt ↦
          let t = kept (ack_point width s) (h.before (ack_point width s) (omega (arith, k.low, on)) lt) in
          let f = k.here (omega (arith, lt, h.high, on)) in
          cc
      | inr ge ↦ ge
    ]

-- the invariant of a publisher's past in buffer mode
pub record IsKept (width : ℕ) (p : Publishing) : Type 0 where
  pub none : p.receiving.requests ≡ []
  pub notified : AreAtMost (points_reported p.notes) (ack_point width p.receiving)
  pub below : (n : ℕ) → n < p.receiving.front → is_received p.receiving n ≡ true

pub kept_first : (width : ℕ) → IsKept width opened
kept_first width = record { none = refl; notified = tt; below = λ n lt. absurd (omega (arith, lt)) }

-- more was received
record IsMore (width : ℕ) (r s : Receiving) : Type 0 where
  front_is : s.front ≡ r.front
  requests_are : s.requests ≡ r.requests
  still : (n : ℕ) → is_received r n ≡ true → is_received s n ≡ true
  point : ack_point width r ≤ ack_point width s

more_none : (width : ℕ) (r : Receiving) → IsMore width r r
more_none width r = record { front_is = refl; requests_are = refl; still = λ n e. e; point = omega arith }

still_received : (a : Arrival) (xs : List Arrival) (n : ℕ) → is_some (arrival_of xs n) ≡ true → is_some (arrival_of (a ∷ xs) n) ≡ true
still_received a xs n e = by (a.number == n)
  where
    by : (b : Bool) → is_some (cond b (Some a) (arrival_of xs n)) ≡ true
    by true = refl
    by false = e

missing_more : (a b c : Bool) → not (a || b) ≡ false → (a ≡ true → c ≡ true) → not (c || b) ≡ false
missing_more true b c e f = let k = f refl in rw k refl
missing_more false true true e f = refl
missing_more false true false e f = refl
missing_more false false c e f = cc

more_one : (width : ℕ) (a : Arrival) (r : Receiving) → IsMore width r (record r { arrivals = a ∷ r.arrivals })
more_one width a r =
    record {
      front_is = refl;
      requests_are = refl;
      still = still_received a r.arrivals;
      point = point_on width r (record r { arrivals = a ∷ r.arrivals }) (omega arith)
          (λ n e. missing_more (is_received r n) (is_requested width r.requests n) _ e (still_received a r.arrivals n));
    }

more_by : (width : ℕ) (a : Arrival) (r : Receiving) (b : Bool) → IsMore width r (cond b r (record r { arrivals = a ∷ r.arrivals }))
more_by width a r true = more_none width r
more_by width a r false = more_one width a r

more_with : (width : ℕ) (o : Option ℕ) (payload : List ℕ) (due : ℤ) (r : Receiving) → IsMore width r (with_number o payload due r)
more_with width None payload due r = more_none width r
more_with width (Some n) payload due r = more_by width (record { number = n; payload = payload; due = due }) r (is_received r n)

kept_more : (width : ℕ) (p q : Publishing)
    → IsMore width p.receiving q.receiving → points_reported q.notes ≡ points_reported p.notes → IsKept width p → IsKept width q
kept_more width p q m same h =
    record {
      none = m.requests_are ∙ h.none;
      notified =
          let P : List ℕ → Type 0 = λ points. AreAtMost points (ack_point width q.receiving) in
          subst P (sym same) (at_most_on (points_reported p.notes) _ _ m.point h.notified);
      below = λ n lt. m.still n (h.below n (omega (arith, lt, m.front_is)));
    }

-- a packet arrives
data_more : (terms : Terms) (time stamp number : ℕ) (payload : List ℕ) (p : Publishing)
    → IsMore terms.width p.receiving (with_data terms time stamp number payload p).receiving
data_more terms time stamp number payload p =
    more_with terms.width (in_window number p.receiving.front terms.width) payload (due_in terms.mode terms (correction_of terms p.notes) time stamp)
    p.receiving

kept_confirmed : (width time stamp : ℕ) (o : Option Full) (p : Publishing) → IsKept width p → IsKept width (confirmed_at time stamp o p)
kept_confirmed width time stamp None p h = h
kept_confirmed width time stamp (Some full) p h = record { none = h.none; notified = h.notified; below = h.below }

pub kept_took : (terms : Terms) (time stamp : ℕ) (heard : Heard) (p : Publishing)
    → terms.mode ≡ Buffer → IsKept terms.width p → IsKept terms.width (took terms time stamp heard p)
kept_took terms time stamp (Data number encryption payload) p b h = by (encryption == 0)
  where
    by : (c : Bool) → IsKept terms.width (cond c (with_data terms time stamp number payload p) p)
    by true = kept_more terms.width p (with_data terms time stamp number payload p) (data_more terms time stamp number payload p) refl h
    by false = h
kept_took terms time stamp (AckAck number) p b h = kept_confirmed terms.width time stamp (confirmed_by number p.notes) p h
kept_took terms time stamp (DropRequest range) p b h = subst (λ (m : Mode). IsKept terms.width (with_request m terms range p)) (sym b) h
kept_took terms time stamp Other p b h = h

confirmed_stays : (time stamp : ℕ) (o : Option Full) (p : Publishing) → (confirmed_at time stamp o p).receiving.front ≡ p.receiving.front
confirmed_stays time stamp None p = refl
confirmed_stays time stamp (Some full) p = refl

pub fronts_stay : FrontsStay
fronts_stay terms time stamp (Data number encryption payload) p b = by (encryption == 0)
  where
    by : (c : Bool) → (cond c (with_data terms time stamp number payload p) p).receiving.front ≡ p.receiving.front
    by true = (data_more terms time stamp number payload p).front_is
    by false = refl
fronts_stay terms time stamp (AckAck number) p b = confirmed_stays time stamp (confirmed_by number p.notes) p
fronts_stay terms time stamp (DropRequest range) p b = ap (λ (m : Mode). (with_request m terms range p).receiving.front) b
fronts_stay terms time stamp Other p b = refl

-- without drop requests no number is dropped
none_requested : (width n : ℕ) (qs : List Request) → qs ≡ [] → is_requested width qs n ≡ false
none_requested width n qs e = ap (λ (xs : List Request). is_requested width xs n) e

not_dropped : (a b : Bool) → a ≡ false → (a && b) ≡ false
not_dropped true b e = cc
not_dropped false b e = refl

first_there : (a b : Bool) → b ≡ false → not (a || b) ≡ false → a ≡ true
first_there true b e f = refl
first_there false true e f = cc
first_there false false e f = cc

first_missing : (a b : Bool) → a ≡ false → b ≡ false → not (a || b) ≡ true
first_missing true b e f = cc
first_missing false true e f = cc
first_missing false false e f = refl

passed_is : (width : ℕ) (xs : List Arrival) (r : Receiving) → r.requests ≡ [] → passed width xs r ≡ moved_to (next_after r.front xs) r
passed_is width xs r none =
    let s = moved_to (next_after r.front xs) r in
    settled_already width s (not_dropped (is_requested width r.requests s.front) _ (none_requested width s.front r.requests none))

-- at most this many consecutive packets
record IsRun (xs : List Arrival) (from most : ℕ) : Type 0 where
  numbers_are : map number_in xs ≡ numbers_from from (length xs)
  few : length xs ≤ most

run_one : (a : Arrival) (xs : List Arrival) (from most : ℕ) → a.number ≡ from → IsRun xs (from + 1) most → IsRun (a ∷ xs) from (suc most)
run_one a xs from most e h =
    record { numbers_are = ap (λ n. n ∷ map number_in xs) e ∙ ap (λ ns. from ∷ ns) h.numbers_are; few = omega (arith, h.few) }

runs_on : (xs : List Arrival) (k from count : ℕ) → ((n : ℕ) → from ≤ n → n < from + count → is_some (arrival_of xs n) ≡ true)
    → IsRun (take k (filter_map (arrival_of xs) (numbers_from from count))) from count
runs_on xs zero from count all = record { numbers_are = refl; few = omega arith }
runs_on xs (suc k) from zero all = record { numbers_are = refl; few = omega arith }
runs_on xs (suc k) from (suc count) all =
    by (arrival_of xs from) refl (runs_on xs k (from + 1) count (λ n low high. all n (omega (arith, low)) (omega (arith, high))))
  where
    rest : List Arrival
    rest = filter_map (arrival_of xs) (numbers_from (from + 1) count)

    none_is : false ≡ true → IsRun (take (suc k) (cons_option None rest)) from (suc count)
    none_is e = cc

    by : (o : Option Arrival) → arrival_of xs from ≡ o → IsRun (take k rest) (from + 1) count
        → IsRun (take (suc k) (filter_map (arrival_of xs) (numbers_from from (suc count)))) from (suc count)
    by None is h =
        let bad : false ≡ true = sym (ap is_some is) ∙ all from (omega arith) (omega arith) in
        absurd (let c : false ≡ true = bad in cc)
    by (Some a) is h =
        let number : a.number ≡ from = sym (ap (number_or from) is) ∙ found_number xs from in
        let P : Option Arrival → Type 0 = λ o. IsRun (take (suc k) (cons_option o rest)) from (suc count) in
        subst P (sym is) (run_one a (take k rest) from count number h)

next_is : (xs : List Arrival) (from : ℕ) → map number_in xs ≡ numbers_from from (length xs) → next_after from xs ≡ from + length xs
next_is [] from e = omega arith
next_is (a ∷ xs) from e =
    let number : a.number ≡ from = cc in
    let rest : map number_in xs ≡ numbers_from (from + 1) (length xs) = cc in
    let h = next_is xs (from + 1) rest in
    ap (λ n. next_after (n + 1) xs) number ∙ h ∙ omega arith

received_at : (width : ℕ) (r : Receiving) (n : ℕ) → r.requests ≡ [] → r.front ≤ n → n < ack_point width r → is_received r n ≡ true
received_at width r n none low high =
    first_there (is_received r n) (is_requested width r.requests n) (none_requested width n r.requests none) ((ack_points width r).before n low high)

run_given : (width k : ℕ) (r : Receiving) → r.requests ≡ [] → IsRun (take k (unbroken width r)) r.front (ack_point width r - r.front)
run_given width k r none =
    runs_on r.arrivals k r.front (ack_point width r - r.front) (λ n low high. received_at width r n none low (omega (arith, low, high)))

-- a publisher delivers
pub record IsPassed (width : ℕ) (given : List Arrival) (p q : Publishing) : Type 0 where
  pub order : IsInOrder given p.receiving q.receiving
  pub kept : IsKept width q

passed_run : (width : ℕ) (given : List Arrival) (p : Publishing)
    → IsKept width p → IsRun given p.receiving.front (ack_point width p.receiving - p.receiving.front)
    → IsPassed width given p (record p { receiving = passed width given p.receiving })
passed_run width given p h run =
    let r = p.receiving in
    let next = next_is given r.front run.numbers_are in
    let s = moved_to (next_after r.front given) r in
    let P : Receiving → Type 0 = λ x. IsPassed width given p (record p { receiving = x }) in
    subst P (sym (passed_is width given r h.none)) (record {
      order = record { numbers_are = run.numbers_are; front_is = next };
      kept = record {
        none = h.none;
        notified = at_most_on (points_reported p.notes) (ack_point width r) (ack_point width s) (point_on width r s (omega (arith, next)) (λ n e. e))
            h.notified;
        below = λ n lt. elim (cases_lt n r.front) [
          | inl less ↦ h.below n less
          | inr ge ↦ received_at width r n h.none ge (omega (arith, lt, next, run.few, ge))
        ];
      };
    })

given_is : (terms : Terms) (time : ℕ) (room : Option ℕ) (p : Publishing)
    → terms.mode ≡ Buffer → (k : ℕ) × (deliveries terms.mode terms time room p ≡ take k (unbroken terms.width p.receiving))
unfolding deliveries
given_is terms time None p b = (0, ap (λ (m : Mode). deliveries m terms time None p) b)
given_is terms time (Some room) p b = (min most room, ap (λ (m : Mode). deliveries m terms time (Some room) p) b)

pub kept_delivered : (terms : Terms) (time : ℕ) (room : Option ℕ) (p : Publishing) → terms.mode ≡ Buffer → IsKept terms.width p
    → IsPassed terms.width (deliveries terms.mode terms time room p) p (delivered terms time room p)
kept_delivered terms time room p b h =
    let g = given_is terms time room p b in
    let P : List Arrival → Type 0 = λ xs. IsPassed terms.width xs p (record p { receiving = passed terms.width xs p.receiving }) in
    subst P (sym g.1) (passed_run terms.width (take g.0 (unbroken terms.width p.receiving)) p h (run_given terms.width g.0 p.receiving h.none))

-- without room it delivers nothing
pub nothing_given : (terms : Terms) (time : ℕ) (p : Publishing) → terms.mode ≡ Buffer → deliveries terms.mode terms time None p ≡ []
unfolding deliveries
nothing_given terms time p b = ap (λ (m : Mode). deliveries m terms time None p) b

-- an event's end: each ACK has the present point
abbrev SaysAtMost : ℕ → Report → Type 0
SaysAtMost n r = AreAtMost (points_in r) n

says_both : (n : ℕ) (xs ys : List Report) → Each (SaysAtMost n) xs → Each (SaysAtMost n) ys → Each (SaysAtMost n) (xs ++ ys)
says_both n [] ys h k = k
says_both n (x ∷ xs) ys h k = (h.0, says_both n xs ys h.1 k)

says_ack : (n : ℕ) (full light : Bool) (x y : Report) → SaysAtMost n x → SaysAtMost n y → Each (SaysAtMost n) (ack_of full light x y)
says_ack n true light x y h k = (h, tt)
says_ack n false true x y h k = (k, tt)
says_ack n false false x y h k = tt

says_acks : (terms : Terms) (point room time : ℕ) (notes : List Note) → Each (SaysAtMost point) (acks_at terms point room time notes)
unfolding acks_at
says_acks terms point room time notes =
    says_ack point (is_full_due terms.width point room time notes) (is_light_due notes) (full_ack terms point room notes) (LightAck point)
    (omega arith, tt) (omega arith, tt)

says_nak : (n : ℕ) (all : Bool) (rs : List Run) → Each (SaysAtMost n) (nak_with all rs)
says_nak n all [] = tt
says_nak n true (r ∷ rs) = (tt, tt)
says_nak n false (r ∷ rs) = (tt, tt)

says_naks : (n : ℕ) (terms : Terms) (time : ℕ) (p : Publishing) → Each (SaysAtMost n) (naks terms time p)
unfolding naks
says_naks n terms time p =
    let all = is_nak_due terms.callers time p.notes in
    says_nak n all (runs_said (gaps_reported all terms.width p.seen p.receiving))

says_alive : (n : ℕ) (b : Bool) → Each (SaysAtMost n) (keep_alive_if b)
says_alive n true = (tt, tt)
says_alive n false = tt

says_alives : (n time : ℕ) (due : List Report) (notes : List Note) → Each (SaysAtMost n) (keep_alives time due notes)
says_alives n time (r ∷ rs) notes = tt
says_alives n time [] notes = says_alive n _

says_reports : (terms : Terms) (time : ℕ) (p : Publishing) → Each (SaysAtMost (ack_point terms.width p.receiving)) (reports terms time p)
unfolding reports
says_reports terms time p =
    let n = ack_point terms.width p.receiving in
    let due = acks terms time p ++ naks terms time p in
    says_both n due (keep_alives time due p.notes)
    (says_both n (acks terms time p) (naks terms time p) (says_acks terms n _ time p.notes) (says_naks n terms time p)) (says_alives n time due p.notes)

notified_noted : (n time : ℕ) (rs : List Report) (notes : List Note)
    → Each (SaysAtMost n) rs → AreAtMost (points_reported notes) n → AreAtMost (points_reported (noted time rs notes)) n
notified_noted n time [] notes h k = k
notified_noted n time (r ∷ rs) notes h k =
    notified_noted n time rs (Sent time r ∷ notes) h.1 (at_most_both (points_in r) (points_reported notes) n h.0 k)

pub kept_reported : (terms : Terms) (time : ℕ) (p : Publishing) → IsKept terms.width p → IsKept terms.width (reported terms time p)
kept_reported terms time p h =
    record {
      none = h.none;
      notified = notified_noted (ack_point terms.width p.receiving) time (reports terms time p) p.notes (says_reports terms time p) h.notified;
      below = h.below;
    }

-- if nothing is left to deliver, the acknowledgement point is the front
point_at_front : (width : ℕ) (r : Receiving) → r.requests ≡ [] → is_received r r.front ≡ false → ack_point width r ≤ r.front
point_at_front width r none left = elim (cases_lt r.front (ack_point width r)) [
  | inl lt ↦ let t = received_at width r r.front none (omega arith) lt in cc
  | inr ge ↦ ge
]

pub all_delivered : (mode : Mode) (width : ℕ) (p : Publishing) → mode ≡ Buffer → IsKept width p → has_undelivered mode p.receiving ≡ false → IsDelivered p
all_delivered mode width p b h left =
    let gone : is_received p.receiving p.receiving.front ≡ false = sym (ap (λ (m : Mode). has_undelivered m p.receiving) b) ∙ left in
    record { points = at_most_on (points_reported p.notes) _ _ (point_at_front width p.receiving h.none gone) h.notified; below = h.below }
