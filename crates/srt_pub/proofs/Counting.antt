-- The counters of a session represent what it receives, delivers and sends.
use Rattle.std.proofs.Common.{◌≡◌, ℕ, suc, zero, ◌+◌, ◌-◌, ◌^◌, ◌≤◌, Bool, true, false, not, cond, ◌&&◌, Option, Some, None, List, ◌∷◌}
use Rattle.std.proofs.Common.{length, refl, sym, ap, subst, ◌∙◌, arith, ℤ}
use Rattle.std.specs.Prelude.{◌==◌, is_some, filter_map, nat_lt}
use Rattle.std.specs.List.{cons_option}
use Rattle.std.proofs.lemmas.Bool.{ne_eqb}
use Rattle.srt_types.specs.Window.{in_window, offset_of}
use Rattle.srt_types.specs.Runs.{Range, Run, span, least_from, numbers_from}
use Rattle.srt_recvbuf.specs.Receiving.{Arrival, Receiving, arrival_of, is_received, is_requested, is_dropped, end_of, moved_to, settled}
use Rattle.srt_recvbuf.specs.Receiving.{put_of, received, requested, with_number, next_due, after_next}
use Rattle.srt_recvbuf.proofs.OneByOne.{found, found_number, number_or}
use Rattle.srt_pub.specs.Publishing.{Terms, Note, Arrived, Sent, FullAck, LightAck, KeepAlive, Full, ack_of, acks_at, is_full_due, is_light_due}
use Rattle.srt_pub.specs.Publishing.{full_ack, noted, nak_report, confirmed_notes}
use Rattle.srt_pub.specs.Counting.{one_if, capped, bytes_in, received_below, arrived_in, late_in, ahead_in, naks_in, numbers_in}
use Rattle.srt_pub.specs.Counting.{reported_lost_in, full_window_acks_in, counts_of, Counted, Passes, with_one, with_put, with_steps, with_nak}
use Rattle.srt_pub.specs.Counting.{with_full_window}
use Rattle.srt_pub.specs.declared.counts.Counts.{Counts}
use Rattle.srt_pub.specs.declared.region.Region.{Region}
use Rattle.srt_pub.specs.declared.region.Region.TheVariants.{Inside, Ahead, Late}
use Rattle.srt_recvbuf.specs.declared.buffer.Put.{Put}
use Rattle.srt_recvbuf.specs.declared.buffer.Put.TheVariants.{New, Repeat}
use Rattle.srt_packet.specs.declared.writing.Rates.{Rates}
use Rattle.srt_pub.proofs.Goings.{settles, next_waits}

-- at most n of the numbers below n were received
pub no_more : (xs : List Arrival) (n : ℕ) → received_below xs n ≤ n
no_more xs zero = omega arith
no_more xs (suc n) = let h = no_more xs n in let k = at_most_one (is_some (arrival_of xs n)) in omega (arith, h, k)
  where
    at_most_one : (b : Bool) → one_if b ≤ 1
    at_most_one true = omega arith
    at_most_one false = omega arith

-- one more number
one_further : (xs : List Arrival) (n : ℕ) (b : Bool) → is_some (arrival_of xs n) ≡ b → received_below xs (n + 1) ≡ received_below xs n + one_if b
one_further xs n b e = let s : n + 1 ≡ suc n = omega arith in ap (received_below xs) s ∙ ap (λ x. received_below xs n + one_if x) e

-- a new arrival isn't counted below its number
pub none_below : (a : Arrival) (xs : List Arrival) (n : ℕ) → n ≤ a.number → received_below (a ∷ xs) n ≡ received_below xs n
none_below a xs zero le = refl
none_below a xs (suc n) le =
    let b : (a.number == n) ≡ false = ne_eqb _ _ (λ e. omega (arith, e, le)) in
    let k : is_some (arrival_of (a ∷ xs) n) ≡ is_some (arrival_of xs n) = ap (λ (x : Bool). is_some (cond x (Some a) (arrival_of xs n))) b in
    ap (λ x. x + one_if (is_some (arrival_of (a ∷ xs) n))) (none_below a xs n (omega (arith, le))) ∙ ap (λ x. received_below xs n + one_if x) k

-- dropped numbers weren't received
gone : (b c : Bool) → not (b && not c) ≡ false → c ≡ false
gone true true e = cc
gone true false e = refl
gone false c e = cc

pub settled_below : (width : ℕ) (r : Receiving) (places from : ℕ)
    → received_below r.arrivals (least_from (λ n. not (is_dropped width r n)) from places) ≡ received_below r.arrivals from
settled_below width r zero from = refl
settled_below width r (suc places) from = by (not (is_dropped width r from)) refl (settled_below width r places (from + 1))
  where
    by : (b : Bool) → not (is_dropped width r from) ≡ b
        → received_below r.arrivals (least_from (λ n. not (is_dropped width r n)) (from + 1) places) ≡ received_below r.arrivals (from + 1)
        → received_below r.arrivals (least_from (λ n. not (is_dropped width r n)) from (suc places)) ≡ received_below r.arrivals from
    by true is next = ap (received_below r.arrivals) (found (λ n. not (is_dropped width r n)) from places true is)
    by false is next =
        let none = gone (is_requested width r.requests from) (is_received r from) is in
        let zero_more : received_below r.arrivals from + 0 ≡ received_below r.arrivals from = omega arith in
        ap (received_below r.arrivals) (found (λ n. not (is_dropped width r n)) from places false is) ∙ next
        ∙ one_further r.arrivals from false none ∙ zero_more

-- up to the first waiting packet, inclusive, one more number was received
pub record IsFirst (xs : List Arrival) (from : ℕ) (a : Arrival) : Type 0 where
  pub low : from ≤ a.number
  pub one : received_below xs (a.number + 1) ≡ received_below xs from + 1

pub first_below : (xs : List Arrival) (from count : ℕ) (a : Arrival) (more : List Arrival)
    → filter_map (arrival_of xs) (numbers_from from count) ≡ a ∷ more → IsFirst xs from a
first_below xs from zero a more e = cc
first_below xs from (suc count) a more e = by (arrival_of xs from) refl (first_below xs (from + 1) count a more)
  where
    by : (o : Option Arrival) → arrival_of xs from ≡ o
        → (filter_map (arrival_of xs) (numbers_from (from + 1) count) ≡ a ∷ more → IsFirst xs (from + 1) a)
        → IsFirst xs from a
    by None is next =
        let h = next (sym (ap (λ o. cons_option o (filter_map (arrival_of xs) (numbers_from (from + 1) count))) is) ∙ e) in
        let step = one_further xs from false (ap is_some is) in
        let none : received_below xs from + one_if false ≡ received_below xs from = omega arith in
        record { low = omega (arith, h.low); one = h.one ∙ ap (λ x. x + 1) (step ∙ none) }
    by (Some x) is next =
        let whole : x ∷ filter_map (arrival_of xs) (numbers_from (from + 1) count) ≡ a ∷ more =
        sym (ap (λ o. cons_option o (filter_map (arrival_of xs) (numbers_from (from + 1) count))) is) ∙ e in
        let same : x ≡ a = cc in
        let n : x.number ≡ from = sym (ap (number_or from) is) ∙ found_number xs from in
        let m : a.number ≡ from = sym (ap (λ (y : Arrival). y.number) same) ∙ n in
        record { low = omega (arith, m); one = ap (λ k. received_below xs (k + 1)) m ∙ one_further xs from true (ap is_some is) }

-- the front passes the next packet, if it is due
pub passes_next : (width time room : ℕ) (r : Receiving) (o : Option Arrival) → next_due time room r ≡ o → Passes (is_some o) r (after_next width o r)
passes_next width time room r None e = record { delivered = omega arith; far = omega arith }
passes_next width time room r (Some a) e =
    let w = next_waits time room r a e in
    let h = first_below r.arrivals r.front (end_of r.arrivals - r.front) a w.0 w.1 in
    let s = moved_to (a.number + 1) r in
    let k = settles width s in
    record { delivered = settled_below width s width (a.number + 1) ∙ h.one; far = omega (arith, k.0, h.low) }

-- the same, with the result of the call
pub passes_if : (width time room : ℕ) (r : Receiving) (b : Bool) → is_some (next_due time room r) ≡ b → Passes b r (after_next width (next_due time room r) r)
passes_if width time room r b e =
    subst (λ (x : Bool). Passes x r (after_next width (next_due time room r) r)) e
    (passes_next width time room r (next_due time room r) refl)

-- numbers are dropped on request
pub passes_request : (width : ℕ) (q : Range) (r : Receiving) → Passes false r (requested width q r)
passes_request width q r = by (nat_lt q.first (2 ^ 31) && nat_lt q.last (2 ^ 31) && nat_lt (span q) (2 ^ 30))
  where
    s : Receiving
    s = record r { requests = record { front = r.front; range = q } ∷ r.requests }

    by : (b : Bool) → Passes false r (cond b (settled width s) r)
    by true = let e = settled_below width s width r.front in record { delivered = omega (arith, e); far = omega arith }
    by false = record { delivered = omega arith; far = omega arith }

pub same_arrivals : (width : ℕ) (q : Range) (r : Receiving) → (requested width q r).arrivals ≡ r.arrivals
same_arrivals width q r = by (nat_lt q.first (2 ^ 31) && nat_lt q.last (2 ^ 31) && nat_lt (span q) (2 ^ 30))
  where
    by : (b : Bool) → (cond b (settled width (record r { requests = record { front = r.front; range = q } ∷ r.requests })) r).arrivals ≡ r.arrivals
    by true = refl
    by false = refl

pub none_arrive : (width : ℕ) (o : Option Arrival) (r : Receiving) → (after_next width o r).arrivals ≡ r.arrivals
none_arrive width None r = refl
none_arrive width (Some a) r = refl

-- a packet arrives
from_front : (front past n : ℕ) (b : Bool) → cond b (Some (front + past)) None ≡ Some n → front ≤ n
from_front front past n true e = let same : front + past ≡ n = cc in omega (arith, same)
from_front front past n false e = cc

low_number : (word front width n : ℕ) → in_window word front width ≡ Some n → front ≤ n
unfolding in_window
low_number word front width n e = from_front front (offset_of word front) n (nat_lt word (2 ^ 31) && nat_lt (offset_of word front) width) e

pub passes_data : (width word : ℕ) (payload : List ℕ) (due : ℤ) (r : Receiving) → Passes false r (received width word payload due r)
passes_data width word payload due r = by (in_window word r.front width) (λ n e. low_number word r.front width n e)
  where
    stored : (n : ℕ) (b : Bool)
        → r.front ≤ n → Passes false r (cond b r (record r { arrivals = record { number = n; payload = payload; due = due } ∷ r.arrivals }))
    stored n true le = record { delivered = omega arith; far = omega arith }
    stored n false le =
        let e = none_below (record { number = n; payload = payload; due = due }) r.arrivals r.front le in
        record { delivered = omega (arith, e); far = omega arith }

    by : (o : Option ℕ) → ((n : ℕ) → o ≡ Some n → r.front ≤ n) → Passes false r (with_number o payload due r)
    by None low = record { delivered = omega arith; far = omega arith }
    by (Some n) low = stored n (is_received r n) (low n refl)

-- adding to a capped counter
some_more : (count more : ℕ) → capped (capped count + more) ≡ capped (count + more)
some_more count more = omega arith

both_more : (count more : ℕ) → capped (capped count + capped more) ≡ capped (count + more)
both_more count more = omega arith

none_more : (count : ℕ) → capped count ≡ capped (count + 0)
none_more count = omega arith

one_longer : (a : Arrival) (xs : List Arrival) → capped (capped (length xs) + 1) ≡ capped (length (a ∷ xs))
one_longer a xs = omega arith

pub counts_put : (o : Option ℕ) (payload : List ℕ) (due : ℤ) (r : Receiving) (c : Counts) (delivered front : ℕ) (notes : List Note)
    → Counted c r.arrivals delivered front notes
    → Counted (with_put (put_of o r) (length payload) c) (with_number o payload due r).arrivals delivered front notes
counts_put None payload due r c delivered front notes h = h
counts_put (Some n) payload due r c delivered front notes h = by (is_received r n)
  where
    a : Arrival
    a = record { number = n; payload = payload; due = due }

    by : (b : Bool)
        → Counted (with_put (cond b Repeat New) (length payload) c) (cond b r (record r { arrivals = a ∷ r.arrivals })).arrivals delivered
        front notes
    by true = h
    by false =
        ap (with_put New (length payload)) h
        ∙ (λ i. record (counts_of r.arrivals delivered front notes) {
          received = one_longer a r.arrivals i;
          bytes = some_more (bytes_in r.arrivals) (length payload) i;
        })

-- the front moves on
pub counts_steps : (steps : ℕ) (b : Bool) (c : Counts) (xs : List Arrival) (delivered front : ℕ) (notes : List Note) → delivered ≤ front
    → one_if b ≤ steps → Counted c xs delivered front notes → Counted (with_steps steps b c) xs (delivered + one_if b) (front + steps) notes
counts_steps steps b c xs delivered front notes le far h =
    ap (with_steps steps b) h
    ∙ (λ i. record (counts_of xs delivered front notes) {
      delivered = some_more delivered (one_if b) i;
      given_up = given_up (one_if b) far i;
    })
  where
    given_up : (d : ℕ) → d ≤ steps → capped (capped (front - delivered) + (steps - d)) ≡ capped ((front + steps) - (delivered + d))
    given_up d d_far = omega (arith, le, d_far)

-- an ACK changes at most the number of Full ACKs of a full window
acks_count : (full light : Bool) (index point rtt variance room : ℕ) (rates : Rates) (a time : ℕ) (xs : List Arrival) (delivered front : ℕ)
    (notes : List Note)
    → record (counts_of xs delivered front notes) {
      full_window_acks = capped (full_window_acks_in (noted time (ack_of full light (FullAck index point rtt variance room rates) (LightAck a)) notes));
    }
    ≡ counts_of xs delivered front (noted time (ack_of full light (FullAck index point rtt variance room rates) (LightAck a)) notes)
acks_count true light index point rtt variance room rates a time xs delivered front notes =
    λ i. record (counts_of xs delivered front (Sent time (FullAck index point rtt variance room rates) ∷ notes)) {
      reported_lost = none_more (reported_lost_in notes) i;
    }
acks_count false true index point rtt variance room rates a time xs delivered front notes =
    λ i. record (counts_of xs delivered front (Sent time (LightAck a) ∷ notes)) { reported_lost = none_more (reported_lost_in notes) i }
acks_count false false index point rtt variance room rates a time xs delivered front notes = refl

-- that number increases if a Full ACK is due that reports no available place
pub full_window : (terms : Terms) (point room time : ℕ) (notes : List Note) (answer : Bool)
    → answer ≡ (is_full_due terms.width point room time notes && (room == 0))
    → full_window_acks_in (noted time (acks_at terms point room time notes) notes) ≡ full_window_acks_in notes + one_if answer
unfolding acks_at
full_window terms point room time notes answer e =
    by (is_full_due terms.width point room time notes) (is_light_due notes) ∙ ap (λ (b : Bool). full_window_acks_in notes + one_if b) (sym e)
  where
    by : (full light : Bool)
        → full_window_acks_in (noted time (ack_of full light (full_ack terms point room notes) (LightAck point)) notes)
        ≡ full_window_acks_in notes + one_if (full && (room == 0))
    by true light = refl
    by false true = refl
    by false false = omega arith

pub counts_acks : (terms : Terms) (point room time : ℕ) (c : Counts) (xs : List Arrival) (delivered front : ℕ) (notes : List Note) (is_full : Bool)
    → full_window_acks_in (noted time (acks_at terms point room time notes) notes) ≡ full_window_acks_in notes + one_if is_full
    → Counted c xs delivered front notes
    → Counted (with_full_window is_full c) xs delivered front (noted time (acks_at terms point room time notes) notes)
unfolding acks_at
counts_acks terms point room time c xs delivered front notes is_full full h =
    ap (with_full_window is_full) h
    ∙ (λ i. record (counts_of xs delivered front notes) {
      full_window_acks = (some_more (full_window_acks_in notes) (one_if is_full) ∙ ap capped (sym full)) i;
    })
    ∙ acks_count (is_full_due terms.width point room time notes) (is_light_due notes) _ _ _ _ _ _ _ time xs delivered front notes

-- an ACKACK changes no counter
pub same_confirmed : (c : Counts) (xs : List Arrival) (delivered front time stamp : ℕ) (o : Option Full) (notes : List Note)
    → Counted c xs delivered front notes → Counted c xs delivered front (confirmed_notes time stamp o notes)
same_confirmed c xs delivered front time stamp None notes h = h
same_confirmed c xs delivered front time stamp (Some full) notes h = h

-- a NAK and the numbers that it reports are counted
pub counts_nak : (time : ℕ) (all : Bool) (rs : List Run) (lost : ℕ) (c : Counts) (xs : List Arrival) (delivered front : ℕ)
    (notes : List Note)
    → lost ≡ capped (numbers_in rs) → Counted c xs delivered front notes
    → Counted (with_nak lost c) xs delivered front (Sent time (nak_report all rs) ∷ notes)
counts_nak time all rs lost c xs delivered front notes e h = by all
  where
    earlier : ℕ
    earlier = reported_lost_in notes

    reported : capped (capped earlier + lost) ≡ capped (earlier + numbers_in rs)
    reported = ap (λ n. capped (capped earlier + n)) e ∙ both_more earlier (numbers_in rs)

    one : with_nak lost c ≡ record (counts_of xs delivered front notes) {
      naks = capped (naks_in notes + 1);
      reported_lost = capped (earlier + numbers_in rs);
      full_window_acks = capped (full_window_acks_in notes + 0);
    }
    one =
        ap (with_nak lost) h
        ∙ (λ i. record (counts_of xs delivered front notes) {
          naks = some_more (naks_in notes) 1 i;
          reported_lost = reported i;
          full_window_acks = none_more (full_window_acks_in notes) i;
        })

    by : (all : Bool) → Counted (with_nak lost c) xs delivered front (Sent time (nak_report all rs) ∷ notes)
    by true = one
    by false = one

-- a KEEPALIVE changes no counter
pub counts_alive : (c : Counts) (xs : List Arrival) (delivered front time : ℕ) (notes : List Note)
    → Counted c xs delivered front notes → Counted c xs delivered front (Sent time KeepAlive ∷ notes)
counts_alive c xs delivered front time notes h =
    h ∙ (λ i. record (counts_of xs delivered front notes) {
      reported_lost = none_more (reported_lost_in notes) i;
      full_window_acks = none_more (full_window_acks_in notes) i;
    })

-- a data packet is counted, also if it isn't stored
pub counts_one : (time : ℕ) (region : Region) (put : Put) (c : Counts) (xs : List Arrival) (delivered front : ℕ) (notes : List Note)
    → Counted c xs delivered front notes → Counted (with_one region c) xs delivered front (Arrived time region put ∷ notes)
counts_one time region put c xs delivered front notes h = ap (with_one region) h ∙ by region
  where
    by : (region : Region) → with_one region (counts_of xs delivered front notes) ≡ counts_of xs delivered front (Arrived time region put ∷ notes)
    by Inside = λ i. record (counts_of xs delivered front notes) {
      arrived = some_more (arrived_in notes) 1 i;
      late = none_more (late_in notes) i;
      ahead = none_more (ahead_in notes) i;
    }
    by Ahead = λ i. record (counts_of xs delivered front notes) {
      arrived = some_more (arrived_in notes) 1 i;
      late = none_more (late_in notes) i;
      ahead = some_more (ahead_in notes) 1 i;
    }
    by Late = λ i. record (counts_of xs delivered front notes) {
      arrived = some_more (arrived_in notes) 1 i;
      late = some_more (late_in notes) 1 i;
      ahead = none_more (ahead_in notes) i;
    }
