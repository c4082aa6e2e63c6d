-- The counters of a publisher's session, as functions of everything that it received and sent.
use Rattle.std.specs.Prelude.{◌≡◌, ℕ, zero, suc, ◌+◌, ◌-◌, ◌≤◌, Bool, true, false, List, [], ◌∷◌, length, is_some, ◌==◌, if◌then◌else◌}
use Rattle.std.specs.List.{sum_by}
pub use Rattle.srt_types.specs.Capped.{capped, one_if}
use Rattle.srt_types.specs.Window.{word_of, offset_of}
use Rattle.srt_types.specs.Runs.{Run}
use Rattle.srt_types.specs.declared.numbers.Seq31.{Seq31}
use Rattle.srt_recvbuf.specs.Receiving.{Arrival, Receiving, arrival_of}
use Rattle.srt_recvbuf.specs.declared.buffer.Put.{Put}
use Rattle.srt_recvbuf.specs.declared.buffer.Put.TheVariants.{New, Repeat, Outside}
use Rattle.srt_pub.specs.Publishing.{Note, Arrived, Sent, Confirmed, Report, FullAck, NakOfAll, NakOfNew}
use Rattle.srt_pub.specs.declared.counts.Counts.{Counts}
use Rattle.srt_pub.specs.declared.region.Region.{Region}
use Rattle.srt_pub.specs.declared.region.Region.TheVariants.{Inside, Ahead, Late}

-- the total length of all received payloads, in bytes
abbrev pub bytes_in : List Arrival → ℕ
bytes_in [] = 0
bytes_in (a ∷ arrivals) = bytes_in arrivals + length a.payload

-- how many numbers below this one were received
abbrev pub received_below : List Arrival → ℕ → ℕ
received_below arrivals zero = 0
received_below arrivals (suc n) = received_below arrivals n + one_if (is_some (arrival_of arrivals n))

-- the number of delivered packets: the received numbers below the front
abbrev pub delivered_in : Receiving → ℕ
delivered_in r = received_below r.arrivals r.front

-- the number of unencrypted data packets that arrived, with any number
abbrev pub arrived_in : List Note → ℕ
arrived_in [] = 0
arrived_in (Arrived time region put ∷ notes) = arrived_in notes + 1
arrived_in (Sent time report ∷ notes) = arrived_in notes
arrived_in (Confirmed time stamp full sample ∷ notes) = arrived_in notes

abbrev pub is_late : Region → Bool
is_late Late = true
is_late Inside = false
is_late Ahead = false

abbrev pub is_ahead : Region → Bool
is_ahead Ahead = true
is_ahead Inside = false
is_ahead Late = false

-- the number of arrivals that were too late, and below it the number of arrivals ahead of the window
abbrev pub late_in : List Note → ℕ
late_in [] = 0
late_in (Arrived time region put ∷ notes) = late_in notes + one_if (is_late region)
late_in (Sent time report ∷ notes) = late_in notes
late_in (Confirmed time stamp full sample ∷ notes) = late_in notes

abbrev pub ahead_in : List Note → ℕ
ahead_in [] = 0
ahead_in (Arrived time region put ∷ notes) = ahead_in notes + one_if (is_ahead region)
ahead_in (Sent time report ∷ notes) = ahead_in notes
ahead_in (Confirmed time stamp full sample ∷ notes) = ahead_in notes

abbrev pub is_nak : Report → Bool
is_nak (NakOfAll runs) = true
is_nak (NakOfNew runs) = true
is_nak _ = false

-- the number of NAKs that were sent
abbrev pub naks_in : List Note → ℕ
naks_in [] = 0
naks_in (Arrived time region put ∷ notes) = naks_in notes
naks_in (Sent time report ∷ notes) = if is_nak report then naks_in notes + 1 else naks_in notes
naks_in (Confirmed time stamp full sample ∷ notes) = naks_in notes

-- the number of numbers in runs
abbrev pub numbers_in : List Run → ℕ
numbers_in runs = sum_by (λ r. r.high - r.low + 1) runs

-- the number of numbers from one sequence number to another, inclusive, and in a list of such pairs
abbrev pub numbers_between : (first last : Seq31) → ℕ
numbers_between first last = offset_of (word_of last) (word_of first) + 1

abbrev pub numbers_in_pairs : List (Seq31 × Seq31) → ℕ
numbers_in_pairs pairs = sum_by (λ p. numbers_between p.0 p.1) pairs

-- the number of numbers that a packet reports as lost
abbrev pub reported_by : Report → ℕ
reported_by (NakOfAll runs) = numbers_in runs
reported_by (NakOfNew runs) = numbers_in runs
reported_by _ = 0

-- the number of numbers that all NAKs reported as lost; a number is counted once for each NAK that reported it
abbrev pub reported_lost_in : List Note → ℕ
reported_lost_in [] = 0
reported_lost_in (Arrived time region put ∷ notes) = reported_lost_in notes
reported_lost_in (Sent time report ∷ notes) = reported_lost_in notes + reported_by report
reported_lost_in (Confirmed time stamp full sample ∷ notes) = reported_lost_in notes

-- whether a packet is a Full ACK that reports no available place
abbrev pub is_of_full_window : Report → Bool
is_of_full_window (FullAck index point round_trip variance available rates) = available == 0
is_of_full_window _ = false

-- the number of such Full ACKs that were sent
abbrev pub full_window_acks_in : List Note → ℕ
full_window_acks_in [] = 0
full_window_acks_in (Arrived time region put ∷ notes) = full_window_acks_in notes
full_window_acks_in (Sent time report ∷ notes) = full_window_acks_in notes + one_if (is_of_full_window report)
full_window_acks_in (Confirmed time stamp full sample ∷ notes) = full_window_acks_in notes

-- the counters of a session with these arrivals, `delivered` packets delivered, this front, and these notes. The
-- numbers below the front that weren't delivered were given up
abbrev pub counts_of : List Arrival → (delivered front : ℕ) → List Note → Counts
counts_of arrivals delivered front notes =
    record {
      arrived = capped (arrived_in notes);
      late = capped (late_in notes);
      ahead = capped (ahead_in notes);
      received = capped (length arrivals);
      bytes = capped (bytes_in arrivals);
      delivered = capped delivered;
      given_up = capped (front - delivered);
      naks = capped (naks_in notes);
      reported_lost = capped (reported_lost_in notes);
      full_window_acks = capped (full_window_acks_in notes);
    }

abbrev pub Counted : Counts → List Arrival → (delivered front : ℕ) → List Note → Type 0
Counted c arrivals delivered front notes = c ≡ counts_of arrivals delivered front notes

-- the front moves on from `r` to `s`: past a delivered packet if `is_due`, and past numbers that are given up
pub record Passes (is_due : Bool) (r s : Receiving) : Type 0 where
  pub delivered : delivered_in s ≡ delivered_in r + one_if is_due
  pub far : one_if is_due ≤ s.front - r.front

-- the counters after the arrival of an unencrypted data packet in this region
abbrev pub with_one : Region → Counts → Counts
with_one Inside c = record c { arrived = capped (c.arrived + 1) }
with_one Ahead c = record c { arrived = capped (c.arrived + 1); ahead = capped (c.ahead + 1) }
with_one Late c = record c { arrived = capped (c.arrived + 1); late = capped (c.late + 1) }

-- the counters after a packet with a payload of this length was put into the window
abbrev pub with_put : Put → (length : ℕ) → Counts → Counts
with_put New length c = record c { received = capped (c.received + 1); bytes = capped (c.bytes + length) }
with_put Repeat length c = c
with_put Outside length c = c

-- the counters after the front moved on by `steps`, past a delivered packet if `is_due`
abbrev pub with_steps : (steps : ℕ) → (is_due : Bool) → Counts → Counts
with_steps steps is_due c = record c { delivered = capped (c.delivered + one_if is_due); given_up = capped (c.given_up + (steps - one_if is_due)) }

-- the counters after a NAK that reports `lost` numbers as lost
abbrev pub with_nak : (lost : ℕ) → Counts → Counts
with_nak lost c = record c { naks = capped (c.naks + 1); reported_lost = capped (c.reported_lost + lost) }

-- the counters after a Full ACK, of a full window if `is_full`; unchanged otherwise
abbrev pub with_full_window : (is_full : Bool) → Counts → Counts
with_full_window is_full c = record c { full_window_acks = capped (c.full_window_acks + one_if is_full) }
