-- A publisher's session, defined by everything that it received and sent. Times are microseconds since its opening,
-- numbers count from its initial number, and timestamps from the timestamp of its conclusion. Lists have the newest
-- first.
use Rattle.std.specs.Prelude.{ℕ, zero, suc, ◌+◌, ◌-◌, ◌*◌, ◌/◌, ◌^◌, ℤ, pos, Bool, true, false, Option, None, Some, List, [], ◌∷◌, ◌++◌, find, take, max}
use Rattle.std.specs.Prelude.{min, length, not, is_none, is_some, nat_lt, nat_le, slice_get, ◌==◌, ◌&&◌, ◌||◌, if◌then◌else◌}
use Rattle.srt_types.specs.Limits.{full_ack_interval_us, keep_alive_after_us, light_ack_packets}
use Rattle.srt_types.specs.declared.shared.Mode.{Mode}
use Rattle.srt_types.specs.declared.shared.Mode.TheVariants.{Live, Buffer}
use Rattle.srt_types.specs.declared.shared.Callers.{Callers}
use Rattle.srt_types.specs.declared.shared.Callers.TheVariants.{Draft, Libsrt}
use Rattle.srt_types.specs.Window.{in_window}
use Rattle.srt_types.specs.Capped.{one_if}
use Rattle.srt_types.specs.Runs.{Range, Run, runs}
use Rattle.srt_types.specs.Counts.{ack_number}
use Rattle.srt_timing.specs.Deadline.{due_time}
use Rattle.srt_timing.specs.Clock.{Sample, clock_after}
use Rattle.srt_timing.specs.declared.drift_windows.Clock.{Clock}
use Rattle.srt_timing.specs.RoundTrip.{RoundTrip, after_samples, nak_interval}
use Rattle.srt_recvbuf.specs.Receiving.{Arrival, Receiving, nothing_yet, end_of, gaps, gaps_from, ack_point, available, is_received, is_waiting}
use Rattle.srt_recvbuf.specs.Receiving.{deliverable, in_order, passed, received, requested, put_of}
use Rattle.srt_recvbuf.specs.declared.buffer.Put.{Put}
use Rattle.srt_recvbuf.specs.declared.buffer.Put.TheVariants.{New, Repeat, Outside}
use Rattle.srt_packet.specs.declared.writing.Rates.{Rates}
use Rattle.srt_pub.specs.Heard.{Heard, Data, AckAck, DropRequest, Other}
use Rattle.srt_pub.specs.declared.region.Region.{Region}
use Rattle.srt_pub.specs.declared.region.Region.TheVariants.{Inside, Ahead, Late}
use Rattle.srt_pub.specs.declared.rates.Rating.{Rating}
use Rattle.srt_pub.specs.declared.rates.Rating.TheVariants.{Unmeasured, Measured}

-- the agreed terms: the mode, the window's width in packets, the delay in microseconds, and which rules the callers
-- follow
pub record Terms : Type 0 where
  pub mode : Mode
  pub width : ℕ
  pub delay : ℕ
  pub callers : Callers

-- a Full ACK: the number of Full ACKs before it, the time at which it was sent, and the acknowledgement point and
-- available buffer size that it reported
pub record Full : Type 0 where
  pub index : ℕ
  pub time : ℕ
  pub point : ℕ
  pub available : ℕ

-- a packet that a session sends
pub data Report : Type 0 where
  FullAck : (index point round_trip variance available : ℕ) (rates : Rates) → Report
  LightAck : (point : ℕ) → Report
  -- a NAK of all gaps
  NakOfAll : List Run → Report
  -- a NAK of the gaps that appeared with this event
  NakOfNew : List Run → Report
  KeepAlive : Report

-- an event that the session records
pub data Note : Type 0 where
  -- an unencrypted data packet arrived at this time; its number is in this region, and `put` is the buffer's result
  -- for it
  Arrived : (time : ℕ) (region : Region) (put : Put) → Note
  -- a packet was sent
  Sent : (time : ℕ) (report : Report) → Note
  -- an ACKACK with this timestamp confirmed a Full ACK, with this sample of the round-trip time
  Confirmed : (time stamp : ℕ) (full : Full) (sample : ℕ) → Note

-- everything received, all notes, and the end of the received numbers at the end of the previous event
pub record Publishing : Type 0 where
  pub receiving : Receiving
  pub notes : List Note
  pub seen : ℕ

-- a session that was just opened
abbrev pub opened : Publishing
opened = record { receiving = nothing_yet; notes = []; seen = 0 }

-- the samples of confirmed Full ACKs (section 4.10)
abbrev pub samples : List Note → List ℕ
samples [] = []
samples (Arrived time region put ∷ notes) = samples notes
samples (Sent time report ∷ notes) = samples notes
samples (Confirmed time stamp full sample ∷ notes) = sample ∷ samples notes

-- the smoothed round-trip time and its variance (section 4.10)
abbrev pub round_trip : Callers → List Note → RoundTrip
round_trip callers notes = after_samples callers (samples notes)

-- whether a session follows its sender's clock: only in live mode, with callers that use libsrt (section 4.7; that
-- others are taken to have no drift is our choice)
abbrev pub follows : Mode → Callers → Bool
follows Buffer callers = false
follows Live Draft = false
follows Live Libsrt = true

-- the samples of the sender's clock: the ACKACKs that confirmed a Full ACK
abbrev pub clock_samples : List Note → List Sample
clock_samples [] = []
clock_samples (Arrived time region put ∷ notes) = clock_samples notes
clock_samples (Sent time report ∷ notes) = clock_samples notes
clock_samples (Confirmed time stamp full sample ∷ notes) = record { time = time; stamp = stamp; round_trip = sample } ∷ clock_samples notes

-- the sender's clock; None if it isn't followed
abbrev pub clock_if : (followed : Bool) → List Sample → Option Clock
clock_if true samples = Some (clock_after samples)
clock_if false samples = None

abbrev pub clock_of : Terms → List Note → Option Clock
clock_of terms notes = clock_if (follows terms.mode terms.callers) (clock_samples notes)

-- by how much the sender's clock is slow since the opening; 0 if it isn't followed
abbrev pub correction_in : Option Clock → ℤ
correction_in None = pos 0
correction_in (Some clock) = clock.correction

abbrev pub correction_of : Terms → List Note → ℤ
correction_of terms notes = correction_in (clock_of terms notes)

-- the due time of a packet with this timestamp that arrives at this time: in buffer mode at once
abbrev pub due_in : Mode → Terms → (correction : ℤ) → (time stamp : ℕ) → ℤ
due_in Live terms correction time stamp = due_time terms.delay correction time stamp
due_in Buffer terms correction time stamp = pos 0

abbrev pub full_of : (time : ℕ) → Report → List Full
full_of time (FullAck index point rtt variance available rates) = record { index = index; time = time; point = point; available = available } ∷ []
full_of time _ = []

-- the Full ACKs that were sent
abbrev pub fulls : List Note → List Full
fulls [] = []
fulls (Arrived time region put ∷ notes) = fulls notes
fulls (Sent time report ∷ notes) = full_of time report ++ fulls notes
fulls (Confirmed time stamp full sample ∷ notes) = fulls notes

-- whether the Full ACK with this index was confirmed
abbrev pub is_confirmed : List Note → (index : ℕ) → Bool
is_confirmed [] index = false
is_confirmed (Arrived time region put ∷ notes) index = is_confirmed notes index
is_confirmed (Sent time report ∷ notes) index = is_confirmed notes index
is_confirmed (Confirmed time stamp full sample ∷ notes) index = full.index == index || is_confirmed notes index

-- whether an ACKACK with this number confirms this Full ACK: it has this number and isn't confirmed yet
abbrev pub answers : (number : ℕ) → List Note → Full → Bool
answers number notes f = (ack_number f.index == number) && not (is_confirmed notes f.index)

-- the Full ACK that an ACKACK with this number confirms: one of the last 64, not confirmed yet (section 3.2.8; 64 is
-- our choice)
unfoldable pub confirmed_by : (number : ℕ) → List Note → Option Full
confirmed_by number notes = find (answers number notes) (take 64 (fulls notes))

-- of two confirmed Full ACKs, the one that was sent later
abbrev pub later_of : Full → Option Full → Option Full
later_of full None = Some full
later_of full (Some other) = if nat_lt full.index other.index then Some other else Some full

-- of all confirmed Full ACKs, the one that was sent last
abbrev pub latest_confirmed : List Note → Option Full
latest_confirmed [] = None
latest_confirmed (Arrived time region put ∷ notes) = latest_confirmed notes
latest_confirmed (Sent time report ∷ notes) = latest_confirmed notes
latest_confirmed (Confirmed time stamp full sample ∷ notes) = later_of full (latest_confirmed notes)

-- whether a Full ACK reported this acknowledgement point and this available buffer size
abbrev pub says_pair : (point room : ℕ) → Full → Bool
says_pair point room f = (point == f.point) && (room == f.available)

-- whether this pair is confirmed: the latest confirmed Full ACK reported it. Before the first confirmation only the
-- pair of 0 and the width is confirmed
abbrev pub is_known : (width point room : ℕ) → Option Full → Bool
is_known width point room None = (point == 0) && (room == width)
is_known width point room (Some full) = says_pair point room full

abbrev pub is_ack : Report → Bool
is_ack (FullAck index point rtt variance available rates) = true
is_ack (LightAck point) = true
is_ack _ = false

-- the number of data packets since the last ACK of either kind (section 4.8.1)
abbrev pub arrived_since_ack : List Note → ℕ
arrived_since_ack [] = 0
arrived_since_ack (Arrived time region put ∷ notes) = arrived_since_ack notes + 1
arrived_since_ack (Sent time report ∷ notes) = if is_ack report then 0 else arrived_since_ack notes
arrived_since_ack (Confirmed time stamp full sample ∷ notes) = arrived_since_ack notes

-- the time of the last Full ACK; 0, the opening, without one
abbrev pub time_of : List Full → ℕ
time_of [] = 0
time_of (f ∷ fs) = f.time

abbrev pub is_nak_of_all : Report → Bool
is_nak_of_all (NakOfAll rs) = true
is_nak_of_all _ = false

-- the time of the last packet sent, and below it the time of the last NAK of all gaps; 0, the opening, without one
abbrev pub last_sent : List Note → ℕ
last_sent [] = 0
last_sent (Arrived time region put ∷ notes) = last_sent notes
last_sent (Sent time report ∷ notes) = time
last_sent (Confirmed time stamp full sample ∷ notes) = last_sent notes

abbrev pub last_nak_of_all : List Note → ℕ
last_nak_of_all [] = 0
last_nak_of_all (Arrived time region put ∷ notes) = last_nak_of_all notes
last_nak_of_all (Sent time report ∷ notes) = if is_nak_of_all report then time else last_nak_of_all notes
last_nak_of_all (Confirmed time stamp full sample ∷ notes) = last_nak_of_all notes

-- the time of the last unencrypted data packet; 0, the opening, without one
abbrev pub last_arrival : List Note → ℕ
last_arrival [] = 0
last_arrival (Arrived time region put ∷ notes) = time
last_arrival (Sent time report ∷ notes) = last_arrival notes
last_arrival (Confirmed time stamp full sample ∷ notes) = last_arrival notes

-- the times with the time of this data packet, if it was the first copy of its number
abbrev pub if_new : Put → (time : ℕ) → List ℕ → List ℕ
if_new New time times = time ∷ times
if_new Repeat time times = times
if_new Outside time times = times

-- the times at which data packets were received: the first copy of each number only
abbrev pub received_at : List Note → List ℕ
received_at [] = []
received_at (Arrived time region put ∷ notes) = if_new put time (received_at notes)
received_at (Sent time report ∷ notes) = received_at notes
received_at (Confirmed time stamp full sample ∷ notes) = received_at notes

-- the time between two packets; a second if one of them is missing (our choice, as in libsrt)
abbrev pub time_between : (later earlier : Option ℕ) → ℕ
time_between None earlier = 1_000_000
time_between (Some later) None = 1_000_000
time_between (Some later) (Some earlier) = later - earlier

-- the interval between the packet before it and the packet at this place; the latest is at place 0
abbrev pub interval : (times : List ℕ) → (place : ℕ) → ℕ
interval times place = time_between (slice_get times place) (slice_get times (suc place))

-- how many of the latest `number` intervals are shorter than this time
unfoldable pub shorter : (times : List ℕ) → (time : ℕ) → (number : ℕ) → ℕ
shorter times time zero = 0
shorter times time (suc n) = shorter times time n + one_if (nat_lt (interval times n) time)

-- the interval at this place; 0 if it is longer than the median, that is, if more than eight of the latest 16 are
-- shorter
abbrev pub up_to_median : (times : List ℕ) → (place : ℕ) → ℕ
up_to_median times place = if nat_lt 8 (shorter times (interval times place) 16) then 0 else interval times place

-- the longest of the latest `number` intervals that isn't longer than the median
unfoldable pub longest_up_to_median : (times : List ℕ) → (number : ℕ) → ℕ
longest_up_to_median times zero = 0
longest_up_to_median times (suc n) = max (longest_up_to_median times n) (up_to_median times n)

-- the median of the latest 16 intervals: the ninth of them by length, as in libsrt (our choice)
abbrev pub median_interval : (times : List ℕ) → ℕ
median_interval times = longest_up_to_median times 16

-- the packets receiving rate, in packets per second, for packets that arrive at this interval in microseconds: from
-- 1000 to 1,000,000, rounded down (our choice)
abbrev pub rate_at : (interval : ℕ) → ℕ
rate_at interval = max 1000 (1_000_000 / max interval 1)

-- the packets receiving rate from the packets' arrival times: 1000 if fewer than ten arrived
abbrev pub packet_rate : (times : List ℕ) → ℕ
packet_rate times = rate_at (median_interval times)

-- the rates that a Full ACK reports for this packets receiving rate: this rate, the link capacity, at least 100,000,
-- and the receiving rate in bytes, with 1456 bytes in each packet (section 3.2.4; the values are our choice)
abbrev pub rates_with : (rate : ℕ) → Rates
rates_with rate = record { packets = rate; capacity = max 100_000 rate; bytes = rate * 1456 }

abbrev pub no_rates : Rates
no_rates = record { packets = 0; capacity = 0; bytes = 0 }

-- whether a session measures packet rates: only in buffer mode, with callers that use libsrt
abbrev pub rating : Mode → Callers → Rating
rating Live callers = Unmeasured
rating Buffer Draft = Unmeasured
rating Buffer Libsrt = Measured

-- the rates that the session's Full ACKs report
abbrev pub rates_in : Rating → (times : List ℕ) → Rates
rates_in Unmeasured times = no_rates
rates_in Measured times = rates_with (packet_rate times)

abbrev pub rates_of : Terms → List Note → Rates
rates_of terms notes = rates_in (rating terms.mode terms.callers) (received_at notes)

-- whether a Full ACK is due: the last one is at least 10 ms ago and the current pair isn't confirmed (section 4.8.1;
-- that a confirmed pair isn't sent again is our choice)
unfoldable pub is_full_due : (width point room time : ℕ) → List Note → Bool
is_full_due width point room time notes = nat_le full_ack_interval_us (time - time_of (fulls notes)) && not (is_known width point room (latest_confirmed notes))

-- whether a Light ACK is due: after 64 data packets (section 4.8.1)
abbrev pub is_light_due : List Note → Bool
is_light_due notes = nat_le light_ack_packets (arrived_since_ack notes)

-- the Full ACK of the current state
abbrev pub full_ack : Terms → (point room : ℕ) → List Note → Report
full_ack terms point room notes =
    FullAck (length (fulls notes)) point (round_trip terms.callers notes).time (round_trip terms.callers notes).variance room (rates_of terms notes)

-- the ACK that is due: at most one, and a Full ACK before a Light ACK
abbrev pub ack_of : (full light : Bool) → (full_one light_one : Report) → List Report
ack_of true light full_one light_one = full_one ∷ []
ack_of false true full_one light_one = light_one ∷ []
ack_of false false full_one light_one = []

unfoldable pub acks_at : Terms → (point room time : ℕ) → List Note → List Report
acks_at terms point room time notes =
    ack_of (is_full_due terms.width point room time notes) (is_light_due notes) (full_ack terms point room notes) (LightAck point)

-- the ACK that is due in a session, if any
abbrev pub acks : Terms → (time : ℕ) → Publishing → List Report
acks terms time p = acks_at terms (ack_point terms.width p.receiving) (available terms.width p.receiving) time p.notes

-- the runs that a NAK reports: the first 32 (section 4.8.2; 32 is our choice)
abbrev pub runs_said : List ℕ → List Run
runs_said ns = take 32 (runs ns)

abbrev pub nak_report : (all : Bool) → List Run → Report
nak_report true rs = NakOfAll rs
nak_report false rs = NakOfNew rs

abbrev pub nak_with : (all : Bool) → List Run → List Report
nak_with all [] = []
nak_with all (r ∷ rs) = nak_report all (r ∷ rs) ∷ []

-- whether a NAK of all gaps is due: the last one is at least the NAK interval ago (section 4.8.2)
abbrev pub is_nak_due : Callers → (time : ℕ) → List Note → Bool
is_nak_due callers time notes = nat_le (nak_interval (round_trip callers notes)) (time - last_nak_of_all notes)

-- the gaps that a NAK reports: all gaps at each interval, else those above the numbers received before this event
-- (section 4.8.2)
abbrev pub gaps_reported : (all : Bool) → (width seen : ℕ) → Receiving → List ℕ
gaps_reported true width seen r = gaps width r
gaps_reported false width seen r = gaps_from width (max seen r.front) r

abbrev pub naks_of : (all : Bool) → (width seen : ℕ) → Receiving → List Report
naks_of all width seen r = nak_with all (runs_said (gaps_reported all width seen r))

-- the NAK that is due in a session, if any
unfoldable pub naks : Terms → (time : ℕ) → Publishing → List Report
naks terms time p = naks_of (is_nak_due terms.callers time p.notes) terms.width p.seen p.receiving

-- a KEEPALIVE, 1 s after the last packet (section 3.2.3)
abbrev pub keep_alive_if : Bool → List Report
keep_alive_if true = KeepAlive ∷ []
keep_alive_if false = []

-- the KEEPALIVE that is due, only if nothing else is sent
abbrev pub keep_alives : (time : ℕ) → List Report → List Note → List Report
keep_alives time (r ∷ rs) notes = []
keep_alives time [] notes = keep_alive_if (nat_le keep_alive_after_us (time - last_sent notes))

-- the packets that an event sends at its end, in order
unfoldable pub reports : Terms → (time : ℕ) → Publishing → List Report
reports terms time p =
    let due = acks terms time p ++ naks terms time p in
    due ++ keep_alives time due p.notes

-- the notes after these packets were sent, the first of them first
abbrev pub noted : (time : ℕ) → List Report → List Note → List Note
noted time [] notes = notes
noted time (r ∷ rs) notes = noted time rs (Sent time r ∷ notes)

-- the session after the end of an event
abbrev pub reported : Terms → (time : ℕ) → Publishing → Publishing
reported terms time p = record { receiving = p.receiving; notes = noted time (reports terms time p) p.notes; seen = end_of p.receiving.arrivals }

-- the payloads that an event delivers. `room` is the least room of the open subscribers, None without a subscriber or
-- for a standby publisher; it is used in buffer mode only (sections 4.2 and 4.6)
unfoldable pub deliveries : Mode → Terms → (time : ℕ) → (room : Option ℕ) → Publishing → List Arrival
deliveries Live terms time room p = deliverable time p.receiving
deliveries Buffer terms time None p = []
deliveries Buffer terms time (Some room) p = in_order terms.width room p.receiving

-- the session after the delivery of these payloads
abbrev pub delivered : Terms → (time : ℕ) → (room : Option ℕ) → Publishing → Publishing
delivered terms time room p = record p { receiving = passed terms.width (deliveries terms.mode terms time room p) p.receiving }

-- the sample of the round-trip time: the time since the Full ACK, at most 10 s (our choice)
abbrev pub sample_of : (time : ℕ) → Full → ℕ
sample_of time full = min (time - full.time) 10_000_000

abbrev pub confirmed_notes : (time stamp : ℕ) → Option Full → List Note → List Note
confirmed_notes time stamp None notes = notes
confirmed_notes time stamp (Some full) notes = Confirmed time stamp full (sample_of time full) ∷ notes

-- the session after an ACKACK with this timestamp; None means that it confirms no Full ACK
abbrev pub confirmed_at : (time stamp : ℕ) → Option Full → Publishing → Publishing
confirmed_at time stamp full p = record p { notes = confirmed_notes time stamp full p.notes }

-- the region of a data packet's number: in the window, ahead of it by fewer than 2^30, or neither
unfoldable pub region_in : (width number : ℕ) → Receiving → Region
region_in width number r =
    if is_some (in_window number r.front width) then Inside
    else if is_some (in_window number (r.front + width) (2 ^ 30)) then Ahead
    else Late

-- the session after an unencrypted data packet
abbrev pub with_data : Terms → (time stamp number : ℕ) → List ℕ → Publishing → Publishing
with_data terms time stamp number payload p =
    record {
      receiving = received terms.width number payload (due_in terms.mode terms (correction_of terms p.notes) time stamp) p.receiving;
      notes = Arrived time (region_in terms.width number p.receiving) (put_of (in_window number p.receiving.front terms.width) p.receiving) ∷ p.notes;
      seen = p.seen;
    }

-- the session after a drop request, which changes something in live mode only (our choice)
abbrev pub with_request : Mode → Terms → Range → Publishing → Publishing
with_request Live terms range p = record p { receiving = requested terms.width range p.receiving }
with_request Buffer terms range p = p

-- the session after a packet; an encrypted data packet changes nothing
abbrev pub took : Terms → (time stamp : ℕ) → Heard → Publishing → Publishing
took terms time stamp (Data number encryption payload) p = if encryption == 0 then with_data terms time stamp number payload p else p
took terms time stamp (AckAck number) p = confirmed_at time stamp (confirmed_by number p.notes) p
took terms time stamp (DropRequest range) p = with_request terms.mode terms range p
took terms time stamp Other p = p

-- whether a received packet is still to be delivered: in live mode any packet at or above the front, in buffer mode
-- only the front's
abbrev pub has_undelivered : Mode → Receiving → Bool
has_undelivered Live r = is_waiting r
has_undelivered Buffer r = is_received r r.front

-- whether no received packet waits, and a number is past the window by fewer than 2^30 (our choice)
abbrev pub is_past_window : (width number : ℕ) → Receiving → Bool
is_past_window width number r = is_none (in_window number r.front width) && not (is_waiting r) && is_some (in_window number (r.front + width) (2 ^ 30))

-- whether a packet ends the session because the window is lost: in live mode only (our choice)
abbrev pub loses_window : Mode → Terms → Heard → Publishing → Bool
loses_window Live terms (Data number encryption payload) p = (encryption == 0) && is_past_window terms.width number p.receiving
loses_window Live terms _ p = false
loses_window Buffer terms heard p = false
