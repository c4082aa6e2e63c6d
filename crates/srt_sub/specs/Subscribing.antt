-- A subscriber's session, defined by everything that it was fed, received and sent. Times are microseconds since its
-- opening, and numbers count from its initial number.
use Rattle.std.specs.Prelude.{ℕ, ◌+◌, ◌-◌, ◌*◌, ◌/◌, ◌^◌, Bool, true, false, Option, None, Some, List, [], ◌∷◌, ◌++◌, take, min, max, length, slice_get, nat_lt}
use Rattle.std.specs.Prelude.{nat_le, ◌==◌, ◌&&◌, if◌then◌else◌}
use Rattle.srt_types.specs.Limits.{keep_alive_after_us}
use Rattle.srt_types.specs.declared.shared.Mode.{Mode}
use Rattle.srt_types.specs.declared.shared.Mode.TheVariants.{Live, Buffer}
use Rattle.srt_types.specs.Runs.{Range, Run, numbers_from}
use Rattle.srt_timing.specs.RoundTrip.{RoundTrip, start, resend_after}
use Rattle.srt_timing.specs.Deadline.{too_late_at}
use Rattle.srt_sendbuf.specs.Sending.{Queued, Sending, nothing_yet, front, base, next, room, lost, acknowledged_by, acknowledged, requested}
use Rattle.srt_sendbuf.specs.Sending.{asks_for_gone, all_lost, queued, expired_before, sent}
use Rattle.srt_sub.specs.Heard.{Heard, Ack, Nak, Data, Other}
use Rattle.srt_sub.specs.declared.resend_all.Resending.{Resending}
use Rattle.srt_sub.specs.declared.resend_all.Resending.TheVariants.{AtEachTimeout, Once, BackingOff}

-- the agreed terms: the mode, the window's width in packets, the delay in microseconds, the maximum size of a packet
-- with all headers (the MTU), the flow window in packets, the number of packets that may be sent again for each 100 new
-- ones (None: any number), and when all packets in flight are sent again
pub record Terms : Type 0 where
  pub mode : Mode
  pub width : ℕ
  pub delay : ℕ
  pub mtu : ℕ
  pub window : ℕ
  pub resend_percent : Option ℕ
  pub resending : Resending

-- a packet that a session sends
pub data Report : Type 0 where
  -- an ACKACK, with the number of the Full ACK
  Acked : (mark : ℕ) → Report
  -- a drop request for expired numbers
  Dropped : (run : Run) → Report
  -- a data packet: its number, whether it was sent before, the time at which its payload was queued, and the payload
  Media : (number : ℕ) (again : Bool) (origin : ℕ) (payload : List ℕ) → Report
  KeepAlive : Report

-- an event that the session records
pub data Note : Type 0 where
  -- a packet was sent
  Sent : (time : ℕ) (report : Report) → Note
  -- an ACK acknowledged more than all earlier ones
  Grew : (time : ℕ) → Note
  -- an ACK reported a round-trip time and its variance
  Sampled : (round_trip : RoundTrip) → Note
  -- an ACK reported a flow window
  Opened : (window : ℕ) → Note
  -- a NAK requested expired numbers
  Missed : (run : Run) → Note
  -- a data packet was received from the caller
  Misdirected : Note
  -- the credit for resends was less than one packet, and was raised to it
  Renewed : (time : ℕ) → Note
  -- all packets in flight were marked as lost
  Presumed : Note

-- everything that was queued, all notes, newest first, and how many packets were given up: too late, and not
-- acknowledged before
pub record Subscribing : Type 0 where
  pub sending : Sending
  pub notes : List Note
  pub given_up : ℕ

-- a session that was just opened
abbrev pub opened : Subscribing
opened = record { sending = nothing_yet; notes = []; given_up = 0 }

-- the time of the last packet sent, and below it the times of the last data packet sent and of the last ACK that
-- acknowledged more; 0, the opening, without one
abbrev pub last_sent : List Note → ℕ
last_sent [] = 0
last_sent (Sent time report ∷ notes) = time
last_sent (Grew time ∷ notes) = last_sent notes
last_sent (Sampled r ∷ notes) = last_sent notes
last_sent (Opened w ∷ notes) = last_sent notes
last_sent (Missed run ∷ notes) = last_sent notes
last_sent (Misdirected ∷ notes) = last_sent notes
last_sent (Renewed time ∷ notes) = last_sent notes
last_sent (Presumed ∷ notes) = last_sent notes

abbrev pub is_media : Report → Bool
is_media (Media number again origin payload) = true
is_media _ = false

abbrev pub last_media : List Note → ℕ
last_media [] = 0
last_media (Sent time report ∷ notes) = if is_media report then time else last_media notes
last_media (Grew time ∷ notes) = last_media notes
last_media (Sampled r ∷ notes) = last_media notes
last_media (Opened w ∷ notes) = last_media notes
last_media (Missed run ∷ notes) = last_media notes
last_media (Misdirected ∷ notes) = last_media notes
last_media (Renewed time ∷ notes) = last_media notes
last_media (Presumed ∷ notes) = last_media notes

abbrev pub last_growth : List Note → ℕ
last_growth [] = 0
last_growth (Sent time report ∷ notes) = last_growth notes
last_growth (Grew time ∷ notes) = time
last_growth (Sampled r ∷ notes) = last_growth notes
last_growth (Opened w ∷ notes) = last_growth notes
last_growth (Missed run ∷ notes) = last_growth notes
last_growth (Misdirected ∷ notes) = last_growth notes
last_growth (Renewed time ∷ notes) = last_growth notes
last_growth (Presumed ∷ notes) = last_growth notes

-- the number of times that all packets in flight were marked as lost since the last ACK that acknowledged more, or
-- since the opening
abbrev pub tries : List Note → ℕ
tries [] = 0
tries (Sent time report ∷ notes) = tries notes
tries (Grew time ∷ notes) = 0
tries (Sampled r ∷ notes) = tries notes
tries (Opened w ∷ notes) = tries notes
tries (Missed run ∷ notes) = tries notes
tries (Misdirected ∷ notes) = tries notes
tries (Renewed time ∷ notes) = tries notes
tries (Presumed ∷ notes) = tries notes + 1

-- the last round-trip time and variance that an ACK reported (section 4.10)
abbrev pub round_trip : List Note → RoundTrip
round_trip [] = start
round_trip (Sent time report ∷ notes) = round_trip notes
round_trip (Grew time ∷ notes) = round_trip notes
round_trip (Sampled r ∷ notes) = r
round_trip (Opened w ∷ notes) = round_trip notes
round_trip (Missed run ∷ notes) = round_trip notes
round_trip (Misdirected ∷ notes) = round_trip notes
round_trip (Renewed time ∷ notes) = round_trip notes
round_trip (Presumed ∷ notes) = round_trip notes

-- the flow window: the available buffer size that the last ACK reported, or the agreed one (section 3.2.4)
abbrev pub flow_window : (agreed : ℕ) → List Note → ℕ
flow_window agreed [] = agreed
flow_window agreed (Sent time report ∷ notes) = flow_window agreed notes
flow_window agreed (Grew time ∷ notes) = flow_window agreed notes
flow_window agreed (Sampled r ∷ notes) = flow_window agreed notes
flow_window agreed (Opened w ∷ notes) = w
flow_window agreed (Missed run ∷ notes) = flow_window agreed notes
flow_window agreed (Misdirected ∷ notes) = flow_window agreed notes
flow_window agreed (Renewed time ∷ notes) = flow_window agreed notes
flow_window agreed (Presumed ∷ notes) = flow_window agreed notes

-- the buffer after packets older than the threshold are dropped; in buffer mode none are (section 4.6)
abbrev pub expired_in : Mode → Terms → (time : ℕ) → Sending → Sending
expired_in Live terms time s = expired_before (too_late_at time terms.delay) s
expired_in Buffer terms time s = s

-- the session after that drop, as at the beginning of an event: the packets up to the new front are given up
abbrev pub with_expired : (later : Sending) → Subscribing → Subscribing
with_expired later s = record s { sending = later; given_up = s.given_up + (front later - front s.sending) }

abbrev pub expired : Terms → (time : ℕ) → Subscribing → Subscribing
expired terms time s = with_expired (expired_in terms.mode terms time s.sending) s

-- the notes of the values that an ACK reports in addition to its number
abbrev pub sampled : List ℕ → List Note
sampled (rtt ∷ variance ∷ window ∷ more) = Opened window ∷ Sampled (record { time = rtt; variance = variance }) ∷ []
sampled (rtt ∷ variance ∷ []) = Sampled (record { time = rtt; variance = variance }) ∷ []
sampled _ = []

-- the note of an ACK that acknowledged more
abbrev pub grown : (time : ℕ) → Bool → List Note
grown time grows = if grows then Grew time ∷ [] else []

abbrev pub growth : (time n : ℕ) → Sending → List Note
growth time n s = grown time (nat_lt s.acked n)

-- the session after an ACK; unchanged if its number is outside the range that an ACK may have (None)
abbrev pub with_ack : (time : ℕ) → List ℕ → Option ℕ → Subscribing → Subscribing
with_ack time more None s = s
with_ack time more (Some n) s = record s { sending = acknowledged n s.sending; notes = sampled more ++ (growth time n s.sending ++ s.notes) }

-- the ACKACK for an ACK whose own number isn't 0, that is, a Full ACK (section 3.2.8)
abbrev pub ack_reports : (mark : ℕ) → List Report
ack_reports mark = if mark == 0 then [] else Acked mark ∷ []

-- the notes after these packets are sent, the first of them first
abbrev pub noted : (time : ℕ) → List Report → List Note → List Note
noted time [] notes = notes
noted time (r ∷ rs) notes = noted time rs (Sent time r ∷ notes)

-- all numbers from the base up to the front, which are expired and not acknowledged
abbrev pub gone : Sending → Run
gone s = record { low = base s; high = front s - 1 }

-- the session after a NAK; unchanged if its loss list is invalid (None)
abbrev pub with_nak : Option (List Range) → Subscribing → Subscribing
with_nak None s = s
with_nak (Some ranges) s =
    record s { sending = requested ranges s.sending; notes = if asks_for_gone ranges s.sending then Missed (gone s.sending) ∷ s.notes else s.notes }

-- the session after a packet
abbrev pub took : (time : ℕ) → Heard → Subscribing → Subscribing
took time (Ack mark number more) s =
    let heard = with_ack time more (acknowledged_by number s.sending) s in
    record heard { notes = noted time (ack_reports mark) heard.notes }
took time (Nak ranges) s = with_nak ranges s
took time Data s = record s { notes = Misdirected ∷ s.notes }
took time Other s = s

-- the packets that are sent at once in response to a packet
abbrev pub answers : Heard → List Report
answers (Ack mark number more) = ack_reports mark
answers _ = []

-- whether a payload is queued: in live mode if a place is free, and the payload with its headers fits in the agreed
-- MTU
abbrev pub fits : Mode → Terms → List ℕ → Sending → Bool
fits Live terms payload s = nat_lt 0 (room terms.width s) && nat_le (length payload) (terms.mtu - 44)
fits Buffer terms payload s = true

-- the session after a payload of the route
abbrev pub fed : Terms → (time : ℕ) → List ℕ → Subscribing → Subscribing
fed terms time payload s = if fits terms.mode terms payload s.sending then record s { sending = queued time payload s.sending } else s

-- the session after these payloads, in order
abbrev pub fed_all : Terms → (time : ℕ) → List (List ℕ) → Subscribing → Subscribing
fed_all terms time [] s = s
fed_all terms time (x ∷ xs) s = fed_all terms time xs (fed terms time x s)

abbrev pub is_drop : Report → Bool
is_drop (Dropped run) = true
is_drop _ = false

-- the pending drop request: a NAK requested expired numbers, and no drop request was sent since
abbrev pub unreported : List Note → Option Run
unreported [] = None
unreported (Sent time report ∷ notes) = if is_drop report then None else unreported notes
unreported (Grew time ∷ notes) = unreported notes
unreported (Sampled r ∷ notes) = unreported notes
unreported (Opened w ∷ notes) = unreported notes
unreported (Missed run ∷ notes) = Some run
unreported (Misdirected ∷ notes) = unreported notes
unreported (Renewed time ∷ notes) = unreported notes
unreported (Presumed ∷ notes) = unreported notes

-- the drop request for a NAK of expired numbers (section 3.2.9)
abbrev pub drops_of : Option Run → List Report
drops_of None = []
drops_of (Some run) = Dropped run ∷ []

abbrev pub drops : List Note → List Report
drops notes = drops_of (unreported notes)

-- the maximum credit, in hundredths of a packet, and below it the initial credit (our choice)
abbrev pub most_credit : ℕ
most_credit = 819_200

abbrev pub first_credit : ℕ
first_credit = 6_400

-- the credit after a packet: a new data packet adds `percent` hundredths, and one that is sent again costs a packet
abbrev pub credit_after : (percent : ℕ) → Report → ℕ → ℕ
credit_after percent (Acked mark) c = c
credit_after percent (Dropped run) c = c
credit_after percent (Media number true origin payload) c = c - 100
credit_after percent (Media number false origin payload) c = min (c + percent) most_credit
credit_after percent KeepAlive c = c

-- the credit for packets that are sent again, in hundredths of a packet (our choice)
abbrev pub credit : (percent : ℕ) → List Note → ℕ
credit percent [] = first_credit
credit percent (Sent time report ∷ notes) = credit_after percent report (credit percent notes)
credit percent (Grew time ∷ notes) = credit percent notes
credit percent (Sampled r ∷ notes) = credit percent notes
credit percent (Opened w ∷ notes) = credit percent notes
credit percent (Missed run ∷ notes) = credit percent notes
credit percent (Misdirected ∷ notes) = credit percent notes
credit percent (Renewed time ∷ notes) = 100
credit percent (Presumed ∷ notes) = credit percent notes

-- whether a lost packet may be sent again
abbrev pub may_resend : Option ℕ → List Note → Bool
may_resend None notes = true
may_resend (Some percent) notes = nat_le 100 (credit percent notes)

-- the maximum number of packets that an event may send again, with this many places for data packets
abbrev pub resends : Option ℕ → (places : ℕ) → List Note → ℕ
resends None places notes = places
resends (Some percent) places notes = min places (credit percent notes / 100)

-- whether the credit is to be raised to one packet: it is less, and no data packet was sent for 20 ms (our choice)
abbrev pub renewal_due : Option ℕ → (time : ℕ) → List Note → Bool
renewal_due None time notes = false
renewal_due (Some percent) time notes = nat_lt (credit percent notes) 100 && nat_le 20_000 (time - last_media notes)

abbrev pub renewed_notes : Option ℕ → (time : ℕ) → List Note → List Note
renewed_notes percent time notes = if renewal_due percent time notes then Renewed time ∷ notes else notes

abbrev pub renewed : Terms → (time : ℕ) → Subscribing → Subscribing
renewed terms time s = record s { notes = renewed_notes terms.resend_percent time s.notes }

-- the timeout for resending all, by the round-trip time that an ACK reported last
abbrev pub resend_timeout : List Note → ℕ
resend_timeout notes = resend_after (round_trip notes)

-- the time since the last data packet or the last growth, whichever was later
abbrev pub quiet_time : (time : ℕ) → List Note → ℕ
quiet_time time notes = time - max (last_media notes) (last_growth notes)

-- whether the last data packet and the last growth are long enough ago to resend all, in a session with this delay.
-- `recent`: a packet from the caller was received less than a second ago (our choice)
abbrev pub has_waited : Resending → (delay time : ℕ) → (recent : Bool) → List Note → Bool
has_waited AtEachTimeout delay time recent notes = nat_le (resend_timeout notes) (quiet_time time notes)
has_waited Once delay time recent notes = recent && (tries notes == 0) && nat_le (max (resend_timeout notes) (delay / 2)) (quiet_time time notes)
has_waited BackingOff delay time recent notes = recent && nat_le (resend_timeout notes * 2 ^ min (tries notes) 6) (quiet_time time notes)

-- whether it is time to resend all: packets are in flight, none of them is lost, and both the last data packet and the
-- last growth are long enough ago (our choice)
abbrev pub resend_due : Terms → (time : ℕ) → (recent : Bool) → Subscribing → Bool
resend_due terms time recent s =
    nat_lt (front s.sending) (next s.sending) && (length (lost s.sending) == 0)
    && has_waited terms.resending terms.delay time recent s.notes

-- the session after all packets in flight are marked as lost, if it is time to resend all
abbrev pub presumed : Terms → (time : ℕ) → (recent : Bool) → Subscribing → Subscribing
presumed terms time recent s =
    if resend_due terms time recent s then record s { sending = all_lost s.sending; notes = Presumed ∷ s.notes } else s

-- the session at the beginning of an event's end
abbrev pub prepared : Terms → (time : ℕ) → (recent : Bool) → Subscribing → Subscribing
prepared terms time recent s = presumed terms time recent (renewed terms time s)

-- the maximum number of data packets that an event sends (our choice)
abbrev pub most : ℕ
most = 64

-- the numbers that are sent again: the lowest lost ones, at most `again` (section 4.8.2)
abbrev pub again_of : (again : ℕ) → Sending → List ℕ
again_of again s = take again (lost s)

-- the new numbers that are sent: as many as the remaining places, the flow window and the queue allow (section 3.2.4)
abbrev pub new_of : (places again window : ℕ) → Sending → List ℕ
new_of places again window s = numbers_from (next s) (min (places - length (again_of again s)) (min (window - (next s - front s)) (length s.queue - next s)))

abbrev pub media_of : Bool → ℕ → Option Queued → List Report
media_of repeat n None = []
media_of repeat n (Some q) = Media n repeat q.origin q.payload ∷ []

abbrev pub media : Bool → List ℕ → List Queued → List Report
media repeat [] queue = []
media repeat (n ∷ ns) queue = media_of repeat n (slice_get queue n) ++ media repeat ns queue

-- a KEEPALIVE, if nothing else is sent and nothing was sent for a second (section 3.2.3)
abbrev pub keep_alives : (time : ℕ) → List Report → List Note → List Report
keep_alives time (r ∷ rs) notes = []
keep_alives time [] notes = if nat_le keep_alive_after_us (time - last_sent notes) then KeepAlive ∷ [] else []

-- all packets except the KEEPALIVE, with at most `places` data packets and at most `again` resends: a drop request,
-- resends, new packets
abbrev pub due_of : (places again : ℕ) → Terms → Subscribing → List Report
due_of places again terms s =
    drops s.notes ++ media true (again_of again s.sending) s.sending.queue
    ++ media false (new_of places again (flow_window terms.window s.notes) s.sending) s.sending.queue

-- all packets, with at most `places` data packets and at most `again` resends
abbrev pub reports_of : (places again : ℕ) → Terms → (time : ℕ) → Subscribing → List Report
reports_of places again terms time s = due_of places again terms s ++ keep_alives time (due_of places again terms s) s.notes

-- the packets that an event sends at its end, in order; before that, if it is time to resend all, all packets in
-- flight are marked as lost. `recent`: a packet from the caller was received less than a second ago, or in this event
abbrev pub reports : Terms → (time : ℕ) → (recent : Bool) → Subscribing → List Report
reports terms time recent s =
    reports_of most (resends terms.resend_percent most (prepared terms time recent s).notes) terms time (prepared terms time recent s)

-- the buffer after these numbers are sent, the first of them first
abbrev pub sent_each : List ℕ → Sending → Sending
sent_each [] s = s
sent_each (n ∷ ns) s = sent_each ns (sent n s)

-- the session after these packets are sent
abbrev pub sent_of : (places again : ℕ) → Terms → (time : ℕ) → Subscribing → Subscribing
sent_of places again terms time s =
    record s {
      sending = sent_each (again_of again s.sending ++ new_of places again (flow_window terms.window s.notes) s.sending) s.sending;
      notes = noted time (reports_of places again terms time s) s.notes;
    }

-- the session after the end of an event
abbrev pub reported : Terms → (time : ℕ) → (recent : Bool) → Subscribing → Subscribing
reported terms time recent s =
    sent_of most (resends terms.resend_percent most (prepared terms time recent s).notes) terms time (prepared terms time recent s)
