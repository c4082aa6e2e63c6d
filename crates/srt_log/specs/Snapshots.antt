-- The session of a slot, and what the log states of it.
use Rattle.std.specs.Prelude.{ℕ, suc, ◌-◌, ◌*◌, ◌/◌, ◌==◌, min, ℤ, pos, negsuc, neg_ℤ, Bool, Option, None, Some, if◌then◌else◌}
use Rattle.srt_route.specs.declared.ledger.EndCause.{EndCause}
use Rattle.srt_route.specs.declared.ledger.EndCause.TheVariants as causes
use Rattle.srt_route.specs.declared.ledger.EndedSession.{EndedSession}
use Rattle.srt_route.specs.declared.view.SessionView.{SessionView}
use Rattle.srt_route.specs.declared.view.Traffic.{Traffic}
use Rattle.srt_route.specs.declared.view.Traffic.TheVariants.{Received, Sent}
use Rattle.srt_log.specs.declared.events.EndReason.{EndReason}
use Rattle.srt_log.specs.declared.events.EndReason.TheVariants as reasons
use Rattle.srt_log.specs.declared.events.ClockDrift.{ClockDrift}
use Rattle.srt_log.specs.declared.events.Trouble.{Trouble}
use Rattle.srt_log.specs.declared.events.Trouble.TheVariants.{Misdirected, FullWindow, LatePackets}
use Rattle.srt_log.specs.declared.snapshots.SlotSession.{SlotSession}
use Rattle.srt_log.specs.declared.snapshots.SlotSession.TheVariants.{Open, Ended}

-- its state, at the time of the snapshot or at its end
abbrev pub view_of : SlotSession → SessionView
view_of (Open view) = view
view_of (Ended session) = session.view

-- the session that is open in a slot; where none is, the one that ended there last
abbrev pub slot_of : Option SessionView → Option EndedSession → Option SlotSession
slot_of (Some view) ended = Some (Open view)
slot_of None (Some session) = Some (Ended session)
slot_of None None = None

-- why a session ended; while the gateway stops, that closed the route
abbrev pub reason_of : (stops : Bool) → EndCause → EndReason
reason_of stops causes.Shutdown = reasons.Shutdown
reason_of stops causes.Drained = reasons.Shutdown
reason_of stops causes.DrainedTooLong = reasons.DrainedTooLong
reason_of stops causes.Silence = reasons.Silence
reason_of stops causes.WindowLost = reasons.WindowLost
reason_of stops causes.FileEnded = reasons.StreamEnd
reason_of stops causes.Closed = if stops then reasons.GatewayStops else reasons.RouteClosed

-- what a session counted: packets, each once, and their bytes; those given up; of a publisher's session packets that arrived in addition, of a
-- subscriber's those sent again
abbrev pub packets_in : Traffic → ℕ
packets_in (Received x) = x.counts.received
packets_in (Sent x) = x.sendings.fresh

abbrev pub bytes_in : Traffic → ℕ
bytes_in (Received x) = x.counts.bytes
bytes_in (Sent x) = x.counts.bytes

abbrev pub lost_in : Traffic → ℕ
lost_in (Received x) = x.counts.given_up
lost_in (Sent x) = x.counts.given_up

abbrev pub resent_in : Traffic → ℕ
resent_in (Received x) = x.counts.arrived - x.counts.received
resent_in (Sent x) = x.sendings.resent

-- a correction in parts per million of the time since the opening, in microseconds, rounded toward 0; 0 at the opening
abbrev pub ppm_of : (correction : ℤ) → (elapsed : ℕ) → ℤ
ppm_of (pos n) elapsed = if elapsed == 0 then pos 0 else pos (1_000_000 * n / elapsed)
ppm_of (negsuc n) elapsed = if elapsed == 0 then pos 0 else neg_ℤ (pos (1_000_000 * suc n / elapsed))

-- how the clock of a session was followed in the time that it was open; none where it isn't followed
abbrev pub clock_after : Option ℤ → (elapsed : ℕ) → Option ClockDrift
clock_after None elapsed = None
clock_after (Some correction) elapsed = Some (record { ppm = ppm_of correction elapsed; correction = correction })

abbrev pub clock_of : Traffic → (elapsed : ℕ) → Option ClockDrift
clock_of (Received x) elapsed = clock_after x.correction elapsed
clock_of (Sent x) elapsed = None

-- how often something was wrong with a session's stream; of a publisher's, at most as many packets arrived too late as were given up
abbrev pub received_trouble : Trouble → (full_window_acks late given_up : ℕ) → ℕ
received_trouble Misdirected full_window_acks late given_up = 0
received_trouble FullWindow full_window_acks late given_up = full_window_acks
received_trouble LatePackets full_window_acks late given_up = min late given_up

abbrev pub sent_trouble : Trouble → (misdirected : ℕ) → ℕ
sent_trouble Misdirected misdirected = misdirected
sent_trouble FullWindow misdirected = 0
sent_trouble LatePackets misdirected = 0

abbrev pub count_of : Trouble → Traffic → ℕ
count_of trouble (Received x) = received_trouble trouble x.counts.full_window_acks x.counts.late x.counts.given_up
count_of trouble (Sent x) = sent_trouble trouble x.counts.misdirected

-- a latency, of which a session in buffer mode has none
abbrev pub latency_of : (latency_ms : ℕ) → Option ℕ
latency_of latency_ms = if latency_ms == 0 then None else Some latency_ms
