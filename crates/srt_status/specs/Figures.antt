-- The families of figures: their names, help and values.
use Rattle.std.specs.Prelude.{ℕ, suc, ◌-◌, ◌*◌, ◌/◌, ◌==◌, ◌&&◌, ℤ, pos, negsuc, neg_ℤ, Bool, true, false, if◌then◌else◌}
use Rattle.std.specs.Prelude.{List, [], ◌∷◌, codes, Option, None, Some}
use Rattle.srt_pub.specs.declared.counts.Counts.{Counts as ReceivedCounts}
use Rattle.srt_pub.specs.declared.statistics.Statistics.{Statistics as PublisherStatistics}
use Rattle.srt_sub.specs.declared.counts.Counts.{Counts as QueuedCounts}
use Rattle.srt_sub.specs.declared.counts.Sendings.{Sendings}
use Rattle.srt_sub.specs.declared.statistics.Statistics.{Statistics as SubscriberStatistics}
use Rattle.srt_hs.specs.declared.refusal_codes.RefusalCode.{RefusalCode}
use Rattle.srt_hs.specs.declared.refusal_codes.RefusalCode.TheVariants as reasons
use Rattle.srt_types.specs.Access.{bytes_in}
use Rattle.srt_types.specs.declared.shared.KeyLength.{KeyLength}
use Rattle.srt_route.specs.declared.view.SessionView.{SessionView}
use Rattle.srt_route.specs.declared.view.Traffic.{Traffic}
use Rattle.srt_route.specs.declared.view.Traffic.TheVariants.{Received, Sent}
use Rattle.srt_status.specs.declared.gateway.GatewayStatus.{GatewayStatus}
use Rattle.srt_status.specs.declared.gateway.RefusalCounts.{RefusalCounts}
use Rattle.srt_status.specs.declared.route_status.RouteStatus.{RouteStatus}
use Rattle.srt_status.specs.declared.route_status.LimitCounts.{LimitCounts}
use Rattle.srt_status.specs.declared.expectation.Expectation.{Expectation}
use Rattle.srt_status.specs.Expectations.{seconds_absent}
use Rattle.srt_status.specs.declared.figures.Amount.{Amount}
use Rattle.srt_status.specs.declared.figures.Amount.TheVariants.{Number, Micros, SignedMicros, PartsPerMillion}
use Rattle.srt_status.specs.declared.figures.Count.{Count}
use Rattle.srt_status.specs.declared.figures.Count.TheVariants as counts
use Rattle.srt_status.specs.declared.figures.Gauge.{Gauge}
use Rattle.srt_status.specs.declared.figures.Gauge.TheVariants as gauges
use Rattle.srt_status.specs.declared.figures.Total.{Total}
use Rattle.srt_status.specs.declared.figures.Total.TheVariants as totals
use Rattle.srt_status.specs.declared.figures.RouteFigure.{RouteFigure}
use Rattle.srt_status.specs.declared.figures.RouteFigure.TheVariants as figures

-- a truth value as a number
abbrev pub number_of : Bool → ℕ
number_of true = 1
number_of false = 0

-- the name of a count behind its prefix
abbrev pub count_name : Count → List ℕ
count_name counts.ReceivedPackets = codes "received_packets_total"
count_name counts.ReceivedBytes = codes "received_bytes_total"
count_name counts.DeliveredPackets = codes "delivered_packets_total"
count_name counts.RepeatedPackets = codes "repeated_packets_total"
count_name counts.LatePackets = codes "late_packets_total"
count_name counts.AheadPackets = codes "ahead_packets_total"
count_name counts.ReportedLost = codes "reported_lost_packets_total"
count_name counts.NaksSent = codes "naks_sent_total"
count_name counts.FullWindowAcks = codes "full_window_acks_total"
count_name counts.GivenUp = codes "given_up_packets_total"
count_name counts.QueuedPackets = codes "queued_packets_total"
count_name counts.QueuedBytes = codes "queued_bytes_total"
count_name counts.SentPackets = codes "sent_packets_total"
count_name counts.ResentPackets = codes "resent_packets_total"
count_name counts.NaksTaken = codes "naks_taken_total"
count_name counts.Misdirected = codes "misdirected_packets_total"

-- its help
abbrev pub count_help : Count → List ℕ
count_help counts.ReceivedPackets = codes "Data packets received from publishers, each counted once."
count_help counts.ReceivedBytes = codes "Payload bytes received from publishers."
count_help counts.DeliveredPackets = codes "Packets of publishers that were delivered to the subscribers."
count_help counts.RepeatedPackets = codes "Packets received again from publishers."
count_help counts.LatePackets = codes "Packets received too late from publishers."
count_help counts.AheadPackets = codes "Packets received ahead of the window from publishers."
count_help counts.ReportedLost = codes "Packets of publishers that were reported as lost."
count_help counts.NaksSent = codes "NAKs sent to publishers."
count_help counts.FullWindowAcks = codes "Full ACKs sent to publishers while their window was full."
count_help counts.GivenUp = codes "Packets given up: of publishers as missing, of subscribers as too late."
count_help counts.QueuedPackets = codes "Payloads queued for subscribers."
count_help counts.QueuedBytes = codes "Payload bytes queued for subscribers."
count_help counts.SentPackets = codes "Data packets sent to subscribers for the first time."
count_help counts.ResentPackets = codes "Data packets sent to subscribers again."
count_help counts.NaksTaken = codes "NAKs taken from subscribers."
count_help counts.Misdirected = codes "Data packets from clients that did not request to publish."

-- the data packets that publishers' sessions count under nothing else: repeats of packets that were received before
abbrev pub repeats_of : ReceivedCounts → ℕ
repeats_of counts = counts.arrived - counts.received - counts.late - counts.ahead

-- what publishers' sessions count of it
abbrev pub publisher_count : Count → ReceivedCounts → Option ℕ
publisher_count counts.ReceivedPackets counts = Some counts.received
publisher_count counts.ReceivedBytes counts = Some counts.bytes
publisher_count counts.DeliveredPackets counts = Some counts.delivered
publisher_count counts.RepeatedPackets counts = Some (repeats_of counts)
publisher_count counts.LatePackets counts = Some counts.late
publisher_count counts.AheadPackets counts = Some counts.ahead
publisher_count counts.ReportedLost counts = Some counts.reported_lost
publisher_count counts.NaksSent counts = Some counts.naks
publisher_count counts.FullWindowAcks counts = Some counts.full_window_acks
publisher_count counts.GivenUp counts = Some counts.given_up
publisher_count counts.QueuedPackets counts = None
publisher_count counts.QueuedBytes counts = None
publisher_count counts.SentPackets counts = None
publisher_count counts.ResentPackets counts = None
publisher_count counts.NaksTaken counts = None
publisher_count counts.Misdirected counts = None

-- what subscribers' sessions count of it
abbrev pub subscriber_count : Count → QueuedCounts → Sendings → Option ℕ
subscriber_count counts.ReceivedPackets counts sendings = None
subscriber_count counts.ReceivedBytes counts sendings = None
subscriber_count counts.DeliveredPackets counts sendings = None
subscriber_count counts.RepeatedPackets counts sendings = None
subscriber_count counts.LatePackets counts sendings = None
subscriber_count counts.AheadPackets counts sendings = None
subscriber_count counts.ReportedLost counts sendings = None
subscriber_count counts.NaksSent counts sendings = None
subscriber_count counts.FullWindowAcks counts sendings = None
subscriber_count counts.GivenUp counts sendings = Some counts.given_up
subscriber_count counts.QueuedPackets counts sendings = Some counts.queued
subscriber_count counts.QueuedBytes counts sendings = Some counts.bytes
subscriber_count counts.SentPackets counts sendings = Some sendings.fresh
subscriber_count counts.ResentPackets counts sendings = Some sendings.resent
subscriber_count counts.NaksTaken counts sendings = Some counts.naks
subscriber_count counts.Misdirected counts sendings = Some counts.misdirected

-- the same of one session
abbrev pub traffic_count : Count → Traffic → Option ℕ
traffic_count count (Received x) = publisher_count count x.counts
traffic_count count (Sent x) = subscriber_count count x.counts x.sendings

abbrev pub session_count : Count → SessionView → Option ℕ
session_count count session = traffic_count count session.traffic

-- the name of a state behind its prefix
abbrev pub gauge_name : Gauge → List ℕ
gauge_name gauges.Active = codes "active"
gauge_name gauges.Open = codes "open_seconds"
gauge_name gauges.Silent = codes "silent_seconds"
gauge_name gauges.Latency = codes "latency_seconds"
gauge_name gauges.RoundTrip = codes "round_trip_seconds"
gauge_name gauges.RoundTripVariance = codes "round_trip_variance_seconds"
gauge_name gauges.WindowUsed = codes "window_used_packets"
gauge_name gauges.WindowAvailable = codes "window_available_packets"
gauge_name gauges.FreePlaces = codes "free_packets"
gauge_name gauges.InFlight = codes "in_flight_packets"
gauge_name gauges.FlowWindow = codes "flow_window_packets"
gauge_name gauges.ClockDrift = codes "publisher_clock_drift_ppm"
gauge_name gauges.ClockCorrection = codes "publisher_clock_correction_seconds"
gauge_name gauges.KeyLength = codes "key_length_bytes"

-- its help
abbrev pub gauge_help : Gauge → List ℕ
gauge_help gauges.Active = codes "1 for the active publisher of a route, 0 for the standby."
gauge_help gauges.Open = codes "The time since the session was opened."
gauge_help gauges.Silent = codes "The time since the last packet from the client."
gauge_help gauges.Latency = codes "The delay that was agreed with the caller."
gauge_help gauges.RoundTrip = codes "The smoothed round-trip time."
gauge_help gauges.RoundTripVariance = codes "The variance of the round-trip time."
gauge_help gauges.WindowUsed = codes "The places of a publisher's window in use."
gauge_help gauges.WindowAvailable = codes "The places of a publisher's window that are available."
gauge_help gauges.FreePlaces = codes "The free places of a subscriber's buffer."
gauge_help gauges.InFlight = codes "The packets of a subscriber in flight."
gauge_help gauges.FlowWindow = codes "The flow window that a subscriber reported last."
gauge_help gauges.ClockDrift = codes "How much a publisher's clock is off, over its session: positive for one that is slow."
gauge_help gauges.ClockCorrection = codes "By how much delivery follows a publisher's clock: positive for one that is slow."
gauge_help gauges.KeyLength = codes "The length of the keys of an encrypted session: 16, 24 or 32."

-- this of a publisher's session
abbrev pub publisher_amount : Gauge → (active : Bool) → PublisherStatistics → Option Amount
publisher_amount gauges.Active active x = Some (Number (number_of active))
publisher_amount gauges.Open active x = None
publisher_amount gauges.Silent active x = None
publisher_amount gauges.Latency active x = None
publisher_amount gauges.RoundTrip active x = None
publisher_amount gauges.RoundTripVariance active x = None
publisher_amount gauges.WindowUsed active x = Some (Number x.in_use)
publisher_amount gauges.WindowAvailable active x = Some (Number x.available)
publisher_amount gauges.FreePlaces active x = None
publisher_amount gauges.InFlight active x = None
publisher_amount gauges.FlowWindow active x = None
publisher_amount gauges.ClockDrift active x = None
publisher_amount gauges.ClockCorrection active x = None
publisher_amount gauges.KeyLength active x = None

-- this of a subscriber's session
abbrev pub subscriber_amount : Gauge → SubscriberStatistics → Option Amount
subscriber_amount gauges.Active x = None
subscriber_amount gauges.Open x = None
subscriber_amount gauges.Silent x = None
subscriber_amount gauges.Latency x = None
subscriber_amount gauges.RoundTrip x = None
subscriber_amount gauges.RoundTripVariance x = None
subscriber_amount gauges.WindowUsed x = None
subscriber_amount gauges.WindowAvailable x = None
subscriber_amount gauges.FreePlaces x = Some (Number x.room)
subscriber_amount gauges.InFlight x = Some (Number x.in_flight)
subscriber_amount gauges.FlowWindow x = Some (Number x.flow_window)
subscriber_amount gauges.ClockDrift x = None
subscriber_amount gauges.ClockCorrection x = None
subscriber_amount gauges.KeyLength x = None

-- a latency; a session in buffer mode has 0, which isn't shown
abbrev pub latency_amount : (latency_ms : ℕ) → Option Amount
latency_amount latency_ms = if latency_ms == 0 then None else Some (Micros (latency_ms * 1000))

abbrev pub round_trip_of : Traffic → ℕ
round_trip_of (Received x) = x.rtt
round_trip_of (Sent x) = x.rtt

abbrev pub variance_of : Traffic → ℕ
variance_of (Received x) = x.variance
variance_of (Sent x) = x.variance

-- a time of the round trip; none as long as nothing is measured, when both are those with which each session begins
abbrev pub trip_amount : (round_trip variance : ℕ) → (micros : ℕ) → Option Amount
trip_amount round_trip variance micros = if round_trip == 100_000 && variance == 50_000 then None else Some (Micros micros)

abbrev pub traffic_amount : Gauge → (active : Bool) → Traffic → Option Amount
traffic_amount gauge active (Received x) = publisher_amount gauge active x
traffic_amount gauge active (Sent x) = subscriber_amount gauge x

-- the microseconds by which delivery follows the clock of a publisher; none where the clock isn't followed
abbrev pub correction_of : Traffic → Option ℤ
correction_of (Received x) = x.correction
correction_of (Sent x) = None

-- a correction in parts per million of the time since the opening, in microseconds, rounded toward 0; 0 at the opening
abbrev pub ppm_of : (correction : ℤ) → (elapsed : ℕ) → ℤ
ppm_of (pos n) elapsed = if elapsed == 0 then pos 0 else pos (1_000_000 * n / elapsed)
ppm_of (negsuc n) elapsed = if elapsed == 0 then pos 0 else neg_ℤ (pos (1_000_000 * suc n / elapsed))

abbrev pub drift_amount : Option ℤ → (elapsed : ℕ) → Option Amount
drift_amount None elapsed = None
drift_amount (Some correction) elapsed = Some (PartsPerMillion (ppm_of correction elapsed))

abbrev pub correction_amount : Option ℤ → Option Amount
correction_amount None = None
correction_amount (Some correction) = Some (SignedMicros correction)

-- the length of the keys of an encrypted session, in bytes
abbrev pub key_amount : Option KeyLength → Option Amount
key_amount None = None
key_amount (Some key_length) = Some (Number (bytes_in key_length))

-- this of a session at a time
abbrev pub gauge_amount : Gauge → (moment : ℕ) → SessionView → Option Amount
gauge_amount gauges.Active moment session = traffic_amount gauges.Active session.is_active session.traffic
gauge_amount gauges.Open moment session = Some (Micros (moment - session.opened))
gauge_amount gauges.Silent moment session = Some (Micros (moment - session.heard))
gauge_amount gauges.Latency moment session = latency_amount session.latency_ms
gauge_amount gauges.RoundTrip moment session =
    trip_amount (round_trip_of session.traffic) (variance_of session.traffic) (round_trip_of session.traffic)
gauge_amount gauges.RoundTripVariance moment session =
    trip_amount (round_trip_of session.traffic) (variance_of session.traffic) (variance_of session.traffic)
gauge_amount gauges.WindowUsed moment session = traffic_amount gauges.WindowUsed session.is_active session.traffic
gauge_amount gauges.WindowAvailable moment session = traffic_amount gauges.WindowAvailable session.is_active session.traffic
gauge_amount gauges.FreePlaces moment session = traffic_amount gauges.FreePlaces session.is_active session.traffic
gauge_amount gauges.InFlight moment session = traffic_amount gauges.InFlight session.is_active session.traffic
gauge_amount gauges.FlowWindow moment session = traffic_amount gauges.FlowWindow session.is_active session.traffic
gauge_amount gauges.ClockDrift moment session = drift_amount (correction_of session.traffic) (moment - session.opened)
gauge_amount gauges.ClockCorrection moment session = correction_amount (correction_of session.traffic)
gauge_amount gauges.KeyLength moment session = key_amount session.key_length

-- the name of what is said of the gateway, behind its prefix
abbrev pub total_name : Total → List ℕ
total_name totals.Polling = codes "up"
total_name totals.Uptime = codes "uptime_seconds"
total_name totals.Routes = codes "configured_routes"
total_name totals.ResidentMemory = codes "resident_memory_bytes"
total_name totals.ReceiveBuffer = codes "receive_buffer_bytes"
total_name totals.KernelDrops = codes "kernel_dropped_datagrams_total"
total_name totals.Read = codes "poller_read_datagrams_total"
total_name totals.Answered = codes "poller_answered_datagrams_total"
total_name totals.Accepted = codes "poller_accepted_datagrams_total"
total_name totals.Full = codes "poller_full_datagrams_total"
total_name totals.Dropped = codes "poller_dropped_datagrams_total"
total_name totals.NotAllowed = codes "poller_not_allowed_datagrams_total"
total_name totals.Memory = codes "poller_memory_datagrams_total"
total_name totals.Sent = codes "poller_sent_datagrams_total"
total_name totals.Lost = codes "poller_lost_datagrams_total"
total_name totals.Faults = codes "poller_faults_total"
total_name totals.NoName = codes "lobby_refused_no_name_total"
total_name totals.UnknownName = codes "lobby_refused_unknown_name_total"
total_name totals.PublishFrom = codes "lobby_refused_publish_from_total"
total_name totals.RequestFrom = codes "lobby_refused_request_from_total"
total_name totals.PublishKey = codes "lobby_refused_publish_key_total"
total_name totals.RequestKey = codes "lobby_refused_request_key_total"
total_name totals.ChangesTaken = codes "config_changes_taken_total"
total_name totals.ChangesRefused = codes "config_changes_refused_total"
total_name totals.Indexes = codes "used_indexes"

-- its help
abbrev pub total_help : Total → List ℕ
total_help totals.Polling = codes "1 if the poller made a round within the last two seconds, else 0."
total_help totals.Uptime = codes "The time since the start."
total_help totals.Routes = codes "The routes of the configuration."
total_help totals.ResidentMemory = codes "The resident memory of the process."
total_help totals.ReceiveBuffer = codes "The buffer of the socket, as the kernel gave it."
total_help totals.KernelDrops = codes "Datagrams dropped by the kernel, since the socket's buffer was full."
total_help totals.Read = codes "Datagrams read from the socket."
total_help totals.Answered = codes "Datagrams answered before they belonged to a route."
total_help totals.Accepted = codes "Datagrams accepted by the inbox of their route."
total_help totals.Full = codes "Datagrams for a route whose inbox was full."
total_help totals.Dropped = codes "Datagrams dropped, since they belong to no route and no handshake."
total_help totals.NotAllowed = codes "Dropped datagrams to a route from an address in none of its lists."
total_help totals.Memory = codes "Datagrams dropped because there was no memory for their copy."
total_help totals.Sent = codes "Datagrams sent."
total_help totals.Lost = codes "Datagrams that could not be sent."
total_help totals.Faults = codes "Failed waits, reads and sends."
total_help totals.NoName = codes "Conclusions refused with 1002: no Stream ID, or one with a fault."
total_help totals.UnknownName = codes "Conclusions refused with 1002: no route has the name."
total_help totals.PublishFrom = codes "Conclusions refused with 1002: the address is not in publish_from."
total_help totals.RequestFrom = codes "Conclusions refused with 1002: the address is not in request_from."
total_help totals.PublishKey = codes "Conclusions refused with 1002: publish_key is missing or wrong."
total_help totals.RequestKey = codes "Conclusions refused with 1002: request_key is missing or wrong."
total_help totals.ChangesTaken = codes "Changed configurations that were taken."
total_help totals.ChangesRefused = codes "Changed configurations that were not taken."
total_help totals.Indexes = codes "Indexes that routes have used since the start, of 511."

-- its type
abbrev pub total_kind : Total → List ℕ
total_kind totals.Polling = codes "gauge"
total_kind totals.Uptime = codes "gauge"
total_kind totals.Routes = codes "gauge"
total_kind totals.ResidentMemory = codes "gauge"
total_kind totals.ReceiveBuffer = codes "gauge"
total_kind totals.KernelDrops = codes "counter"
total_kind totals.Read = codes "counter"
total_kind totals.Answered = codes "counter"
total_kind totals.Accepted = codes "counter"
total_kind totals.Full = codes "counter"
total_kind totals.Dropped = codes "counter"
total_kind totals.NotAllowed = codes "counter"
total_kind totals.Memory = codes "counter"
total_kind totals.Sent = codes "counter"
total_kind totals.Lost = codes "counter"
total_kind totals.Faults = codes "counter"
total_kind totals.NoName = codes "counter"
total_kind totals.UnknownName = codes "counter"
total_kind totals.PublishFrom = codes "counter"
total_kind totals.RequestFrom = codes "counter"
total_kind totals.PublishKey = codes "counter"
total_kind totals.RequestKey = codes "counter"
total_kind totals.ChangesTaken = codes "counter"
total_kind totals.ChangesRefused = codes "counter"
total_kind totals.Indexes = codes "gauge"

-- this of the gateway
abbrev pub total_value : Total → GatewayStatus → Option ℕ
total_value totals.Polling gateway = Some (number_of gateway.polling)
total_value totals.Uptime gateway = Some gateway.uptime_seconds
total_value totals.Routes gateway = Some gateway.routes
total_value totals.ResidentMemory gateway = gateway.resident_bytes
total_value totals.ReceiveBuffer gateway = gateway.receive_buffer_bytes
total_value totals.KernelDrops gateway = gateway.kernel_drops
total_value totals.Read gateway = Some gateway.poller.read
total_value totals.Answered gateway = Some gateway.poller.answered
total_value totals.Accepted gateway = Some gateway.poller.accepted
total_value totals.Full gateway = Some gateway.poller.full
total_value totals.Dropped gateway = Some gateway.poller.dropped
total_value totals.NotAllowed gateway = Some gateway.poller.not_allowed
total_value totals.Memory gateway = Some gateway.poller.memory
total_value totals.Sent gateway = Some gateway.poller.sent
total_value totals.Lost gateway = Some gateway.poller.lost
total_value totals.Faults gateway = Some gateway.poller.faults
total_value totals.NoName gateway = Some gateway.causes.no_name
total_value totals.UnknownName gateway = Some gateway.causes.unknown_name
total_value totals.PublishFrom gateway = Some gateway.causes.publish_from
total_value totals.RequestFrom gateway = Some gateway.causes.request_from
total_value totals.PublishKey gateway = Some gateway.causes.publish_key
total_value totals.RequestKey gateway = Some gateway.causes.request_key
total_value totals.ChangesTaken gateway = Some gateway.changes.taken
total_value totals.ChangesRefused gateway = Some gateway.changes.refused
total_value totals.Indexes gateway = Some gateway.changes.indexes

-- all counts, in the order in which they are shown
abbrev pub all_counts : List Count
all_counts =
    counts.ReceivedPackets ∷ counts.ReceivedBytes ∷ counts.DeliveredPackets ∷ counts.RepeatedPackets ∷ counts.LatePackets
    ∷ counts.AheadPackets ∷ counts.ReportedLost ∷ counts.NaksSent ∷ counts.FullWindowAcks ∷ counts.GivenUp ∷ counts.QueuedPackets
    ∷ counts.QueuedBytes ∷ counts.SentPackets ∷ counts.ResentPackets ∷ counts.NaksTaken ∷ counts.Misdirected ∷ []

-- all states of an open session, in the order in which they are shown
abbrev pub all_gauges : List Gauge
all_gauges =
    gauges.Active ∷ gauges.Open ∷ gauges.Silent ∷ gauges.Latency ∷ gauges.RoundTrip ∷ gauges.RoundTripVariance ∷ gauges.WindowUsed
    ∷ gauges.WindowAvailable ∷ gauges.FreePlaces ∷ gauges.InFlight ∷ gauges.FlowWindow ∷ gauges.ClockDrift ∷ gauges.ClockCorrection
    ∷ gauges.KeyLength ∷ []

-- all that is said of the gateway, in the order in which they are shown
abbrev pub all_totals : List Total
all_totals =
    totals.Polling ∷ totals.Uptime ∷ totals.Routes ∷ totals.ResidentMemory ∷ totals.ReceiveBuffer ∷ totals.KernelDrops ∷ totals.Read
    ∷ totals.Answered ∷ totals.Accepted ∷ totals.Full ∷ totals.Dropped ∷ totals.NotAllowed ∷ totals.Memory ∷ totals.Sent ∷ totals.Lost ∷ totals.Faults
    ∷ totals.NoName ∷ totals.UnknownName ∷ totals.PublishFrom ∷ totals.RequestFrom ∷ totals.PublishKey ∷ totals.RequestKey
    ∷ totals.ChangesTaken ∷ totals.ChangesRefused ∷ totals.Indexes ∷ []

-- how many conclusions were refused for a reason (section 4.3, table 7)
abbrev pub refusal_count : RefusalCode → RefusalCounts → ℕ
refusal_count reasons.Peer counts = counts.peer
refusal_count reasons.Resource counts = counts.resource
refusal_count reasons.Rogue counts = counts.rogue
refusal_count reasons.Version counts = counts.version
refusal_count reasons.BadSecret counts = counts.bad_secret
refusal_count reasons.Unsecure counts = counts.unsecure
refusal_count reasons.MessageApi counts = counts.message_api
refusal_count reasons.Filter counts = counts.filter
refusal_count reasons.Group counts = counts.group

-- all reasons, in the order of their numbers
abbrev pub all_reasons : List RefusalCode
all_reasons =
    reasons.Peer ∷ reasons.Resource ∷ reasons.Rogue ∷ reasons.Version ∷ reasons.BadSecret ∷ reasons.Unsecure ∷ reasons.MessageApi ∷ reasons.Filter
    ∷ reasons.Group ∷ []

-- the name of what is shown of a route, behind its prefix
abbrev pub figure_name : RouteFigure → List ℕ
figure_name figures.Allowed = codes "allowed_sessions"
figure_name figures.Opened = codes "opened_sessions_total"
figure_name figures.TakeOvers = codes "take_overs_total"
figure_name figures.Expected = codes "expected"
figure_name figures.Absent = codes "absent_seconds"
figure_name figures.RefusedFull = codes "refused_sessions_total"
figure_name figures.RefusedReserved = codes "refused_reserved_total"
figure_name figures.RefusedAddress = codes "refused_sessions_per_address_total"

-- its help
abbrev pub figure_help : RouteFigure → List ℕ
figure_help figures.Allowed = codes "The greatest number of open sessions."
figure_help figures.Opened = codes "Sessions opened since the start."
figure_help figures.TakeOvers = codes "How often a standby became the active publisher."
figure_help figures.Expected = codes "1 for a route that is expected to be on air."
figure_help figures.Absent = codes "How long a route that is expected to be on air has had no active publisher, else 0."
figure_help figures.RefusedFull = codes "Conclusions refused with 1003: no slot is free."
figure_help figures.RefusedReserved = codes "Conclusions refused with 1003: the free slots are reserved for publishers."
figure_help figures.RefusedAddress = codes "Conclusions refused with 1003: the address has all its sessions."

-- its type
abbrev pub figure_kind : RouteFigure → List ℕ
figure_kind figures.Allowed = codes "gauge"
figure_kind figures.Opened = codes "counter"
figure_kind figures.TakeOvers = codes "counter"
figure_kind figures.Expected = codes "gauge"
figure_kind figures.Absent = codes "gauge"
figure_kind figures.RefusedFull = codes "counter"
figure_kind figures.RefusedReserved = codes "counter"
figure_kind figures.RefusedAddress = codes "counter"

-- the refusals with 1003 by this limit
abbrev pub limit_figure : RouteFigure → LimitCounts → Option ℕ
limit_figure figures.RefusedFull limits = Some limits.sessions
limit_figure figures.RefusedReserved limits = Some limits.reserved
limit_figure figures.RefusedAddress limits = Some limits.sessions_per_address
limit_figure _ limits = None

abbrev pub limit_if_known : RouteFigure → Option LimitCounts → Option ℕ
limit_if_known figure (Some limits) = limit_figure figure limits
limit_if_known figure None = None

-- a route of which it is expected
abbrev pub one_if_some : Option Expectation → Option ℕ
one_if_some None = None
one_if_some (Some e) = Some 1

abbrev pub absent_if : Option Expectation → Option ℕ
absent_if None = None
absent_if (Some e) = Some (seconds_absent e)

-- this of a route
abbrev pub route_figure : RouteFigure → RouteStatus → Option ℕ
route_figure figures.Allowed route = Some route.sessions_allowed
route_figure figures.Opened route = Some route.opened
route_figure figures.TakeOvers route = route.take_overs
route_figure figures.Expected route = one_if_some route.expectation
route_figure figures.Absent route = absent_if route.expectation
route_figure figure route = limit_if_known figure route.limits

-- all of them, in the order in which they are shown
abbrev pub all_figures : List RouteFigure
all_figures =
    figures.Allowed ∷ figures.Opened ∷ figures.TakeOvers ∷ figures.Expected ∷ figures.Absent ∷ figures.RefusedFull ∷ figures.RefusedReserved
    ∷ figures.RefusedAddress ∷ []
