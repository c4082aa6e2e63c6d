-- The JSON object of each event. It has the text of its line, and beside it each fact of it as a member.
use Rattle.std.specs.Prelude.{ℕ, Bool, true, false, List, [], ◌++◌, Option, None, Some, option_map, codes}
use Rattle.srt_types.specs.Access.{bytes_in as key_bytes}
use Rattle.srt_types.specs.declared.shared.KeyLength.{KeyLength}
use Rattle.srt_types.specs.declared.shared.Peer.{Peer}
use Rattle.srt_types.specs.declared.shared.Role.{Role}
use Rattle.srt_types.specs.declared.shared.Role.TheVariants.{Publish, Request}
use Rattle.srt_types.specs.declared.shared.NotAdmitted.{NotAdmitted}
use Rattle.srt_types.specs.declared.shared.NotAdmitted.TheVariants as obstacles
use Rattle.srt_route.specs.declared.view.Traffic.{Traffic}
use Rattle.srt_log.specs.declared.events.Caller.{Caller}
use Rattle.srt_log.specs.declared.events.ClockDrift.{ClockDrift}
use Rattle.srt_log.specs.declared.events.EndReason.{EndReason}
use Rattle.srt_log.specs.declared.events.EndReason.TheVariants.{Shutdown, DrainedTooLong, Silence, WindowLost, StreamEnd, RouteClosed, GatewayStops, Unknown}
use Rattle.srt_log.specs.declared.events.StopCause.{StopCause}
use Rattle.srt_log.specs.declared.events.StopCause.TheVariants as causes
use Rattle.srt_log.specs.declared.events.Trouble.{Trouble}
use Rattle.srt_log.specs.declared.events.Trouble.TheVariants as troubles
use Rattle.srt_log.specs.declared.events.LogEvent.{LogEvent}
use Rattle.srt_log.specs.declared.events.LogEvent.TheVariants as events
use Rattle.srt_log.specs.Texts.{put, id_text, escaped_all}
use Rattle.srt_log.specs.Peers.{ip_text, peer_text, socket_text}
use Rattle.srt_log.specs.Snapshots.{packets_in, bytes_in, lost_in, resent_in}
use Rattle.srt_log.specs.Events.{event_text}
use Rattle.srt_log.specs.Members.{text_member, number_member, signed_member, flag_member, shown_member, number_if}
use Rattle.srt_log.specs.ConfigObjects.{config_kind, config_members}

-- what happened
abbrev pub kind_of : LogEvent → List ℕ
kind_of (events.Started ip port routes workers memory) = codes "started"
kind_of (events.Opened caller standby latency_ms key_length) = codes "opened"
kind_of (events.Ended caller reason lasted_ms traffic clock) = codes "ended"
kind_of (events.TookOver caller) = codes "took_over"
kind_of (events.Troubled caller trouble) = codes "troubled"
kind_of (events.Refused code peer name by) = codes "refused"
kind_of (events.RefusedAgain ip code name by count) = codes "refused_again"
kind_of (events.Limited route full reserved per_address) = codes "limited"
kind_of (events.Unseen route opened) = codes "unseen"
kind_of (events.Absent route minutes) = codes "absent"
kind_of (events.Config event) = config_kind event
kind_of events.Unblocked = codes "unblocked"
kind_of (events.Warned warning) = codes "warning"
kind_of (events.SocketFaults count) = codes "socket_faults"
kind_of (events.KernelDrops count) = codes "kernel_drops"
kind_of (events.LeftOut count) = codes "left_out"
kind_of (events.StopRequested cause) = codes "stop_requested"
kind_of events.Stopped = codes "stopped"

abbrev pub role_name : Role → List ℕ
role_name Publish = codes "publisher"
role_name Request = codes "subscriber"

-- the caller's address, and the socket ID of a session
abbrev pub peer_member : Peer → List ℕ
peer_member peer = text_member (codes "peer") (put [] (peer_text peer))

abbrev pub id_member : (id : ℕ) → List ℕ
id_member id = text_member (codes "socket") (put [] (id_text id))

unfoldable pub caller_members : Caller → List ℕ
caller_members caller =
    shown_member (codes "route") caller.route.now ++ text_member (codes "role") (role_name caller.role) ++ peer_member caller.peer
    ++ id_member caller.id

unfoldable pub opened_members : Caller → (standby : Bool) → (latency_ms : Option ℕ) → Option KeyLength → List ℕ
opened_members caller standby latency_ms key_length =
    caller_members caller ++ flag_member (codes "standby") standby ++ number_if (codes "latency_ms") latency_ms
    ++ number_if (codes "key_length_bytes") (option_map key_bytes key_length)

abbrev pub reason_name : EndReason → List ℕ
reason_name Shutdown = codes "shutdown"
reason_name DrainedTooLong = codes "drained_too_long"
reason_name Silence = codes "silence"
reason_name WindowLost = codes "window_lost"
reason_name StreamEnd = codes "stream_end"
reason_name RouteClosed = codes "route_closed"
reason_name GatewayStops = codes "gateway_stops"
reason_name Unknown = codes "unknown"

unfoldable pub counts_members : Traffic → List ℕ
counts_members traffic =
    number_member (codes "packets") (packets_in traffic) ++ number_member (codes "bytes") (bytes_in traffic)
    ++ number_member (codes "lost") (lost_in traffic) ++ number_member (codes "resent") (resent_in traffic)

unfoldable pub drift_members : ClockDrift → List ℕ
drift_members clock =
    signed_member (codes "clock_drift_ppm") clock.ppm ++ signed_member (codes "clock_correction_us") clock.correction

abbrev pub clock_members : Option ClockDrift → List ℕ
clock_members None = []
clock_members (Some clock) = drift_members clock

unfoldable pub ended_members : Caller → EndReason → (lasted_ms : ℕ) → Traffic → Option ClockDrift → List ℕ
ended_members caller reason lasted_ms traffic clock =
    caller_members caller ++ text_member (codes "reason") (reason_name reason) ++ number_member (codes "lasted_ms") lasted_ms
    ++ counts_members traffic ++ clock_members clock

abbrev pub trouble_name : Trouble → List ℕ
trouble_name troubles.Misdirected = codes "misdirected"
trouble_name troubles.FullWindow = codes "full_window"
trouble_name troubles.LatePackets = codes "late_packets"

unfoldable pub troubled_members : Caller → Trouble → List ℕ
troubled_members caller trouble = caller_members caller ++ text_member (codes "trouble") (trouble_name trouble)

-- what stood against a caller
abbrev pub list_name : Role → List ℕ
list_name Publish = codes "publish_from"
list_name Request = codes "request_from"

abbrev pub key_name : Role → List ℕ
key_name Publish = codes "publish_key"
key_name Request = codes "request_key"

abbrev pub obstacle_name : NotAdmitted → List ℕ
obstacle_name obstacles.NoName = codes "no_name"
obstacle_name obstacles.UnknownName = codes "unknown_name"
obstacle_name (obstacles.Address role) = list_name role
obstacle_name (obstacles.Key role) = key_name role

abbrev pub cause_member : Option NotAdmitted → List ℕ
cause_member None = []
cause_member (Some obstacle) = text_member (codes "cause") (obstacle_name obstacle)

unfoldable pub refused_members : (code : ℕ) → Peer → (name : List ℕ) → Option NotAdmitted → List ℕ
refused_members code peer name by =
    number_member (codes "code") code ++ peer_member peer ++ shown_member (codes "name") name ++ cause_member by

abbrev pub address_member : (ip : List ℕ) → List ℕ
address_member ip = text_member (codes "address") (put [] (ip_text ip))

unfoldable pub refused_again_members : (ip : List ℕ) → (code : ℕ) → (name : List ℕ) → Option NotAdmitted → (count : ℕ) → List ℕ
refused_again_members ip code name by count =
    number_member (codes "code") code ++ address_member ip ++ shown_member (codes "name") name ++ cause_member by
    ++ number_member (codes "count") count

unfoldable pub limited_members : (route : List ℕ) → (full reserved per_address : ℕ) → List ℕ
limited_members route full reserved per_address =
    shown_member (codes "route") route ++ number_member (codes "no_free_session") full ++ number_member (codes "reserved") reserved
    ++ number_member (codes "sessions_per_address") per_address

unfoldable pub unseen_members : (route : List ℕ) → (opened : ℕ) → List ℕ
unseen_members route opened = shown_member (codes "route") route ++ number_member (codes "sessions") opened

abbrev pub bind_member : (ip : List ℕ) → (port : ℕ) → List ℕ
bind_member ip port = text_member (codes "bind") (put [] (socket_text ip port))

unfoldable pub absent_members : (route : List ℕ) → (minutes : ℕ) → List ℕ
absent_members route minutes = shown_member (codes "route") route ++ number_member (codes "minutes") minutes

unfoldable pub started_members : (ip : List ℕ) → (port routes workers memory : ℕ) → List ℕ
started_members ip port routes workers memory =
    bind_member ip port ++ number_member (codes "routes") routes ++ number_member (codes "workers") workers
    ++ number_member (codes "memory_bytes") memory

abbrev pub stop_name : StopCause → List ℕ
stop_name causes.Signal = codes "signal"
stop_name causes.Duration = codes "duration"
stop_name causes.Rounds = codes "rounds"

-- the facts of an event
abbrev pub event_members : LogEvent → List ℕ
event_members (events.Started ip port routes workers memory) = started_members ip port routes workers memory
event_members (events.Opened caller standby latency_ms key_length) = opened_members caller standby latency_ms key_length
event_members (events.Ended caller reason lasted_ms traffic clock) = ended_members caller reason lasted_ms traffic clock
event_members (events.TookOver caller) = caller_members caller
event_members (events.Troubled caller trouble) = troubled_members caller trouble
event_members (events.Refused code peer name by) = refused_members code peer name.now by
event_members (events.RefusedAgain ip code name by count) = refused_again_members ip code name.now by count
event_members (events.Limited route full reserved per_address) = limited_members route.now full reserved per_address
event_members (events.Unseen route opened) = unseen_members route.now opened
event_members (events.Absent route minutes) = absent_members route.now minutes
event_members (events.Config event) = config_members event
event_members events.Unblocked = []
event_members (events.Warned warning) = shown_member (codes "warning") warning.now
event_members (events.SocketFaults count) = number_member (codes "count") count
event_members (events.KernelDrops count) = number_member (codes "count") count
event_members (events.LeftOut count) = number_member (codes "count") count
event_members (events.StopRequested cause) = text_member (codes "cause") (stop_name cause)
event_members events.Stopped = []

abbrev pub time_member : Option (List ℕ) → List ℕ
time_member None = []
time_member (Some time) = shown_member (codes "time") time

-- what happened, as the object's first member
unfoldable pub kind_member : (kind : List ℕ) → List ℕ
kind_member kind = codes "{\"event\":\"" ++ kind ++ codes "\""

-- the text of its line
abbrev pub line_member : LogEvent → List ℕ
line_member event = text_member (codes "text") (put [] (event_text event))

-- the object of an event, with its line feed: what happened, when, the text of its line, and its facts
unfoldable pub object_text : Option (List ℕ) → LogEvent → List ℕ
object_text time event =
    kind_member (kind_of event) ++ time_member time ++ line_member event ++ event_members event ++ codes "}\n"
