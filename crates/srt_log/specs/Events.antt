-- The line of each event.
use Rattle.std.specs.Prelude.{ℕ, ◌/◌, Bool, ◌==◌, List, [], ◌∷◌, ◌++◌, Option, None, Some, codes, decimal, length, if◌then◌else◌}
use Rattle.std.specs.Fmt.{signed_decimal}
use Rattle.srt_types.specs.declared.shared.KeyLength.{KeyLength}
use Rattle.srt_types.specs.declared.shared.KeyLength.TheVariants.{Aes128, Aes192, Aes256}
use Rattle.srt_types.specs.declared.shared.Peer.{Peer}
use Rattle.srt_types.specs.declared.shared.Role.{Role}
use Rattle.srt_types.specs.declared.shared.Role.TheVariants.{Publish, Request}
use Rattle.srt_route.specs.declared.view.Traffic.{Traffic}
use Rattle.srt_log.specs.declared.events.Caller.{Caller}
use Rattle.srt_log.specs.declared.events.ClockDrift.{ClockDrift}
use Rattle.srt_log.specs.declared.events.EndReason.{EndReason}
use Rattle.srt_log.specs.declared.events.EndReason.TheVariants.{Shutdown, DrainedTooLong, Silence, WindowLost, StreamEnd, RouteClosed, GatewayStops, Unknown}
use Rattle.srt_log.specs.declared.events.StopCause.{StopCause}
use Rattle.srt_log.specs.declared.events.StopCause.TheVariants as causes
use Rattle.srt_log.specs.declared.events.Trouble.{Trouble}
use Rattle.srt_log.specs.declared.events.Trouble.TheVariants as troubles
use Rattle.srt_types.specs.declared.shared.NotAdmitted.{NotAdmitted}
use Rattle.srt_types.specs.declared.shared.NotAdmitted.TheVariants as obstacles
use Rattle.srt_hs.specs.declared.refusal_codes.RefusalCode.TheVariants as refusals
use Rattle.srt_hs.specs.Refusals.{number_of, refusal_name}
use Rattle.srt_log.specs.declared.events.LogEvent.{LogEvent}
use Rattle.srt_log.specs.declared.events.LogEvent.TheVariants as events
use Rattle.srt_log.specs.Texts.{put, id_text, escaped_all}
use Rattle.srt_log.specs.Peers.{ip_text, peer_text, socket_text}
use Rattle.srt_log.specs.Snapshots.{packets_in, bytes_in, lost_in, resent_in}
use Rattle.srt_log.specs.ConfigEvents.{config_text}

abbrev pub role_text : Role → List ℕ
role_text Publish = codes "publisher "
role_text Request = codes "subscriber "

-- the route, the role and the peer of a session
abbrev pub caller_text : Caller → List ℕ
caller_text caller = escaped_all caller.route.now ++ codes ": " ++ role_text caller.role ++ peer_text caller.peer

abbrev pub latency_text : Option ℕ → List ℕ
latency_text None = []
latency_text (Some ms) = codes ", latency " ++ decimal ms ++ codes " ms"

-- which keys an encrypted session has
abbrev pub encryption_text : Option KeyLength → List ℕ
encryption_text None = []
encryption_text (Some Aes128) = codes ", encrypted with AES-128"
encryption_text (Some Aes192) = codes ", encrypted with AES-192"
encryption_text (Some Aes256) = codes ", encrypted with AES-256"

abbrev pub opened_text : (standby : Bool) → List ℕ
opened_text standby = if standby then codes " opened as standby, socket " else codes " opened, socket "

abbrev pub reason_text : EndReason → List ℕ
reason_text Shutdown = codes ", its peer sent a SHUTDOWN"
reason_text DrainedTooLong = codes ", its peer sent a SHUTDOWN, and not all of it could be delivered"
reason_text Silence = codes ", nothing arrived from its peer"
reason_text WindowLost = codes ", its window was lost"
reason_text StreamEnd = codes ", the stream is at its end"
reason_text RouteClosed = codes ", its route was closed"
reason_text GatewayStops = codes ", the gateway stops"
reason_text Unknown = codes ", its slot was taken again"

-- what a session counted
abbrev pub counts_text : Traffic → List ℕ
counts_text traffic =
    decimal (packets_in traffic) ++ codes " packets, " ++ decimal (bytes_in traffic) ++ codes " bytes, " ++ decimal (lost_in traffic) ++ codes " lost, "
    ++ decimal (resent_in traffic) ++ codes " resent"

-- how a publisher's clock was followed
abbrev pub clock_text : Option ClockDrift → List ℕ
clock_text None = []
clock_text (Some clock) =
    codes ", clock drift " ++ signed_decimal clock.ppm ++ codes " ppm, correction " ++ signed_decimal clock.correction ++ codes " us"

abbrev pub ended_text : Caller → EndReason → (lasted_ms : ℕ) → Traffic → Option ClockDrift → List ℕ
ended_text caller reason lasted_ms traffic clock =
    caller_text caller ++ codes " ended, socket " ++ id_text caller.id ++ reason_text reason ++ codes ", after " ++ decimal lasted_ms ++ codes " ms, "
    ++ counts_text traffic ++ clock_text clock

-- the number of a reason for a refusal, and its name
abbrev pub code_text : (code : ℕ) → List ℕ
code_text code = decimal code ++ codes " " ++ refusal_name code

abbrev pub started_text : (ip : List ℕ) → (port routes workers memory : ℕ) → List ℕ
started_text ip port routes workers memory =
    codes "serving at " ++ socket_text ip port ++ codes ", routes " ++ decimal routes ++ codes ", workers " ++ decimal workers ++ codes ", memory "
    ++ decimal (memory / 1024) ++ codes " KiB"

-- the list and the key of a role, as the configuration names them
abbrev pub list_text : Role → List ℕ
list_text Publish = codes ", not in publish_from"
list_text Request = codes ", not in request_from"

abbrev pub key_text : Role → List ℕ
key_text Publish = codes ", publish_key missing or wrong"
key_text Request = codes ", request_key missing or wrong"

-- what stood against a caller
abbrev pub refused_by_text : Option NotAdmitted → List ℕ
refused_by_text None = []
refused_by_text (Some obstacles.NoName) = codes ", no valid name"
refused_by_text (Some obstacles.UnknownName) = codes ", unknown name"
refused_by_text (Some (obstacles.Address role)) = list_text role
refused_by_text (Some (obstacles.Key role)) = key_text role

-- the name that was requested, if there is one
abbrev pub name_text : (name : List ℕ) → List ℕ
name_text name = if length name == 0 then [] else codes ", asked for \"" ++ escaped_all name ++ codes "\""

-- the reason of a refusal, and what was requested
abbrev pub asked_text : (code : ℕ) → (name : List ℕ) → Option NotAdmitted → List ℕ
asked_text code name by = code_text code ++ name_text name ++ refused_by_text by

abbrev pub refused_text : (code : ℕ) → Peer → (name : List ℕ) → Option NotAdmitted → List ℕ
refused_text code peer name by = peer_text peer ++ codes " refused, " ++ asked_text code name by

abbrev pub refused_again_text : (ip : List ℕ) → (code : ℕ) → (name : List ℕ) → Option NotAdmitted → (count : ℕ) → List ℕ
refused_again_text ip code name by count =
    ip_text ip ++ codes " refused " ++ decimal count ++ codes " more times, " ++ asked_text code name by

-- how many conclusions each limit of a route refused
abbrev pub limits_text : (full reserved per_address : ℕ) → List ℕ
limits_text full reserved per_address =
    decimal full ++ codes " no free session, " ++ decimal reserved ++ codes " reserved, " ++ decimal per_address ++ codes " sessions_per_address"

abbrev pub limited_text : (route : List ℕ) → (full reserved per_address : ℕ) → List ℕ
limited_text route full reserved per_address =
    escaped_all route ++ codes ": refused by its limits, " ++ code_text (number_of refusals.Resource) ++ codes ": "
    ++ limits_text full reserved per_address

abbrev pub unseen_text : (route : List ℕ) → (opened : ℕ) → List ℕ
unseen_text route opened = escaped_all route ++ codes ": " ++ decimal opened ++ codes " sessions opened and ended unseen"

-- how long a route that is expected to be on air has had no encoder; nothing as that begins
abbrev pub lasting_text : (minutes : ℕ) → List ℕ
lasting_text minutes = if minutes == 0 then [] else codes " for " ++ decimal minutes ++ codes " minutes"

abbrev pub absent_text : (route : List ℕ) → (minutes : ℕ) → List ℕ
absent_text route minutes = escaped_all route ++ codes ": expected on air, no encoder" ++ lasting_text minutes

abbrev pub unblocked_text : List ℕ
unblocked_text = codes "SIGINT or SIGTERM ends the gateway at once, without a report: bin/srtgw run blocks them"

abbrev pub cause_text : StopCause → List ℕ
cause_text causes.Signal = codes "stopping, by a signal"
cause_text causes.Duration = codes "stopping, the time of --for is over"
cause_text causes.Rounds = codes "stopping, all rounds were made"

-- words and a number
abbrev pub count_text : (words : List ℕ) → (count : ℕ) → List ℕ
count_text words count = words ++ decimal count

abbrev pub session_opened_text : Caller → (standby : Bool) → (latency_ms : Option ℕ) → Option KeyLength → List ℕ
session_opened_text caller standby latency_ms key_length =
    caller_text caller ++ opened_text standby ++ id_text caller.id ++ latency_text latency_ms ++ encryption_text key_length

abbrev pub took_over_text : Caller → List ℕ
took_over_text caller = caller_text caller ++ codes " took over, socket " ++ id_text caller.id

-- something is wrong with a session's stream
abbrev pub trouble_text : Trouble → List ℕ
trouble_text troubles.Misdirected = codes " sends data, but has not asked to publish (m=publish), socket "
trouble_text troubles.FullWindow = codes " fills its window and waits, buffer is too small, socket "
trouble_text troubles.LatePackets = codes " sends packets that arrive too late, socket "

abbrev pub troubled_text : Caller → Trouble → List ℕ
troubled_text caller trouble = caller_text caller ++ trouble_text trouble ++ id_text caller.id

-- the text of an event
abbrev pub event_text : LogEvent → List ℕ
event_text (events.Started ip port routes workers memory) = started_text ip port routes workers memory
event_text (events.Opened caller standby latency_ms key_length) = session_opened_text caller standby latency_ms key_length
event_text (events.Ended caller reason lasted_ms traffic clock) = ended_text caller reason lasted_ms traffic clock
event_text (events.TookOver caller) = took_over_text caller
event_text (events.Troubled caller trouble) = troubled_text caller trouble
event_text (events.Refused code peer name by) = refused_text code peer name.now by
event_text (events.RefusedAgain ip code name by count) = refused_again_text ip code name.now by count
event_text (events.Limited route full reserved per_address) = limited_text route.now full reserved per_address
event_text (events.Unseen route opened) = unseen_text route.now opened
event_text (events.Absent route minutes) = absent_text route.now minutes
event_text (events.Config event) = config_text event
event_text events.Unblocked = unblocked_text
event_text (events.Warned warning) = escaped_all warning.now
event_text (events.SocketFaults count) = count_text (codes "socket faults ") count
event_text (events.KernelDrops count) = count_text (codes "datagrams dropped by the kernel ") count
event_text (events.LeftOut count) = count_text (codes "lines left out ") count
event_text (events.StopRequested cause) = cause_text cause
event_text events.Stopped = codes "stopped"

-- the text of a time and a space; none without a time
abbrev pub time_text : Option (List ℕ) → List ℕ
time_text None = []
time_text (Some time) = escaped_all time ++ codes " "

-- the line of an event, with its line feed
abbrev pub line_text : Option (List ℕ) → LogEvent → List ℕ
line_text time event = put [] (time_text time ++ event_text event) ++ 10 ∷ []
