-- The class of a datagram. It depends only on the secret, the routes' names, visibility and access rules, the datagram
-- and its arrival time. The order of the tests is our choice.
use Rattle.std.specs.Prelude.{ℕ, Bool, false, ◌-◌, ◌/◌, ◌^◌, List, Option, None, Some, is_some, not, Result, Ok, Err, nat_le, nat_lt, ◌==◌, ◌++◌}
use Rattle.std.specs.Prelude.{slice_get, ◌&&◌, ◌||◌, if◌then◌else◌}
use Rattle.srt_types.specs.declared.shared.Peer.{Peer}
use Rattle.srt_types.specs.declared.shared.Role.{Role}
use Rattle.srt_types.specs.Items.{Datagram}
use Rattle.srt_types.specs.Words.{word}
use Rattle.srt_packet.specs.declared.reading.PacketFault.{PacketFault}
use Rattle.srt_packet.specs.Grammar as packets
use Rattle.srt_packet.specs.Grammar.{Packet, Body}
use Rattle.srt_packet.specs.Reading.{packet_in}
use Rattle.srt_hs.specs.declared.handshake.HsKind.{HsKind}
use Rattle.srt_hs.specs.declared.handshake.HsKind.TheVariants as kinds
use Rattle.srt_hs.specs.declared.handshake.HsFault.{HsFault}
use Rattle.srt_hs.specs.declared.writing.HsAnswer.{HsAnswer}
use Rattle.srt_hs.specs.declared.writing.AnswerKind.{AnswerKind}
use Rattle.srt_hs.specs.declared.writing.AnswerKind.TheVariants as answers
use Rattle.srt_hs.specs.declared.refusal_codes.RefusalCode.{RefusalCode}
use Rattle.srt_hs.specs.declared.refusal_codes.RefusalCode.TheVariants as codes
use Rattle.srt_hs.specs.Grammar.{Handshake}
use Rattle.srt_hs.specs.Reading.{handshake_in}
use Rattle.srt_hs.specs.KeyRequest.{Asked, key_request_in}
use Rattle.srt_hs.specs.Text.{answer_text}
use Rattle.srt_streamid.specs.declared.reading.Ask.{Ask}
use Rattle.srt_streamid.specs.declared.reading.AskFault.{AskFault}
use Rattle.srt_streamid.specs.Reading.{ask_in, key_of, name_of}
use Rattle.srt_cookie.specs.Cookie.{cookie_of, is_right, minute_of}
use Rattle.srt_lobby.specs.declared.classes.Class.{Class}
use Rattle.srt_lobby.specs.declared.classes.Class.TheVariants.{Answer, Route, Dropped}
use Rattle.srt_lobby.specs.declared.classes.Cause.TheVariants as causes
use Rattle.srt_lobby.specs.declared.names.RequestedRole.{RequestedRole}
use Rattle.srt_lobby.specs.Names.{RouteName, index_of, is_shown_at, knows_caller_at, admits_caller, secures}
use Rattle.srt_lobby.specs.Keys.{has_keys}

-- the 64 bytes of an answer: a handshake packet (section 3.2) with timestamp 0, to the caller's socket
abbrev pub answer_bytes : (id : ℕ) → HsAnswer → List ℕ
answer_bytes id answer = word 0x8000_0000 ++ word 0 ++ word 0 ++ word id ++ answer_text answer

-- the class of a handshake with this answer, which repeats the caller's initial sequence number as received
unfoldable pub answered : Handshake → AnswerKind → Class
answered hs what = Answer (answer_bytes hs.id (record { initial = hs.initial; what = what }))

-- the class of a conclusion that is refused with this code
abbrev pub refused : Handshake → RefusalCode → Class
refused hs code = answered hs (answers.Refusal code)

-- the first reason to refuse a conclusion that depends on nothing of the requested role but whether it is secured: not
-- version 5, an initial number that isn't below 2^31 or no HSREQ, keys for a role that isn't secured, a packet filter, a
-- connection group (section 4.3, table 7)
unfoldable pub reason_of : (secured : Bool) → Handshake → Option RefusalCode
reason_of secured hs =
    if not (hs.version == 5) then Some codes.Version
    else if nat_le (2 ^ 31) hs.initial || not (is_some hs.blocks.hsreq) then Some codes.Rogue
    else if not secured && hs.blocks.has_kmreq then Some codes.Unsecure
    else if hs.blocks.has_filter then Some codes.Filter
    else if hs.blocks.has_group then Some codes.Group
    else None

-- this role, of the route with this index
abbrev pub role_of : Role → Option ℕ → Option RequestedRole
role_of role (Some r) = Some (record { role = role; route = r })
role_of role None = None

-- the role of a visible route that a Stream ID requests, from the result of reading it
abbrev pub role_named : (names : List RouteName) → (bytes : List ℕ) → Result Ask AskFault → Option RequestedRole
role_named names bytes (Ok ask) = role_of ask.role (index_of names (name_of bytes ask))
role_named names bytes (Err fault) = None

-- the role of a visible route that a Stream ID requests, if there is one (appendix B)
abbrev pub role_requested : (names : List RouteName) → Option (List ℕ) → Option RequestedRole
role_requested names (Some bytes) = role_named names bytes (ask_in bytes)
role_requested names None = None

-- the key in a Stream ID, if it has one
abbrev pub key_brought : Option (List ℕ) → Option (List ℕ)
key_brought (Some bytes) = key_of bytes
key_brought None = None

-- whether there is a requested role, and it is secured
abbrev pub is_secured_role : (names : List RouteName) → Option RequestedRole → Bool
is_secured_role names (Some requested) = secures requested.role (slice_get names requested.route)
is_secured_role names None = false

-- the class of a conclusion that a route admits: for this route, or refused with 1011 for its keys
abbrev pub if_keyed : (keyed : Bool) → Handshake → (r : ℕ) → Class
if_keyed keyed hs r = if keyed then Route r else refused hs codes.Unsecure

-- the class of a conclusion for this role of a route, with these KMREQ blocks and this key
abbrev pub of_role : Peer → (keys : Asked) → Handshake → (brought : Option (List ℕ)) → RequestedRole → Option RouteName → Class
of_role peer keys hs brought requested name =
    if admits_caller peer requested.role brought name
    then if_keyed (has_keys requested.role keys name) hs requested.route else refused hs codes.Peer

-- the class of a conclusion for the requested role; without one it is refused with 1002
abbrev pub by_role : (names : List RouteName) → Peer → (keys : Asked) → Handshake → (brought : Option (List ℕ)) → Option RequestedRole → Class
by_role names peer keys hs brought (Some requested) = of_role peer keys hs brought requested (slice_get names requested.route)
by_role names peer keys hs brought None = refused hs codes.Peer

-- the class of a conclusion: refused for this reason; without one this other class
abbrev pub by_reason : Handshake → Option RefusalCode → (other : Class) → Class
by_reason hs (Some code) other = refused hs code
by_reason hs None other = other

-- the class of a conclusion that requests this role with this key
abbrev pub of_request : (names : List RouteName) → Peer → (keys : Asked) → Handshake → (brought : Option (List ℕ)) → Option RequestedRole → Class
of_request names peer keys hs brought requested =
    by_reason hs (reason_of (is_secured_role names requested) hs) (by_role names peer keys hs brought requested)

-- the class of a conclusion with a valid cookie and these KMREQ blocks
unfoldable pub of_conclusion : (names : List RouteName) → Peer → (keys : Asked) → Handshake → Class
of_conclusion names peer keys hs =
    of_request names peer keys hs (key_brought hs.blocks.stream_id) (role_requested names hs.blocks.stream_id)

-- the class of a handshake of this type (section 4.3.1)
abbrev pub by_kind : (secret : List ℕ) → (names : List RouteName) → Peer → (moment : ℕ) → (keys : Asked) → Handshake → HsKind → Class
by_kind secret names peer moment keys hs kinds.Induction = answered hs (answers.Induction (cookie_of secret peer (minute_of moment)))
by_kind secret names peer moment keys hs kinds.Conclusion =
    if is_right secret peer moment hs.cookie then of_conclusion names peer keys hs else Dropped causes.WrongCookie
by_kind secret names peer moment keys hs _ = Dropped causes.WrongKind

-- the class of a handshake with these KMREQ blocks, from the result of reading it
abbrev pub of_handshake : (secret : List ℕ) → (names : List RouteName) → Peer → (moment : ℕ) → (keys : Asked) → Result Handshake HsFault → Class
of_handshake secret names peer moment keys (Ok hs) = by_kind secret names peer moment keys hs hs.kind
of_handshake secret names peer moment keys (Err fault) = Dropped causes.Handshake

-- the class of a packet with destination 0, which has to be a handshake
abbrev pub of_body : (secret : List ℕ) → (names : List RouteName) → Peer → (moment : ℕ) → Body → Class
of_body secret names peer moment (packets.Handshake info) = of_handshake secret names peer moment (key_request_in info) (handshake_in info)
of_body secret names peer moment _ = Dropped causes.NotHandshake

-- the class of a packet for a visible route: the route's, if one of its lists contains the caller's address
abbrev pub if_known : (known : Bool) → (r : ℕ) → Class
if_known known r = if known then Route r else Dropped causes.NotAllowed

-- the class of a packet for the route with index place - 1, which has to exist, to be visible and to know the caller
abbrev pub by_place : (names : List RouteName) → Peer → (place : ℕ) → Class
by_place names peer place =
    if nat_lt 0 place && is_shown_at names (place - 1)
    then if_known (knows_caller_at names (place - 1) peer) (place - 1) else Dropped causes.UnknownId

-- the class of a packet to a session: from bit 20 up its socket ID is the route's index + 1 (our choice)
abbrev pub to_session : (names : List RouteName) → Peer → (dest : ℕ) → Class
to_session names peer dest = by_place names peer (dest / 2 ^ 20)

-- the class of a packet, from the result of reading it
abbrev pub of_packet : (secret : List ℕ) → (names : List RouteName) → Peer → (moment : ℕ) → Result Packet PacketFault → Class
of_packet secret names peer moment (Ok packet) =
    if packet.dest == 0 then of_body secret names peer moment packet.body else to_session names peer packet.dest
of_packet secret names peer moment (Err fault) = Dropped causes.Packet

-- the class of a datagram that arrives at this time, in microseconds
unfoldable pub class_of : (secret : List ℕ) → (names : List RouteName) → Datagram → (moment : ℕ) → Class
class_of secret names datagram moment = of_packet secret names datagram.peer moment (packet_in datagram.bytes)
