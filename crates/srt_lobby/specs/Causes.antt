-- The cause for which the lobby refuses a conclusion with 1002 (SRT_REJ_PEER): the first one, in the order in which
-- they are checked. The causes are our choice.
use Rattle.std.specs.Prelude.{◌≡◌, ℕ, Bool, List, Option, None, Some, Result, Ok, Err, if◌then◌else◌}
use Rattle.std.specs.Prelude.{slice_get}
use Rattle.srt_types.specs.declared.shared.Peer.{Peer}
use Rattle.srt_types.specs.declared.shared.Role.{Role}
use Rattle.srt_types.specs.Access.{RoleTerms, in_role, lists, is_right_key}
use Rattle.srt_types.specs.Items.{Datagram}
use Rattle.srt_packet.specs.declared.reading.PacketFault.{PacketFault}
use Rattle.srt_packet.specs.Grammar as packets
use Rattle.srt_packet.specs.Grammar.{Packet, Body}
use Rattle.srt_packet.specs.Reading.{packet_in}
use Rattle.srt_hs.specs.declared.handshake.HsFault.{HsFault}
use Rattle.srt_hs.specs.declared.refusal_codes.RefusalCode.{RefusalCode}
use Rattle.srt_hs.specs.declared.refusal_codes.RefusalCode.TheVariants as codes
use Rattle.srt_hs.specs.Grammar.{Handshake}
use Rattle.srt_hs.specs.KeyRequest.{Asked}
use Rattle.srt_hs.specs.Reading.{handshake_in}
use Rattle.srt_streamid.specs.declared.reading.Ask.{Ask}
use Rattle.srt_streamid.specs.declared.reading.AskFault.{AskFault}
use Rattle.srt_streamid.specs.Reading.{ask_in, key_of, name_of}
use Rattle.srt_types.specs.declared.shared.NotAdmitted.{NotAdmitted}
use Rattle.srt_types.specs.declared.shared.NotAdmitted.TheVariants.{NoName, UnknownName, Address, Key}
use Rattle.srt_lobby.specs.declared.names.RequestedRole.{RequestedRole}
use Rattle.srt_lobby.specs.Names.{RouteName, index_of}
use Rattle.srt_lobby.specs.Keys.{has_keys}
use Rattle.srt_lobby.specs.Lobby.{reason_of, is_secured_role, role_requested, if_keyed, of_conclusion, refused}

-- why a caller with this key isn't admitted in this role; the list is checked before the key
abbrev pub cause_in_role : RoleTerms → Role → Peer → (brought : Option (List ℕ)) → Option NotAdmitted
cause_in_role terms role peer brought =
    if lists terms.from peer then (if is_right_key terms.key brought then None else Some (Key role)) else Some (Address role)

-- why this route doesn't admit the caller; without a route, the name is unknown
abbrev pub cause_at_route : Peer → Role → (brought : Option (List ℕ)) → Option RouteName → Option NotAdmitted
cause_at_route peer role brought (Some name) = cause_in_role (in_role name.access role) role peer brought
cause_at_route peer role brought None = Some UnknownName

-- why the route with this index doesn't admit the caller; without an index, no visible route has the name
abbrev pub cause_by_index : (names : List RouteName) → Peer → Role → (brought : Option (List ℕ)) → Option ℕ → Option NotAdmitted
cause_by_index names peer role brought (Some r) = cause_at_route peer role brought (slice_get names r)
cause_by_index names peer role brought None = Some UnknownName

-- the cause for a Stream ID, from the result of reading it
abbrev pub cause_by_ask : (names : List RouteName) → Peer → (bytes : List ℕ) → Result Ask AskFault → Option NotAdmitted
cause_by_ask names peer bytes (Ok ask) = cause_by_index names peer ask.role (key_of bytes) (index_of names (name_of bytes ask))
cause_by_ask names peer bytes (Err fault) = Some NoName

-- the cause for a conclusion's Stream ID (appendix B); without one, there is no name
abbrev pub cause_by_stream_id : (names : List RouteName) → Peer → Option (List ℕ) → Option NotAdmitted
cause_by_stream_id names peer (Some bytes) = cause_by_ask names peer bytes (ask_in bytes)
cause_by_stream_id names peer None = Some NoName

-- the cause for a conclusion, given another reason to refuse it; with such a reason there is none
abbrev pub cause_by_reason : (names : List RouteName) → Peer → Handshake → Option RefusalCode → Option NotAdmitted
cause_by_reason names peer hs (Some code) = None
cause_by_reason names peer hs None = cause_by_stream_id names peer hs.blocks.stream_id

-- whether a Stream ID requests a secured role of a visible route
abbrev pub requests_secured : (names : List RouteName) → Option (List ℕ) → Bool
requests_secured names id = is_secured_role names (role_requested names id)

-- the cause for a conclusion with a valid cookie
unfoldable pub cause_of_conclusion : (names : List RouteName) → Peer → Handshake → Option NotAdmitted
cause_of_conclusion names peer hs = cause_by_reason names peer hs (reason_of (requests_secured names hs.blocks.stream_id) hs)

-- the cause for a handshake, from the result of reading it; with a fault there is none
abbrev pub cause_by_handshake : (names : List RouteName) → Peer → Result Handshake HsFault → Option NotAdmitted
cause_by_handshake names peer (Ok hs) = cause_of_conclusion names peer hs
cause_by_handshake names peer (Err fault) = None

-- the cause for a packet's body; only a handshake can have one
abbrev pub cause_by_body : (names : List RouteName) → Peer → Body → Option NotAdmitted
cause_by_body names peer (packets.Handshake info) = cause_by_handshake names peer (handshake_in info)
cause_by_body names peer _ = None

-- the cause for a packet, from the result of reading it; with a fault there is none
abbrev pub cause_by_packet : (names : List RouteName) → Peer → Result Packet PacketFault → Option NotAdmitted
cause_by_packet names peer (Ok packet) = cause_by_body names peer packet.body
cause_by_packet names peer (Err fault) = None

-- why the conclusion in a datagram is refused with 1002; none if it is refused for another reason, or not at all
unfoldable pub cause_of : (names : List RouteName) → Datagram → Option NotAdmitted
cause_of names datagram = cause_by_packet names datagram.peer (packet_in datagram.bytes)

-- a conclusion with a cause is refused with 1002
abbrev pub CauseRefuses : Type 0
CauseRefuses =
    (names : List RouteName) (peer : Peer) (keys : Asked) (hs : Handshake) (cause : NotAdmitted) →
    cause_of_conclusion names peer hs ≡ Some cause → of_conclusion names peer keys hs ≡ refused hs codes.Peer

-- a conclusion without a cause, and without another reason to refuse it, is for a route, if it has the keys that the
-- requested role requires; otherwise it is refused with 1011
abbrev pub RefusalHasCause : Type 0
RefusalHasCause =
    (names : List RouteName) (peer : Peer) (keys : Asked) (hs : Handshake)
    → reason_of (requests_secured names hs.blocks.stream_id) hs ≡ None
    → cause_of_conclusion names peer hs ≡ None
    → (requested : RequestedRole) × (role_requested names hs.blocks.stream_id ≡ Some requested)
    × (of_conclusion names peer keys hs ≡ if_keyed (has_keys requested.role keys (slice_get names requested.route)) hs requested.route)
