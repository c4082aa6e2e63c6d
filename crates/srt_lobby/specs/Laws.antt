-- Which datagrams are for which route.
use Rattle.std.specs.Prelude.{◌≡◌, ◌↔◌, ℕ, ◌<◌, ◌≤◌, true, List, length, None, Some, Ok, map, slice_get}
use Rattle.std.specs.Prelude.{Bool, false}
use Rattle.srt_types.specs.declared.shared.Role.{Role}
use Rattle.srt_types.specs.Access.{AccessTerms, in_role, knows, admits}
use Rattle.srt_types.specs.Access.{is_secured, is_right_length}
use Rattle.srt_types.specs.Items.{Datagram}
use Rattle.srt_types.specs.Terms.{Terms}
use Rattle.srt_packet.specs.Grammar as packets
use Rattle.srt_packet.specs.Grammar.{Packet as ReadPacket}
use Rattle.srt_packet.specs.Reading.{packet_in}
use Rattle.srt_packet.specs.declared.writing.Packet.{Packet}
use Rattle.srt_packet.specs.declared.writing.Body.TheVariants as bodies
use Rattle.srt_packet.specs.Text.{text}
use Rattle.srt_hs.specs.declared.handshake.HsKind.TheVariants as kinds
use Rattle.srt_hs.specs.Grammar.{Handshake}
use Rattle.srt_hs.specs.KeyMessage.{KeyMessage, message_in}
use Rattle.srt_hs.specs.KeyRequest.{Asked, one, key_request_in}
use Rattle.srt_hs.specs.Reading.{handshake_in}
use Rattle.srt_hs.specs.declared.writing.HsAnswer.{HsAnswer}
use Rattle.srt_hs.specs.Text.{answer_text}
use Rattle.srt_streamid.specs.declared.reading.Ask.{Ask}
use Rattle.srt_streamid.specs.Reading.{ask_in, key_of}
use Rattle.srt_lobby.specs.declared.classes.Class.TheVariants.{Route}
use Rattle.srt_lobby.specs.Names.{RouteName, AreDistinct, is_shown_at, name_of}
use Rattle.srt_lobby.specs.Opening.{fault_of}
use Rattle.srt_lobby.specs.Lobby.{class_of, answer_bytes}

-- the route with this index has this name, visibility and access rules, and no two visible routes have the same name
pub record HasRoute (names : List RouteName) (r : ℕ) (name : RouteName) : Type 0 where
  pub named : slice_get names r ≡ Some name
  pub distinct : AreDistinct names

-- entries that can be opened have distinct names
abbrev pub NamesAreDistinct : Type 0
NamesAreDistinct = (entries : List Terms) → fault_of entries ≡ None → AreDistinct (map name_of entries)

-- whether a datagram is for a route depends only on the secret, the route's index, name, visibility and access rules,
-- and the datagram: other routes, their names and their number have no influence
abbrev pub RouteIsItsOwn : Type 0
RouteIsItsOwn =
    (secret : List ℕ) (names others : List RouteName) (r : ℕ) (name : RouteName) → HasRoute names r name → HasRoute others r name →
    (datagram : Datagram) (moment : ℕ) → (class_of secret names datagram moment ≡ Route r) ↔ (class_of secret others datagram moment ≡ Route r)

-- a datagram for a route is for a route that exists
abbrev pub RouteIsNamed : Type 0
RouteIsNamed =
    (secret : List ℕ) (names : List RouteName) (datagram : Datagram) (moment r : ℕ) →
    class_of secret names datagram moment ≡ Route r → r < length names

-- a datagram for a route is for a visible route
abbrev pub RouteIsShown : Type 0
RouteIsShown =
    (secret : List ℕ) (names : List RouteName) (datagram : Datagram) (moment r : ℕ) →
    class_of secret names datagram moment ≡ Route r → is_shown_at names r ≡ true

-- the request in a datagram: it is a conclusion whose Stream ID is these bytes, and they request a name in a role
pub record IsAsking (datagram : Datagram) (bytes : List ℕ) (ask : Ask) : Type 0 where
  pub says : (packet : ReadPacket) × (info : List ℕ) × (hs : Handshake) × (packet_in datagram.bytes ≡ Ok packet)
      × (packet.body ≡ packets.Handshake info) × (handshake_in info ≡ Ok hs) × (hs.kind ≡ kinds.Conclusion)
      × (hs.blocks.stream_id ≡ Some bytes)
  pub asks : ask_in bytes ≡ Ok ask

-- these access rules admit the sender of a datagram: its address is in one of the lists. If the packet has destination
-- 0, it is a conclusion, the address is in the list of the requested role, and the Stream ID has that role's key
abbrev pub MayCall : AccessTerms → Datagram → Type 0
MayCall access datagram =
    (knows access datagram.peer ≡ true) ×
    ((packet : ReadPacket) → packet_in datagram.bytes ≡ Ok packet → packet.dest ≡ 0 →
    (bytes : List ℕ) × (ask : Ask) × IsAsking datagram bytes ask × (admits (in_role access ask.role) datagram.peer (key_of bytes) ≡ true))

-- whatever arrives, a route's access rules admit the sender of each datagram for the route
abbrev pub RouteIsForCallers : Type 0
RouteIsForCallers =
    (secret : List ℕ) (names : List RouteName) (datagram : Datagram) (moment r : ℕ) (name : RouteName) → slice_get names r ≡ Some name →
    class_of secret names datagram moment ≡ Route r → MayCall name.access datagram

-- what a conclusion brings for a role with these rules: for a secured one exactly one KMREQ block, which has keys, of the
-- route's length if it has one; for another one no such block
pub record BringsKeys (access : AccessTerms) (role : Role) (has_kmreq : Bool) (keys : Asked) : Type 0 where
  pub plain : is_secured (in_role access role) ≡ false → has_kmreq ≡ false
  pub secured : is_secured (in_role access role) ≡ true →
      (contents : List ℕ) × (message : KeyMessage) × (keys ≡ one contents) × (message_in contents ≡ Ok message)
      × (is_right_length access.key_length message.key_length ≡ true)

-- a packet is a conclusion with what these access rules require of the requested role
pub record IsKeyed (access : AccessTerms) (packet : ReadPacket) : Type 0 where
  pub info : List ℕ
  pub hs : Handshake
  pub bytes : List ℕ
  pub ask : Ask
  pub body : packet.body ≡ packets.Handshake info
  pub reads : handshake_in info ≡ Ok hs
  pub stream_id : hs.blocks.stream_id ≡ Some bytes
  pub asks : ask_in bytes ≡ Ok ask
  pub brings : BringsKeys access ask.role hs.blocks.has_kmreq (key_request_in info)

-- whatever arrives, a datagram with destination 0 that is for a route brings the keys that the route requires, and no
-- others
abbrev pub RouteIsKeyed : Type 0
RouteIsKeyed =
    (secret : List ℕ) (names : List RouteName) (datagram : Datagram) (moment r : ℕ) (name : RouteName) → slice_get names r ≡ Some name →
    class_of secret names datagram moment ≡ Route r → (packet : ReadPacket) → packet_in datagram.bytes ≡ Ok packet → packet.dest ≡ 0 →
    IsKeyed name.access packet

-- a datagram for a route has a complete header
abbrev pub RouteHasHeader : Type 0
RouteHasHeader =
    (secret : List ℕ) (names : List RouteName) (datagram : Datagram) (moment r : ℕ) →
    class_of secret names datagram moment ≡ Route r → 16 ≤ length datagram.bytes

-- the packet is a handshake packet with this answer to this socket, with timestamp 0
pub record IsAnswer (packet : Packet) (id : ℕ) (answer : HsAnswer) : Type 0 where
  pub stamp : packet.stamp ≡ 0
  pub dest : packet.dest ≡ id
  pub says : (info : _) × (packet.body ≡ bodies.Handshake info) × (info.items ≡ answer_text answer)

-- the bytes of an answer are the encoding of such a packet
abbrev pub AnswerIsPacket : Type 0
AnswerIsPacket = (packet : Packet) (id : ℕ) (answer : HsAnswer) → IsAnswer packet id answer → answer_bytes id answer ≡ text packet
