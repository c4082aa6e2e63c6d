-- What changes when the lists and keys of a route are replaced, and what doesn't.
use Rattle.std.specs.Prelude.{◌≡◌, ◌≢◌, ℕ, zero, suc, ◌-◌, ◌/◌, ◌^◌, ◌<◌, ◌==◌, Bool, false, List, [], ◌∷◌, length, map, Option, None, Some}
use Rattle.std.specs.Prelude.{Result, Ok, Err, nat_lt, slice_get, if◌then◌else◌}
use Rattle.std.specs.Option.{option_map}
use Rattle.srt_types.specs.Access.{lists}
use Rattle.srt_types.specs.Items.{Datagram}
use Rattle.srt_types.specs.Terms.{Terms}
use Rattle.srt_packet.specs.declared.reading.PacketFault.{PacketFault}
use Rattle.srt_packet.specs.Grammar as packets
use Rattle.srt_packet.specs.Grammar.{Packet, Body}
use Rattle.srt_packet.specs.Reading.{packet_in}
use Rattle.srt_hs.specs.declared.handshake.HsFault.{HsFault}
use Rattle.srt_hs.specs.Grammar.{Handshake}
use Rattle.srt_hs.specs.Reading.{handshake_in}
use Rattle.srt_lobby.specs.declared.classes.Class.TheVariants.{Route}
use Rattle.srt_lobby.specs.declared.names.RequestedRole.{RequestedRole}
use Rattle.srt_lobby.specs.Names.{RouteName, name_of, AreDistinct}
use Rattle.srt_lobby.specs.ListsAndKeys.{ListsAndKeys, access_with, replaced_at}
use Rattle.srt_lobby.specs.Lobby.{role_requested, class_of}
use Rattle.srt_lobby.specs.Laws.{MayCall}
use Rattle.srt_lobby.specs.Changing.{AreSameFor, marked_at}

-- the configuration of routes with these lists and keys in the entry with this index
abbrev pub entries_with : ListsAndKeys → (r : ℕ) → List Terms → List Terms
entries_with new r [] = []
entries_with new zero (e ∷ entries) = record e { access = access_with new e.access } ∷ entries
entries_with new (suc r) (e ∷ entries) = e ∷ entries_with new r entries

-- after the lists and keys of a route are replaced, each datagram has the class that it would have if the gateway had
-- been opened with them
abbrev pub ReplacedAsOpened : Type 0
ReplacedAsOpened =
    (secret : List ℕ) (entries : List Terms) (new : ListsAndKeys) (r : ℕ) (datagram : Datagram) (moment : ℕ)
    → class_of secret (replaced_at new r (map name_of entries)) datagram moment
    ≡ class_of secret (map name_of (entries_with new r entries)) datagram moment

-- the route whose index is in the upper bits of a socket ID, from bit 20 up (our choice)
abbrev pub route_of_id : (dest : ℕ) → Option ℕ
route_of_id dest = if nat_lt 0 (dest / 2 ^ 20) then Some (dest / 2 ^ 20 - 1) else None

-- the visible route that a handshake requests, from the result of reading it
abbrev pub route_requested : List RouteName → Result Handshake HsFault → Option ℕ
route_requested names (Ok hs) = option_map (λ (requested : RequestedRole). requested.route) (role_requested names hs.blocks.stream_id)
route_requested names (Err fault) = None

-- the visible route that a packet with destination 0 requests
abbrev pub route_in_body : List RouteName → Body → Option ℕ
route_in_body names (packets.Handshake info) = route_requested names (handshake_in info)
route_in_body names _ = None

-- the route that a packet names, from the result of reading it
abbrev pub route_in_packet : List RouteName → Result Packet PacketFault → Option ℕ
route_in_packet names (Ok packet) = if packet.dest == 0 then route_in_body names packet.body else route_of_id packet.dest
route_in_packet names (Err fault) = None

-- the route that a datagram names: by its destination, or with destination 0 by its Stream ID
abbrev pub route_named : List RouteName → Datagram → Option ℕ
route_named names datagram = route_in_packet names (packet_in datagram.bytes)

-- the class of a datagram changes only if it names the route whose lists and keys are replaced
abbrev pub ReplacingKeepsClasses : Type 0
ReplacingKeepsClasses =
    (secret : List ℕ) (names : List RouteName) (new : ListsAndKeys) (s : ℕ) (datagram : Datagram) (moment : ℕ)
    → route_named names datagram ≢ Some s
    → class_of secret (replaced_at new s names) datagram moment ≡ class_of secret names datagram moment

-- the same datagrams are for each other route
abbrev pub ReplacingKeepsOthers : Type 0
ReplacingKeepsOthers =
    (names : List RouteName) (new : ListsAndKeys) (s r : ℕ)
    → r < length names → r ≢ s → AreDistinct names → AreSameFor r names (replaced_at new s names)

-- whoever sends a datagram for the route, the new lists and keys admit it, whatever the old ones did
abbrev pub ReplacedDecide : Type 0
ReplacedDecide =
    (secret : List ℕ) (names : List RouteName) (new : ListsAndKeys) (datagram : Datagram) (moment r : ℕ) (name : RouteName)
    → slice_get names r ≡ Some name
    → class_of secret (replaced_at new r names) datagram moment ≡ Route r
    → MayCall (access_with new name.access) datagram

-- no datagram of a sender outside of both new lists is for the route, whether it has an open session or not
abbrev pub StrangersAreNotHeard : Type 0
StrangersAreNotHeard =
    (secret : List ℕ) (names : List RouteName) (new : ListsAndKeys) (datagram : Datagram) (moment r : ℕ)
    → lists new.publish.from datagram.peer ≡ false
    → lists new.request.from datagram.peer ≡ false
    → class_of secret (replaced_at new r names) datagram moment ≡ Route r
    → ⊥

-- replacing lists and keys keeps the names of visible routes distinct
abbrev pub ReplacingKeepsNames : Type 0
ReplacingKeepsNames = (names : List RouteName) (new : ListsAndKeys) (s : ℕ) → AreDistinct names → AreDistinct (replaced_at new s names)

-- the order of a replacement and a change of visibility doesn't matter, so those of a hidden route are in force once it
-- is visible
abbrev pub ReplacingAndMarkingCommute : Type 0
ReplacingAndMarkingCommute =
    (names : List RouteName) (new : ListsAndKeys) (s r : ℕ) (is_shown : Bool)
    → marked_at is_shown r (replaced_at new s names) ≡ replaced_at new s (marked_at is_shown r names)

-- of two replacements for one route the later one counts
abbrev pub LaterReplacementCounts : Type 0
LaterReplacementCounts =
    (names : List RouteName) (old new : ListsAndKeys) (r : ℕ) → replaced_at new r (replaced_at old r names) ≡ replaced_at new r names
