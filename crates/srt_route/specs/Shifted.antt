-- Items and replies of a route with other sequence numbers, other timestamps or later times, as bytes.
use Rattle.std.specs.Prelude.{ℕ, ◌+◌, ◌*◌, ◌/◌, ◌%◌, ◌^◌, List, [], ◌∷◌, ◌++◌, length, map, take, drop, is_ok, nat_lt, if◌then◌else◌, Result, Ok, Err}
use Rattle.srt_types.specs.Words.{word_at}
use Rattle.srt_types.specs.Items.{Datagram, Item, Received, Tick, Close}
use Rattle.srt_packet.specs.declared.reading.PacketFault.{PacketFault}
use Rattle.srt_packet.specs.Grammar.{Packet, Body, Data, Handshake, KeepAlive, Ack, Nak, CongestionWarning, Shutdown, AckAck, DropRequest}
use Rattle.srt_packet.specs.Grammar.{PeerError, UserDefined}
use Rattle.srt_packet.specs.Reading.{packet_in}
use Rattle.srt_hs.specs.Reading.{handshake_in}

-- a word with its low 31 bits shifted by `by`, modulo 2^31, and its top bit kept (section 3.1)
abbrev pub shifted : (by word : ℕ) → ℕ
shifted by word = word / 2 ^ 31 * 2 ^ 31 + (word + by) % 2 ^ 31

-- the four bytes of a word in network byte order; bits above the low 32 stay in the first byte
abbrev pub four_bytes : ℕ → List ℕ
four_bytes n = n / 2 ^ 24 ∷ n / 2 ^ 16 % 2 ^ 8 ∷ n / 2 ^ 8 % 2 ^ 8 ∷ n % 2 ^ 8 ∷ []

-- bytes with the four from offset `at` replaced by this word
abbrev pub with_word : (at n : ℕ) → List ℕ → List ℕ
with_word at n bytes = take at bytes ++ (four_bytes n ++ drop (at + 4) bytes)

-- bytes with the word at offset `at` shifted
abbrev pub shifted_at : (by at : ℕ) → List ℕ → List ℕ
shifted_at by at bytes = with_word at (shifted by (word_at bytes at)) bytes

-- bytes with the first word shifted, if there are at least four bytes
abbrev pub shifted_first : (by : ℕ) → List ℕ → List ℕ
shifted_first by (a ∷ b ∷ c ∷ d ∷ bytes) = four_bytes (shifted by (word_at (a ∷ b ∷ c ∷ d ∷ []) 0)) ++ bytes
shifted_first by bytes = bytes

-- bytes with each whole word shifted, as in a loss list (appendix A)
abbrev pub shifted_words : (by : ℕ) → List ℕ → List ℕ
shifted_words by (a ∷ b ∷ c ∷ d ∷ bytes) = four_bytes (shifted by (word_at (a ∷ b ∷ c ∷ d ∷ []) 0)) ++ shifted_words by bytes
shifted_words by bytes = bytes

-- the bytes of a handshake with its initial sequence number shifted, if they can be read (section 3.2.1)
unfoldable pub shifted_handshake : (by : ℕ) → List ℕ → List ℕ
shifted_handshake by info = if is_ok (handshake_in info) then shifted_at by 8 info else info

-- a packet's body with its sequence numbers shifted
abbrev pub shifted_body : (by : ℕ) → Body → Body
shifted_body by (Data number encryption payload) = Data (shifted by number) encryption payload
shifted_body by (Handshake info) = Handshake (shifted_handshake by info)
shifted_body by KeepAlive = KeepAlive
shifted_body by (Ack number info) = Ack number (shifted_first by info)
shifted_body by (Nak info) = Nak (shifted_words by info)
shifted_body by CongestionWarning = CongestionWarning
shifted_body by Shutdown = Shutdown
shifted_body by (AckAck number) = AckAck number
shifted_body by (DropRequest message first last) = DropRequest message (shifted by first) (shifted by last)
shifted_body by PeerError = PeerError
shifted_body by UserDefined = UserDefined

abbrev pub shifted_packet : (by : ℕ) → Packet → Packet
shifted_packet by p = record { stamp = p.stamp; dest = p.dest; body = shifted_body by p.body }

abbrev pub shifted_reading : (by : ℕ) → Result Packet PacketFault → Result Packet PacketFault
shifted_reading by (Ok packet) = Ok (shifted_packet by packet)
shifted_reading by (Err fault) = Err fault

-- the 16-byte header of these bytes, followed by other bytes
abbrev pub with_rest : (bytes rest : List ℕ) → List ℕ
with_rest bytes rest = take 16 bytes ++ rest

-- the bytes of a packet with this body, its sequence numbers shifted
abbrev pub renumbered_as : (by : ℕ) → Body → List ℕ → List ℕ
renumbered_as by (Data number encryption payload) bytes = shifted_at by 0 bytes
renumbered_as by (Handshake info) bytes = with_rest bytes (shifted_handshake by info)
renumbered_as by (Ack number info) bytes = with_rest bytes (shifted_first by info)
renumbered_as by (Nak info) bytes = with_rest bytes (shifted_words by info)
renumbered_as by (DropRequest message first last) bytes = shifted_at by 20 (shifted_at by 16 bytes)
renumbered_as by _ bytes = bytes

abbrev pub renumbered_read : (by : ℕ) → Result Packet PacketFault → List ℕ → List ℕ
renumbered_read by (Ok packet) bytes = renumbered_as by packet.body bytes
renumbered_read by (Err fault) bytes = bytes

-- the bytes of a datagram with its sequence numbers shifted; unchanged if they aren't a packet
unfoldable pub renumbered : (by : ℕ) → List ℕ → List ℕ
renumbered by bytes = renumbered_read by (packet_in bytes) bytes

-- the bytes of a datagram with its timestamp shifted; unchanged if they are shorter than a header (section 3)
unfoldable pub restamped : (by : ℕ) → List ℕ → List ℕ
restamped by bytes = if nat_lt (length bytes) 16 then bytes else with_word 8 ((word_at bytes 8 + by) % 2 ^ 32) bytes

-- the same of datagrams, items and lists of them
abbrev pub renumbered_datagram : (by : ℕ) → Datagram → Datagram
renumbered_datagram by d = record { peer = d.peer; bytes = renumbered by d.bytes }

abbrev pub restamped_datagram : (by : ℕ) → Datagram → Datagram
restamped_datagram by d = record { peer = d.peer; bytes = restamped by d.bytes }

abbrev pub renumbered_item : (by : ℕ) → Item → Item
renumbered_item by (Received datagram moment) = Received (renumbered_datagram by datagram) moment
renumbered_item by (Tick moment) = Tick moment
renumbered_item by (Close moment) = Close moment

abbrev pub restamped_item : (by : ℕ) → Item → Item
restamped_item by (Received datagram moment) = Received (restamped_datagram by datagram) moment
restamped_item by (Tick moment) = Tick moment
restamped_item by (Close moment) = Close moment

-- the same item, later by `by` microseconds
abbrev pub moved_item : (by : ℕ) → Item → Item
moved_item by (Received datagram moment) = Received datagram (moment + by)
moved_item by (Tick moment) = Tick (moment + by)
moved_item by (Close moment) = Close (moment + by)

abbrev pub renumbered_items : (by : ℕ) → List Item → List Item
renumbered_items by items = map (renumbered_item by) items

abbrev pub restamped_items : (by : ℕ) → List Item → List Item
restamped_items by items = map (restamped_item by) items

abbrev pub moved_items : (by : ℕ) → List Item → List Item
moved_items by items = map (moved_item by) items

abbrev pub renumbered_datagrams : (by : ℕ) → List Datagram → List Datagram
renumbered_datagrams by datagrams = map (renumbered_datagram by) datagrams
