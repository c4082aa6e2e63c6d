-- The function packet_in and the relation Spells agree.
use Rattle.std.proofs.Common.{◌≡◌, ℕ, ◌<◌, ◌≤◌, ◌/◌, ◌^◌, List, Result, Ok, Err, IfOk, IfErr, length, length-drop, drop, arith}
use Rattle.std.proofs.lemmas.Bool.Decides.{nat_tests}
use Rattle.srt_packet.specs.Grammar.{Body, Data, Handshake, KeepAlive, Ack, Nak, CongestionWarning, Shutdown, AckAck, DropRequest}
use Rattle.srt_packet.specs.Grammar.{PeerError, UserDefined, Packet, Spells, SpellsBody}
use Rattle.srt_types.specs.Words.{word_at}
use Rattle.srt_packet.specs.declared.reading.PacketFault.{PacketFault}
use Rattle.srt_packet.specs.declared.reading.PacketFault.TheVariants.{Short, Long, NoPayload, UnknownType, ShortControl}
use Rattle.srt_packet.specs.Reading.{body_in, packet_in, packet_with, rank, HasFault, IsKind, IsShortControl, IsFirstFault, ReadsTheSpelled}

pub body_found : (word0 word1 : ℕ) (rest : List ℕ) → IfOk (body_in word0 word1 rest) (λ body. SpellsBody word0 word1 rest body)
body_found word0 word1 rest = grind (arith, nat_tests)

pub body_only : (word0 word1 : ℕ) (rest : List ℕ) (body : Body) → SpellsBody word0 word1 rest body → body_in word0 word1 rest ≡ Ok body
body_only word0 word1 rest (Data number encryption payload) s = grind (arith, nat_tests)
body_only word0 word1 rest (Handshake info) s = grind (arith, nat_tests)
body_only word0 word1 rest KeepAlive s = grind (arith, nat_tests)
body_only word0 word1 rest (Ack number info) s = grind (arith, nat_tests)
body_only word0 word1 rest (Nak info) s = grind (arith, nat_tests)
body_only word0 word1 rest CongestionWarning s = grind (arith, nat_tests)
body_only word0 word1 rest Shutdown s = grind (arith, nat_tests)
body_only word0 word1 rest (AckAck number) s = grind (arith, nat_tests)
body_only word0 word1 rest (DropRequest message first last) s = grind (arith, nat_tests)
body_only word0 word1 rest PeerError s = grind (arith, nat_tests)
body_only word0 word1 rest UserDefined s = grind (arith, nat_tests)

-- this fault applies to a packet with this word 0 and these bytes after the header
abbrev HasBodyFault : (word0 : ℕ) → List ℕ → PacketFault → Type 0
HasBodyFault word0 rest Short = ⊥
HasBodyFault word0 rest Long = ⊥
HasBodyFault word0 rest NoPayload = (length rest ≡ 0) × (word0 < 2 ^ 31)
HasBodyFault word0 rest UnknownType = (2 ^ 31 ≤ word0) × ¬ IsKind (word0 / 2 ^ 16)
HasBodyFault word0 rest ShortControl = IsShortControl (word0 / 2 ^ 16) rest

body_fault : (word0 word1 : ℕ) (rest : List ℕ) → IfErr (body_in word0 word1 rest) (λ fault. HasBodyFault word0 rest fault)
body_fault word0 word1 rest = grind (arith, nat_tests)

pub packet_found : (bytes : List ℕ) → IfOk (packet_in bytes) (λ packet. Spells bytes packet)
packet_found bytes = let f = body_found (word_at bytes 0) (word_at bytes 4) (drop 16 bytes) in grind (arith, nat_tests, f)

pub packet_only : (bytes : List ℕ) (packet : Packet) → Spells bytes packet → packet_in bytes ≡ Ok packet
packet_only bytes packet s =
    let f = body_only (word_at bytes 0) (word_at bytes 4) (drop 16 bytes) packet.body s.body in
    grind (arith, nat_tests, f, s.header, s.limit, s.stamp, s.dest)

first_of : (bytes : List ℕ) (fault other : PacketFault) → 16 ≤ length bytes → length bytes ≤ 1472
    → HasBodyFault (word_at bytes 0) (drop 16 bytes) fault → HasFault bytes other
    → rank fault ≤ rank other
first_of bytes Short other header limit h k = absurd h
first_of bytes Long other header limit h k = absurd h
first_of bytes fault Short header limit h k = absurd (omega (arith, header, k))
first_of bytes fault Long header limit h k = absurd (omega (arith, limit, k))
first_of bytes NoPayload NoPayload header limit h k = omega arith
first_of bytes NoPayload UnknownType header limit h k = omega arith
first_of bytes NoPayload ShortControl header limit h k = omega arith
first_of bytes UnknownType NoPayload header limit h k = absurd (omega (arith, h.0, k.1))
first_of bytes UnknownType UnknownType header limit h k = omega arith
first_of bytes UnknownType ShortControl header limit h k = omega arith
first_of bytes ShortControl NoPayload header limit h k = grind (arith, h, k)
first_of bytes ShortControl UnknownType header limit h k = grind (arith, h, k)
first_of bytes ShortControl ShortControl header limit h k = omega arith

applies_to : (bytes : List ℕ) (fault : PacketFault) → 16 ≤ length bytes → HasBodyFault (word_at bytes 0) (drop 16 bytes) fault → HasFault bytes fault
applies_to bytes Short header h = absurd h
applies_to bytes Long header h = absurd h
applies_to bytes NoPayload header h = (omega (arith, h.0, length-drop 16 bytes), h.1)
applies_to bytes UnknownType header h = (header, h.0, h.1)
applies_to bytes ShortControl header h = (header, h)

is_first : (bytes : List ℕ) (fault : PacketFault)
    → 16 ≤ length bytes → length bytes ≤ 1472 → HasBodyFault (word_at bytes 0) (drop 16 bytes) fault → IsFirstFault bytes fault
is_first bytes fault header limit h = record { applies = applies_to bytes fault header h; first = λ other k. first_of bytes fault other header limit h k }

short_first : (bytes : List ℕ) → length bytes < 16 → IsFirstFault bytes Short
short_first bytes short = record { applies = short; first = λ other k. above_one other }
  where
    above_one : (other : PacketFault) → 1 ≤ rank other
    above_one Short = omega arith
    above_one Long = omega arith
    above_one NoPayload = omega arith
    above_one UnknownType = omega arith
    above_one ShortControl = omega arith

long_first : (bytes : List ℕ) → 1472 < length bytes → IsFirstFault bytes Long
long_first bytes long = record { applies = long; first = above_two }
  where
    above_two : (other : PacketFault) → HasFault bytes other → 2 ≤ rank other
    above_two Short k = absurd (omega (arith, long, k))
    above_two Long k = omega arith
    above_two NoPayload k = omega arith
    above_two UnknownType k = omega arith
    above_two ShortControl k = omega arith

-- the fault of a body is the fault of its packet
with_header : (bytes : List ℕ) (stamp dest : ℕ) (r : Result Body PacketFault) → 16 ≤ length bytes → length bytes ≤ 1472
    → IfErr r (λ fault. HasBodyFault (word_at bytes 0) (drop 16 bytes) fault)
    → IfErr (packet_with stamp dest r) (λ fault. IsFirstFault bytes fault)
with_header bytes stamp dest (Ok body) header limit h = tt
with_header bytes stamp dest (Err fault) header limit h = is_first bytes fault header limit h

pub packet_fault : (bytes : List ℕ) → IfErr (packet_in bytes) (λ fault. IsFirstFault bytes fault)
packet_fault bytes =
    let f = body_fault (word_at bytes 0) (word_at bytes 4) (drop 16 bytes) in
    let w = with_header bytes (word_at bytes 8) (word_at bytes 12) (body_in (word_at bytes 0) (word_at bytes 4) (drop 16 bytes)) in
    let s = short_first bytes in
    let l = long_first bytes in
    grind (arith, nat_tests, f, w, s, l)

no_body_fault : (word0 word1 : ℕ) (rest : List ℕ) (body : Body) (fault : PacketFault) → SpellsBody word0 word1 rest body → ¬ HasBodyFault word0 rest fault
no_body_fault word0 word1 rest body Short s h = h
no_body_fault word0 word1 rest body Long s h = h
no_body_fault word0 word1 rest (Data number encryption payload) NoPayload s h = grind (arith, s, h)
no_body_fault word0 word1 rest (Handshake info) NoPayload s h = grind (arith, s, h)
no_body_fault word0 word1 rest KeepAlive NoPayload s h = grind (arith, s, h)
no_body_fault word0 word1 rest (Ack number info) NoPayload s h = grind (arith, s, h)
no_body_fault word0 word1 rest (Nak info) NoPayload s h = grind (arith, s, h)
no_body_fault word0 word1 rest CongestionWarning NoPayload s h = grind (arith, s, h)
no_body_fault word0 word1 rest Shutdown NoPayload s h = grind (arith, s, h)
no_body_fault word0 word1 rest (AckAck number) NoPayload s h = grind (arith, s, h)
no_body_fault word0 word1 rest (DropRequest message first last) NoPayload s h = grind (arith, s, h)
no_body_fault word0 word1 rest PeerError NoPayload s h = grind (arith, s, h)
no_body_fault word0 word1 rest UserDefined NoPayload s h = grind (arith, s, h)
no_body_fault word0 word1 rest (Data number encryption payload) UnknownType s h = grind (arith, s, h)
no_body_fault word0 word1 rest (Handshake info) UnknownType s h = grind (arith, s, h)
no_body_fault word0 word1 rest KeepAlive UnknownType s h = grind (arith, s, h)
no_body_fault word0 word1 rest (Ack number info) UnknownType s h = grind (arith, s, h)
no_body_fault word0 word1 rest (Nak info) UnknownType s h = grind (arith, s, h)
no_body_fault word0 word1 rest CongestionWarning UnknownType s h = grind (arith, s, h)
no_body_fault word0 word1 rest Shutdown UnknownType s h = grind (arith, s, h)
no_body_fault word0 word1 rest (AckAck number) UnknownType s h = grind (arith, s, h)
no_body_fault word0 word1 rest (DropRequest message first last) UnknownType s h = grind (arith, s, h)
no_body_fault word0 word1 rest PeerError UnknownType s h = grind (arith, s, h)
no_body_fault word0 word1 rest UserDefined UnknownType s h = grind (arith, s, h)
no_body_fault word0 word1 rest (Data number encryption payload) ShortControl s h = grind (arith, s, h)
no_body_fault word0 word1 rest (Handshake info) ShortControl s h = grind (arith, s, h)
no_body_fault word0 word1 rest KeepAlive ShortControl s h = grind (arith, s, h)
no_body_fault word0 word1 rest (Ack number info) ShortControl s h = grind (arith, s, h)
no_body_fault word0 word1 rest (Nak info) ShortControl s h = grind (arith, s, h)
no_body_fault word0 word1 rest CongestionWarning ShortControl s h = grind (arith, s, h)
no_body_fault word0 word1 rest Shutdown ShortControl s h = grind (arith, s, h)
no_body_fault word0 word1 rest (AckAck number) ShortControl s h = grind (arith, s, h)
no_body_fault word0 word1 rest (DropRequest message first last) ShortControl s h = grind (arith, s, h)
no_body_fault word0 word1 rest PeerError ShortControl s h = grind (arith, s, h)
no_body_fault word0 word1 rest UserDefined ShortControl s h = grind (arith, s, h)

body_of_fault : (bytes : List ℕ) (fault : PacketFault)
    → 16 ≤ length bytes → length bytes ≤ 1472 → HasFault bytes fault → HasBodyFault (word_at bytes 0) (drop 16 bytes) fault
body_of_fault bytes Short header limit h = omega (arith, header, h)
body_of_fault bytes Long header limit h = omega (arith, limit, h)
body_of_fault bytes NoPayload header limit h = (omega (arith, h.0, length-drop 16 bytes), h.1)
body_of_fault bytes UnknownType header limit h = (h.1, h.2)
body_of_fault bytes ShortControl header limit h = h.1

pub no_fault : (bytes : List ℕ) (packet : Packet) (fault : PacketFault) → Spells bytes packet → ¬ HasFault bytes fault
no_fault bytes packet fault s h =
    no_body_fault (word_at bytes 0) (word_at bytes 4) (drop 16 bytes) packet.body fault s.body (body_of_fault bytes fault s.header s.limit h)

pub reads_the_spelled : (bytes : List ℕ) → ReadsTheSpelled bytes
reads_the_spelled bytes = record { found = packet_found bytes; only = packet_only bytes; fault = packet_fault bytes; no_fault = no_fault bytes }
