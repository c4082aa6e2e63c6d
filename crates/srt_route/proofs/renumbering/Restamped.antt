-- A restamped datagram is the packet with another timestamp.
use Rattle.std.proofs.Common.{◌≡◌, ℕ, ◌+◌, ◌%◌, ◌^◌, ◌<◌, ◌≤◌, Bool, true, false, cond, Option, None, Some, List, length, drop, Result, Ok, Err, nat_lt, ltb}
use Rattle.std.proofs.Common.{refl, sym, ap, inl, inr, ◌∙◌, arith}
use Rattle.std.proofs.lemmas.Bool.{cases_lt, cond-true, cond-false, lt-ltb, le-ltb}
use Rattle.srt_types.specs.Words.{word_at}
use Rattle.srt_packet.specs.declared.reading.PacketFault.{PacketFault}
use Rattle.srt_packet.specs.KeyPacket.{key_kind_of, key_packet_with}
use Rattle.srt_packet.specs.declared.key_packet.KeyPacketKind.{KeyPacketKind}
use Rattle.srt_packet.specs.declared.key_packet.KeyPacketKind.TheVariants as messages
use Rattle.srt_route.specs.KeyRefresh.{Confirmation, confirmation_in, confirmation_read, request_in, request_read}
use Rattle.srt_packet.specs.declared.reading.PacketFault.TheVariants.{Short, Long}
use Rattle.srt_packet.specs.Grammar.{Packet, Body}
use Rattle.srt_packet.specs.Reading.{packet_with, packet_in, body_in}
use Rattle.srt_route.specs.Shifted.{with_word, restamped}
use Rattle.srt_route.specs.ShiftLaws.{restamped_reading, PacketsRestamp, LengthsStay}
use Rattle.srt_route.proofs.renumbering.PlacedWords.{length_with, word_before, word_there, word_after, rest_after}
use Rattle.srt_route.proofs.renumbering.ShiftedPackets.{length_renumbered}

-- a packet's parts, and what is read of them
of_parts : (long stamp dest : ℕ) → Result Body PacketFault → Result Packet PacketFault
of_parts long stamp dest body = cond (nat_lt long 16) (Err Short) (cond (nat_lt 1472 long) (Err Long) (packet_with stamp dest body))

with_stamp : (by stamp dest : ℕ) (body : Result Body PacketFault)
    → packet_with ((stamp + by) % 2 ^ 32) dest body ≡ restamped_reading by (packet_with stamp dest body)
with_stamp by stamp dest (Ok body) = refl
with_stamp by stamp dest (Err fault) = refl

parts_restamp : (by long stamp dest : ℕ) (body : Result Body PacketFault)
    → of_parts long ((stamp + by) % 2 ^ 32) dest body ≡ restamped_reading by (of_parts long stamp dest body)
unfolding of_parts
parts_restamp by long stamp dest body = of_tests (nat_lt long 16) (nat_lt 1472 long)
  where
    of_tests : (short over : Bool)
        → cond short (Err Short) (cond over (Err Long) (packet_with ((stamp + by) % 2 ^ 32) dest body))
        ≡ restamped_reading by (cond short (Err Short) (cond over (Err Long) (packet_with stamp dest body)))
    of_tests true over = refl
    of_tests false true = refl
    of_tests false false = with_stamp by stamp dest body

same_parts : (bytes rest : List ℕ) (long stamp dest first second : ℕ) → length bytes ≡ long → word_at bytes 8 ≡ stamp
    → word_at bytes 12 ≡ dest → word_at bytes 0 ≡ first → word_at bytes 4 ≡ second → drop 16 bytes ≡ rest
    → packet_in bytes ≡ of_parts long stamp dest (body_in first second rest)
unfolding of_parts
same_parts bytes rest long stamp dest first second l s d a b r =
    ap (λ n. of_parts n (word_at bytes 8) (word_at bytes 12) (body_in (word_at bytes 0) (word_at bytes 4) (drop 16 bytes))) l
    ∙ ap (λ n. of_parts long n (word_at bytes 12) (body_in (word_at bytes 0) (word_at bytes 4) (drop 16 bytes))) s
    ∙ ap (λ n. of_parts long stamp n (body_in (word_at bytes 0) (word_at bytes 4) (drop 16 bytes))) d
    ∙ ap (λ n. of_parts long stamp dest (body_in n (word_at bytes 4) (drop 16 bytes))) a
    ∙ ap (λ n. of_parts long stamp dest (body_in first n (drop 16 bytes))) b
    ∙ ap (λ n. of_parts long stamp dest (body_in first second n)) r

long_restamps : (by : ℕ) (bytes : List ℕ)
    → 16 ≤ length bytes → packet_in (with_word 8 ((word_at bytes 8 + by) % 2 ^ 32) bytes) ≡ restamped_reading by (packet_in bytes)
unfolding of_parts
long_restamps by bytes h =
    let n = (word_at bytes 8 + by) % 2 ^ 32 in
    let inside : 8 ≤ length bytes = omega (arith, h) in
    same_parts (with_word 8 n bytes) (drop 16 bytes) (length bytes) n (word_at bytes 12) (word_at bytes 0) (word_at bytes 4)
    (length_with 8 n bytes (omega (arith, h))) (word_there 8 n bytes inside) (word_after 8 n 12 bytes inside (omega arith))
    (word_before 8 n 0 bytes inside (omega arith)) (word_before 8 n 4 bytes inside (omega arith))
    (rest_after 8 n 16 bytes (omega (arith, h)) (omega arith))
    ∙ parts_restamp by (length bytes) (word_at bytes 8) (word_at bytes 12) (body_in (word_at bytes 0) (word_at bytes 4) (drop 16 bytes))

is_short : (bytes : List ℕ) → length bytes < 16 → packet_in bytes ≡ Err Short
is_short bytes h = cond-true (ltb (length bytes) 16) (Err Short) _ (lt-ltb (length bytes) 16 h)

restamped_short : (by : ℕ) (bytes : List ℕ) → length bytes < 16 → restamped by bytes ≡ bytes
unfolding restamped
restamped_short by bytes h = cond-true (ltb (length bytes) 16) bytes _ (lt-ltb (length bytes) 16 h)

restamped_long : (by : ℕ) (bytes : List ℕ) → 16 ≤ length bytes → restamped by bytes ≡ with_word 8 ((word_at bytes 8 + by) % 2 ^ 32) bytes
unfolding restamped
restamped_long by bytes h = cond-false (ltb (length bytes) 16) bytes _ (le-ltb (length bytes) 16 h)

pub packets_restamp : PacketsRestamp
packets_restamp by bytes =
    elim (cases_lt (length bytes) 16) [
      | inl short ↦ ap packet_in (restamped_short by bytes short) ∙ is_short bytes short ∙ sym (ap (restamped_reading by) (is_short bytes short))
      | inr long ↦ ap packet_in (restamped_long by bytes long) ∙ long_restamps by bytes long
    ]

length_restamped : (by : ℕ) (bytes : List ℕ) → length (restamped by bytes) ≡ length bytes
length_restamped by bytes =
    elim (cases_lt (length bytes) 16) [
      | inl short ↦ ap length (restamped_short by bytes short)
      | inr long ↦ ap length (restamped_long by bytes long) ∙ length_with 8 ((word_at bytes 8 + by) % 2 ^ 32) bytes (omega (arith, long))
    ]

pub lengths_stay : LengthsStay
lengths_stay by bytes = (length_renumbered by bytes, length_restamped by bytes)

-- a KMREQ with another timestamp has the same contents
abbrev asked_with : (rest : List ℕ) → Option KeyPacketKind → Option (List ℕ)
asked_with rest None = None
asked_with rest (Some messages.Request) = Some rest
asked_with rest (Some messages.Response) = None

abbrev asked_by : (long word0 : ℕ) (rest : List ℕ) → Option (List ℕ)
asked_by long word0 rest = cond (nat_lt long 16) None (cond (nat_lt 1472 long) None (asked_with rest (key_kind_of word0)))

request_parts : (bytes : List ℕ) → request_in bytes ≡ asked_by (length bytes) (word_at bytes 0) (drop 16 bytes)
request_parts bytes = by (nat_lt (length bytes) 16) (nat_lt 1472 (length bytes)) (key_kind_of (word_at bytes 0))
  where
    by : (short over : Bool) (kind : Option KeyPacketKind)
        → request_read (cond short None (cond over None (key_packet_with bytes (drop 16 bytes) kind)))
        ≡ cond short None (cond over None (asked_with (drop 16 bytes) kind))
    by true over kind = refl
    by false true kind = refl
    by false false None = refl
    by false false (Some messages.Request) = refl
    by false false (Some messages.Response) = refl

same_request : (bytes : List ℕ) (n : ℕ) → 16 ≤ length bytes → request_in (with_word 8 n bytes) ≡ request_in bytes
same_request bytes n h =
    let inside : 8 ≤ length bytes = omega (arith, h) in
    request_parts (with_word 8 n bytes)
    ∙ ap (λ long. asked_by long (word_at (with_word 8 n bytes) 0) (drop 16 (with_word 8 n bytes))) (length_with 8 n bytes (omega (arith, h)))
    ∙ ap (λ first. asked_by (length bytes) first (drop 16 (with_word 8 n bytes))) (word_before 8 n 0 bytes inside (omega arith))
    ∙ ap (λ rest. asked_by (length bytes) (word_at bytes 0) rest) (rest_after 8 n 16 bytes (omega (arith, h)) (omega arith))
    ∙ sym (request_parts bytes)

pub requests_restamp : (by : ℕ) (bytes : List ℕ) → request_in (restamped by bytes) ≡ request_in bytes
requests_restamp by bytes =
    elim (cases_lt (length bytes) 16) [
      | inl short ↦ ap request_in (restamped_short by bytes short)
      | inr long ↦ ap request_in (restamped_long by bytes long) ∙ same_request bytes ((word_at bytes 8 + by) % 2 ^ 32) long
    ]

-- a KMRSP with another timestamp has the same destination and the same contents
abbrev confirms_with : (dest : ℕ) (rest : List ℕ) → Option KeyPacketKind → Option Confirmation
confirms_with dest rest None = None
confirms_with dest rest (Some messages.Request) = None
confirms_with dest rest (Some messages.Response) = Some (record { dest = dest; contents = rest })

abbrev confirms_by : (long word0 dest : ℕ) (rest : List ℕ) → Option Confirmation
confirms_by long word0 dest rest = cond (nat_lt long 16) None (cond (nat_lt 1472 long) None (confirms_with dest rest (key_kind_of word0)))

confirmation_parts : (bytes : List ℕ) → confirmation_in bytes ≡ confirms_by (length bytes) (word_at bytes 0) (word_at bytes 12) (drop 16 bytes)
confirmation_parts bytes = by (nat_lt (length bytes) 16) (nat_lt 1472 (length bytes)) (key_kind_of (word_at bytes 0))
  where
    by : (short over : Bool) (kind : Option KeyPacketKind)
        → confirmation_read (cond short None (cond over None (key_packet_with bytes (drop 16 bytes) kind)))
        ≡ cond short None (cond over None (confirms_with (word_at bytes 12) (drop 16 bytes) kind))
    by true over kind = refl
    by false true kind = refl
    by false false None = refl
    by false false (Some messages.Request) = refl
    by false false (Some messages.Response) = refl

same_confirmation : (bytes : List ℕ) (n : ℕ) → 16 ≤ length bytes → confirmation_in (with_word 8 n bytes) ≡ confirmation_in bytes
same_confirmation bytes n h =
    let inside : 8 ≤ length bytes = omega (arith, h) in
    let other = with_word 8 n bytes in
    confirmation_parts other
    ∙ ap (λ long. confirms_by long (word_at other 0) (word_at other 12) (drop 16 other)) (length_with 8 n bytes (omega (arith, h)))
    ∙ ap (λ first. confirms_by (length bytes) first (word_at other 12) (drop 16 other)) (word_before 8 n 0 bytes inside (omega arith))
    ∙ ap (λ dest. confirms_by (length bytes) (word_at bytes 0) dest (drop 16 other)) (word_after 8 n 12 bytes inside (omega arith))
    ∙ ap (λ rest. confirms_by (length bytes) (word_at bytes 0) (word_at bytes 12) rest) (rest_after 8 n 16 bytes (omega (arith, h)) (omega arith))
    ∙ sym (confirmation_parts bytes)

pub confirmations_restamp : (by : ℕ) (bytes : List ℕ) → confirmation_in (restamped by bytes) ≡ confirmation_in bytes
confirmations_restamp by bytes =
    elim (cases_lt (length bytes) 16) [
      | inl short ↦ ap confirmation_in (restamped_short by bytes short)
      | inr long ↦ ap confirmation_in (restamped_long by bytes long) ∙ same_confirmation bytes ((word_at bytes 8 + by) % 2 ^ 32) long
    ]
