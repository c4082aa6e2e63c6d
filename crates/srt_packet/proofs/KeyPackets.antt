-- The function that reads packets with key material messages agrees with their grammar, and what is written reads back.
use Rattle.std.proofs.Common.{◌≡◌, ◌∙◌, ℕ, ◌<◌, ◌≤◌, ◌/◌, ◌^◌, List, ◌++◌, length, length-append, drop, Option, Some, None, IfSome, refl, sym, ap, arith}
use Rattle.std.specs.Prelude.{IsSomeAnd}
use Rattle.std.proofs.lemmas.Bool.Decides.{nat_tests}
use Rattle.std.proofs.lemmas.Nat.{from_be_bytes-to_be_bytes_4}
use Rattle.srt_types.specs.Words.{word_at}
use Rattle.srt_packet.specs.declared.key_packet.KeyPacketKind.{KeyPacketKind}
use Rattle.srt_packet.specs.declared.key_packet.KeyPacketKind.TheVariants.{Request, Response}
use Rattle.srt_packet.specs.declared.key_packet.KeyPacketRef.{KeyPacketRef}
use Rattle.srt_packet.specs.Grammar.{UserDefined}
use Rattle.srt_packet.specs.KeyPacket.{KeyPacket, SpellsKeyPacket, key_word0, key_kind_of, key_packet_with, key_packet_after}
use Rattle.srt_packet.specs.KeyPacket.{key_packet_in, key_packet_text, key_packet_of, key_packet_read}
use Rattle.srt_packet.specs.KeyPacket.{CanBeSentWithKeys, KeyPacketReadingIsSpelling, KeyPacketsReadBack, KeyPacketsAreUserDefined}
use Rattle.srt_packet.proofs.Agreement.{packet_only}
use Rattle.srt_packet.proofs.Parts.{after_head, word_of_head}

pub key_packet_found : (bytes : List ℕ) → IfSome (key_packet_in bytes) (λ p. SpellsKeyPacket bytes p)
key_packet_found bytes = grind (arith, nat_tests)

kind_only : (kind : KeyPacketKind) → key_kind_of (key_word0 kind) ≡ Some kind
kind_only Request = refl
kind_only Response = refl

pub key_packet_only : (bytes : List ℕ) (p : KeyPacket) → SpellsKeyPacket bytes p → key_packet_in bytes ≡ Some p
key_packet_only bytes p s =
    let kind = ap key_kind_of s.kind ∙ kind_only p.kind in
    let rest = ap (key_packet_with bytes (drop 16 bytes)) kind in
    grind (arith, nat_tests, rest, s.header, s.limit, s.stamp, s.dest, s.info)

pub found_by : (bytes : List ℕ) (r : Option KeyPacketRef) → key_packet_read r ≡ key_packet_in bytes →
    IfSome r (λ p. SpellsKeyPacket bytes (key_packet_of p))
found_by bytes (Some p) e = let f = key_packet_found bytes in rw (← e) at f
found_by bytes None e = tt

pub only_by : (bytes : List ℕ) (r : Option KeyPacketRef) → key_packet_read r ≡ key_packet_in bytes → (packet : KeyPacket) →
    SpellsKeyPacket bytes packet → IsSomeAnd r (λ p. key_packet_of p ≡ packet)
only_by bytes (Some p) e packet s = let k = e ∙ key_packet_only bytes packet s in cc
only_by bytes None e packet s = let k = e ∙ key_packet_only bytes packet s in cc

with_words : (head other rest : List ℕ) (kind : Option KeyPacketKind) → word_at other 8 ≡ word_at head 8 → word_at other 12 ≡ word_at head 12 →
    key_packet_with head rest kind ≡ key_packet_with other rest kind
with_words head other rest None stamp dest = refl
with_words head other rest (Some kind) stamp dest = rw (stamp, dest) refl

key_parts_are : (head body : List ℕ) → length head ≡ 16 → key_packet_after head body ≡ key_packet_after (head ++ body) (drop 16 (head ++ body))
key_parts_are head body h =
    let words =
    with_words head (head ++ body) body (key_kind_of (word_at head 0)) (word_of_head head body 8 (omega (arith, h)))
    (word_of_head head body 12 (omega (arith, h))) in
    rw (after_head head body h, word_of_head head body 0 (omega (arith, h))) words

whole_is : (bytes : List ℕ) → 16 ≤ length bytes → length bytes ≤ 1472 → key_packet_after bytes (drop 16 bytes) ≡ key_packet_in bytes
whole_is bytes header limit = grind (arith, nat_tests)

pub key_parts_by : (head body : List ℕ) (r : Option KeyPacket)
    → length head ≡ 16 → length body ≤ 1456 → r ≡ key_packet_after head body → r ≡ key_packet_in (head ++ body)
key_parts_by head body r h limit e =
    e ∙ key_parts_are head body h ∙ whole_is (head ++ body) (omega (arith, length-append head body)) (omega (arith, length-append head body))

word0_fits : (kind : KeyPacketKind) → key_word0 kind < 2 ^ 32
word0_fits Request = omega arith
word0_fits Response = omega arith

pub written_is_spelled : (p : KeyPacket) → CanBeSentWithKeys p → SpellsKeyPacket (key_packet_text p) p
written_is_spelled p h =
    record {
      header = omega arith;
      limit = omega (arith, h.info);
      kind = from_be_bytes-to_be_bytes_4 (key_word0 p.kind) (word0_fits p.kind);
      stamp = sym (from_be_bytes-to_be_bytes_4 p.stamp h.stamp);
      dest = sym (from_be_bytes-to_be_bytes_4 p.dest h.dest);
      info = refl;
    }

pub reads_back : KeyPacketsReadBack
reads_back p h = key_packet_only (key_packet_text p) p (written_is_spelled p h)

pub reading_is_spelling : KeyPacketReadingIsSpelling
reading_is_spelling bytes p = (λ e. let f = key_packet_found bytes in rw e at f, key_packet_only bytes p)

user_defined_word : (kind : KeyPacketKind) (n : ℕ) → n ≡ key_word0 kind → n / 2 ^ 16 ≡ 0xffff
user_defined_word Request n e = omega (arith, e)
user_defined_word Response n e = omega (arith, e)

pub are_user_defined : KeyPacketsAreUserDefined
are_user_defined bytes p s =
    packet_only bytes (record { stamp = p.stamp; dest = p.dest; body = UserDefined }) (
    record {
      header = s.header;
      limit = s.limit;
      stamp = s.stamp;
      dest = s.dest;
      body = user_defined_word p.kind (word_at bytes 0) s.kind;
    })
