-- Encrypted data packets: their lengths, how they are read, and their bytes.
use Rattle.std.proofs.Common.{◌≡◌, ◌∙◌, ℕ, ◌+◌, ◌-◌, ◌*◌, ◌^◌, ◌<◌, ◌≤◌, List, ◌++◌, length, length-drop, take, drop}
use Rattle.std.proofs.Common.{Bool, true, false, Ok, refl, sym, ap, subst, arith}
use Rattle.std.proofs.lemmas.Bool.{cond-true}
use Rattle.std.proofs.lemmas.Bool.Decides.{nat_tests}
use Rattle.std.proofs.lemmas.Grind.{common_steps}
use Rattle.std.proofs.lemmas.List.{append-nil, take-append-drop, take_rest, drop-drop, drop_all}
use Rattle.std.proofs.lemmas.Nat.{from_be_bytes-to_be_bytes_4}
use Rattle.std.proofs.Math.Seq.{drop-append_seam, take-append-add}
use borrow.Rule.Slice.PartMut.{put_mid}
use Rattle.srt_types.specs.Words.{word, word_at}
use Rattle.srt_types.specs.Window.{word_of}
use Rattle.srt_aes.specs.Counter.{counter_mode}
use Rattle.srt_aes.proofs.Counting.{length-counter_mode}
use Rattle.srt_packet.specs.Grammar.{Data, Packet, Spells}
use Rattle.srt_packet.specs.Encryption.{is_in_clear, with_payload_encrypted, encrypted, media}
use Rattle.srt_packet.specs.Encryption.{EncryptionKeepsLengths, EncryptedPacketsAreRead, EncryptedTextsAreWritten}
use Rattle.srt_packet.specs.Held.{is_packet_or_nothing}
use Rattle.srt_packet.specs.Reading.{packet_in}
use Rattle.srt_packet.specs.Text.{text, word1_of}
use Rattle.srt_packet.proofs.Agreement.{packet_found, packet_only}
use Rattle.srt_packet.proofs.Sent.{sent_is_read}

-- bytes that are in clear are a header and a payload
long_of : (bytes : List ℕ) → is_in_clear bytes ≡ true → 16 < length bytes
long_of bytes h = grind (arith, nat_tests, h)

lengths_by : (encryption : ℕ) (key salt bytes : List ℕ) (clear : Bool) → is_in_clear bytes ≡ clear →
    length (encrypted encryption key salt bytes) ≡ length bytes
lengths_by encryption key salt bytes false h = rw h refl
lengths_by encryption key salt bytes true h =
    let long = long_of bytes h in
    let payload = length-counter_mode key salt (word_at bytes 0) (drop 16 bytes) in
    let same : length (with_payload_encrypted encryption key salt bytes) ≡ length bytes = grind (arith, common_steps, long, payload) in
    rw h same

pub lengths : EncryptionKeepsLengths
lengths encryption key salt bytes = lengths_by encryption key salt bytes (is_in_clear bytes) refl

spelled_by : (bytes : List ℕ) (p : Packet) → packet_in bytes ≡ Ok p → Spells bytes p
spelled_by bytes p e = let f = packet_found bytes in rw e at f

in_clear : (bytes : List ℕ) (stamp dest number : ℕ) (payload : List ℕ) →
    packet_in bytes ≡ Ok (record { stamp = stamp; dest = dest; body = Data number 0 payload }) → is_in_clear bytes ≡ true
in_clear bytes stamp dest number payload e =
    let s = spelled_by bytes (record { stamp = stamp; dest = dest; body = Data number 0 payload }) e in
    let b = s.body in grind (arith, nat_tests, b.0, b.2, b.3, length-drop 16 bytes)

-- the words of the header, and what is behind it
word_0 : (encryption : ℕ) (key salt bytes : List ℕ) → 16 < length bytes → word_at (with_payload_encrypted encryption key salt bytes) 0 ≡ word_at bytes 0
word_0 encryption key salt bytes long = grind (arith, common_steps, long)

word_4 : (encryption : ℕ) (key salt bytes : List ℕ) → 16 < length bytes → word_at bytes 4 + encryption * 2 ^ 27 < 2 ^ 32 →
    word_at (with_payload_encrypted encryption key salt bytes) 4 ≡ word_at bytes 4 + encryption * 2 ^ 27
word_4 encryption key salt bytes long fits = grind (arith, common_steps, long, fits)

word_8 : (encryption : ℕ) (key salt bytes : List ℕ) → 16 < length bytes → word_at (with_payload_encrypted encryption key salt bytes) 8 ≡ word_at bytes 8
word_8 encryption key salt bytes long = grind (arith, common_steps, long)

word_12 : (encryption : ℕ) (key salt bytes : List ℕ) → 16 < length bytes → word_at (with_payload_encrypted encryption key salt bytes) 12 ≡ word_at bytes 12
word_12 encryption key salt bytes long = grind (arith, common_steps, long)

behind : (encryption : ℕ) (key salt bytes : List ℕ) → 16 < length bytes →
    drop 16 (with_payload_encrypted encryption key salt bytes) ≡ counter_mode key salt (word_at bytes 0) (drop 16 bytes)
behind encryption key salt bytes long =
    let head = take 4 bytes ++ word (word_at bytes 4 + encryption * 2 ^ 27) ++ take 8 (drop 8 bytes) in
    let payload = counter_mode key salt (word_at bytes 0) (drop 16 bytes) in
    let whole : length head ≡ 16 = grind (arith, common_steps, long) in
    subst (λ (n : ℕ). drop n (head ++ payload) ≡ payload) whole (drop-append_seam head payload)

pub read : EncryptedPacketsAreRead
read encryption key salt bytes stamp dest number payload few fits e =
    let clear = in_clear bytes stamp dest number payload e in
    let long = long_of bytes clear in
    let same = lengths encryption key salt bytes in
    let changed = cond-true (is_in_clear bytes) (with_payload_encrypted encryption key salt bytes) bytes clear in
    let s = spelled_by bytes (record { stamp = stamp; dest = dest; body = Data number 0 payload }) e in
    let b = s.body in
    let first = word_0 encryption key salt bytes long in
    let second = word_4 encryption key salt bytes long (omega (arith, few, fits, b.2)) in
    let rest = behind encryption key salt bytes long in
    let cipher = length-counter_mode key salt (word_at bytes 0) (drop 16 bytes) in
    let now : length (with_payload_encrypted encryption key salt bytes) ≡ length bytes = ap length (sym changed) ∙ same in
    ap packet_in changed ∙
    packet_only (with_payload_encrypted encryption key salt bytes)
    (record { stamp = stamp; dest = dest; body = Data number encryption (counter_mode key salt number payload) })
    (record {
      header = omega (arith, now, long);
      limit = omega (arith, now, s.limit);
      stamp = s.stamp ∙ sym (word_8 encryption key salt bytes long);
      dest = s.dest ∙ sym (word_12 encryption key salt bytes long);
      body = (
        omega (arith, first, b.0),
        b.1 ∙ sym first,
        omega (arith, second, few, b.2),
        omega (arith, now, long, length-drop 16 (with_payload_encrypted encryption key salt bytes)),
        rw (b.1, b.4) (sym rest),
      );
    })

kept_by : (encryption : ℕ) (key salt bytes : List ℕ) (clear : Bool) → is_in_clear bytes ≡ clear → length bytes ≤ 1472 →
    is_packet_or_nothing bytes ≡ true → is_packet_or_nothing (encrypted encryption key salt bytes) ≡ true
unfolding is_packet_or_nothing
kept_by encryption key salt bytes false h limit holds = rw h holds
kept_by encryption key salt bytes true h limit holds =
    let long = long_of bytes h in
    let first = word_0 encryption key salt bytes long in
    let same = lengths encryption key salt bytes in
    let changed = cond-true (is_in_clear bytes) (with_payload_encrypted encryption key salt bytes) bytes h in
    let now : length (with_payload_encrypted encryption key salt bytes) ≡ length bytes = ap length (sym changed) ∙ same in
    let small : word_at bytes 0 < 2 ^ 31 = grind (arith, nat_tests, h) in
    let rest = length-drop 16 (with_payload_encrypted encryption key salt bytes) in
    let goal : is_packet_or_nothing (with_payload_encrypted encryption key salt bytes) ≡ true =
    grind (arith, nat_tests, long, first, now, small, rest, limit) in
    rw h goal

-- a packet stays one
pub kept : (encryption : ℕ) (key salt bytes : List ℕ) → length bytes ≤ 1472 →
    is_packet_or_nothing bytes ≡ true → is_packet_or_nothing (encrypted encryption key salt bytes) ≡ true
kept encryption key salt bytes limit holds = kept_by encryption key salt bytes (is_in_clear bytes) refl limit holds

pub written : EncryptedTextsAreWritten
written encryption key salt stamp dest number message again payload h =
    let p = media stamp dest number message again payload in
    let r = sent_is_read p h in
    let clear = in_clear (text p) stamp dest (word_of number) payload.bytes.now r in
    let first = from_be_bytes-to_be_bytes_4 (word_of number) (omega (arith, number.small)) in
    let second = from_be_bytes-to_be_bytes_4 (word1_of p.body) h.word1 in
    cond-true (is_in_clear (text p)) (with_payload_encrypted encryption key salt (text p)) (text p) clear ∙ rw (first, second) refl

-- what is written in the place of the payload
sixteen : (xs : List ℕ) → 8 ≤ length xs → take 16 xs ≡ take 8 xs ++ take 8 (drop 8 xs)
sixteen xs h =
    let long : length (take 8 xs) ≡ 8 = grind (arith, common_steps, h) in
    sym (ap (take 16) (take-append-drop 8 xs)) ∙
    subst (λ (n : ℕ). take (n + 8) (take 8 xs ++ drop 8 xs) ≡ take 8 xs ++ take 8 (drop 8 xs)) long (take-append-add (take 8 xs) (drop 8 xs) 8)

pub placed : (encryption : ℕ) (key salt old out payload : List ℕ) → is_in_clear old ≡ true → length out ≡ length old →
    take 8 out ≡ take 4 old ++ word (word_at old 4 + encryption * 2 ^ 27) → drop 8 out ≡ drop 8 old →
    payload ≡ counter_mode key salt (word_at old 0) (take (length out - 16) (drop 16 out)) →
    put_mid 16 (length out - 16) out payload ≡ encrypted encryption key salt old
placed encryption key salt old out payload clear long front back made =
    let more = long_of old clear in
    let whole = take_rest out 16 in
    let after : drop 16 out ≡ drop 16 old = sym (drop-drop 8 8 out) ∙ ap (drop 8) back ∙ drop-drop 8 8 old in
    let nothing = drop_all (length out - 16) (drop 16 out) (omega (arith, length-drop 16 out)) in
    let text : payload ≡ counter_mode key salt (word_at old 0) (drop 16 old) = made ∙ ap (counter_mode key salt (word_at old 0)) (whole ∙ after) in
    let head : take 16 out ≡ take 4 old ++ word (word_at old 4 + encryption * 2 ^ 27) ++ take 8 (drop 8 old) =
    sixteen out (omega (arith, long, more)) ∙ rw (front, back) refl in
    ap (λ (v : List ℕ). take 16 out ++ (payload ++ v)) nothing ∙ ap (λ (v : List ℕ). take 16 out ++ v) (append-nil payload) ∙
    rw (head, text) refl ∙ sym (cond-true (is_in_clear old) (with_payload_encrypted encryption key salt old) old clear)
