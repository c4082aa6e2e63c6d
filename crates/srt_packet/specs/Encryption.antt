-- Data packets that are encrypted (section 3.1).
use Rattle.std.specs.Prelude.{◌≡◌, ℕ, ◌+◌, ◌*◌, ◌/◌, ◌%◌, ◌^◌, ◌<◌, ◌==◌, Bool, false, List, ◌++◌, length, take, drop, nat_lt, Ok, if◌then◌else◌}
use Rattle.srt_types.specs.Words.{word, word_at}
use Rattle.srt_aes.specs.Counter.{counter_mode}
use Rattle.srt_types.specs.Window.{word_of}
use Rattle.srt_types.specs.declared.numbers.Seq31.{Seq31}
use Rattle.srt_types.specs.declared.numbers.Msg26.{Msg26}
use Rattle.srt_types.specs.declared.shared.PayloadRef.{PayloadRef}
use Rattle.srt_packet.specs.declared.writing.Body.TheVariants.{Media}
use Rattle.srt_packet.specs.declared.writing.Packet.{Packet}
use Rattle.srt_packet.specs.Grammar as grammar
use Rattle.srt_packet.specs.Reading.{packet_in}
use Rattle.srt_packet.specs.Sent.{CanBeSent}
use Rattle.srt_packet.specs.Text.{text, word1_of}

-- these bytes are a data packet in clear: the field KK, bits 27 and 28 of word 1, is 0
abbrev pub is_in_clear : List ℕ → Bool
is_in_clear bytes =
    if nat_lt 16 (length bytes) then (if nat_lt (word_at bytes 0) (2 ^ 31) then word_at bytes 4 / 2 ^ 27 % 4 == 0 else false)
    else false

-- the bytes with this value of the field KK, and with the payload under this key
abbrev pub with_payload_encrypted : (encryption : ℕ) → (key salt : List ℕ) → List ℕ → List ℕ
with_payload_encrypted encryption key salt bytes =
    take 4 bytes ++ word (word_at bytes 4 + encryption * 2 ^ 27) ++ take 8 (drop 8 bytes)
    ++ counter_mode key salt (word_at bytes 0) (drop 16 bytes)

-- a data packet in clear as it is encrypted; all other bytes are unchanged
abbrev pub encrypted : (encryption : ℕ) → (key salt : List ℕ) → List ℕ → List ℕ
encrypted encryption key salt bytes = if is_in_clear bytes then with_payload_encrypted encryption key salt bytes else bytes

-- the length of a packet doesn't change
abbrev pub EncryptionKeepsLengths : Type 0
EncryptionKeepsLengths = (encryption : ℕ) (key salt bytes : List ℕ) → length (encrypted encryption key salt bytes) ≡ length bytes

-- an encrypted packet is read as the one in clear, with the field KK and with the encrypted payload; word 1 has 32 bits
abbrev pub EncryptedPacketsAreRead : Type 0
EncryptedPacketsAreRead =
    (encryption : ℕ) (key salt bytes : List ℕ) (stamp dest number : ℕ) (payload : List ℕ) → encryption < 4 → word_at bytes 4 < 2 ^ 32 →
    packet_in bytes ≡ Ok (record { stamp = stamp; dest = dest; body = grammar.Data number 0 payload }) →
    packet_in (encrypted encryption key salt bytes) ≡
    Ok (record { stamp = stamp; dest = dest; body = grammar.Data number encryption (counter_mode key salt number payload) })

abbrev pub media : (stamp dest : ℕ) → Seq31 → Msg26 → (again : Bool) → PayloadRef → Packet
media stamp dest number message again payload = record { stamp = stamp; dest = dest; body = Media number message again payload }

-- the bytes of an encrypted data packet: the field KK is added to word 1, and nothing else of the header changes
abbrev pub EncryptedTextsAreWritten : Type 0
EncryptedTextsAreWritten =
    (encryption : ℕ) (key salt : List ℕ) (stamp dest : ℕ) (number : Seq31) (message : Msg26) (again : Bool) (payload : PayloadRef) →
    let p = media stamp dest number message again payload in CanBeSent p →
    encrypted encryption key salt (text p) ≡
    word (word_of number) ++ word (word1_of p.body + encryption * 2 ^ 27) ++ word stamp ++ word dest
    ++ counter_mode key salt (word_of number) payload.bytes.now
