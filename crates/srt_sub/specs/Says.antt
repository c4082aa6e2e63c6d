-- The bytes of the packets that a subscriber's session sends (section 3).
use Rattle.std.specs.Prelude.{ℕ, ◌+◌, ◌%◌, ◌^◌, List, [], ◌∷◌, ◌++◌, if◌then◌else◌}
use Rattle.srt_types.specs.Words.{word, words}
use Rattle.srt_types.specs.Counts.{message_number}
use Rattle.srt_types.specs.Window.{number_word}
use Rattle.srt_sub.specs.Subscribing.{Report, Acked, Dropped, Media, KeepAlive}

-- a packet of its four header words and the bytes after them
abbrev pub packet_text : (word0 word1 stamp caller : ℕ) → List ℕ → List ℕ
packet_text word0 word1 stamp caller rest = word word0 ++ word word1 ++ word stamp ++ word caller ++ rest

-- the bytes of a packet to a caller's socket ID, of a session with this initial number, at a time since its opening.
-- The timestamp of a data packet is the time at which its payload was queued. It is a complete message, in order and
-- unencrypted, with the flag R if it was sent before
abbrev pub says : (caller initial time : ℕ) → Report → List ℕ
says d i t (Acked mark) = packet_text 0x8006_0000 mark (t % 2 ^ 32) d []
says d i t (Dropped run) = packet_text 0x8007_0000 (message_number run.low) (t % 2 ^ 32) d (words (number_word i run.low ∷ number_word i run.high ∷ []))
says d i t (Media number again origin payload) =
    packet_text (number_word i number) ((if again then 0xe400_0000 else 0xe000_0000) + message_number number) (origin % 2 ^ 32) d payload
says d i t KeepAlive = packet_text 0x8001_0000 0 (t % 2 ^ 32) d []
