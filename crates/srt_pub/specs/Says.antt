-- The bytes of the packets that a session sends (sections 3.2.3 to 3.2.5).
use Rattle.std.specs.Prelude.{ℕ, ◌%◌, ◌^◌, List, [], ◌∷◌, map}
use Rattle.srt_types.specs.Counts.{ack_number}
use Rattle.srt_types.specs.Runs.{Range, Run}
use Rattle.srt_loss.specs.Text.{loss_words}
use Rattle.srt_packet.specs.declared.writing.Body.{Body}
use Rattle.srt_types.specs.Words.{words}
use Rattle.srt_packet.specs.Text.{text}
use Rattle.srt_types.specs.Window.{number_word}
use Rattle.srt_pub.specs.Publishing.{Report, FullAck, LightAck, NakOfAll, NakOfNew, KeepAlive}

-- the sequence numbers of a run's first and last number
abbrev pub range_said : (initial : ℕ) → Run → Range
range_said initial run = record { first = number_word initial run.low; last = number_word initial run.high }

-- the words of a loss list with these runs
abbrev pub losses_said : (initial : ℕ) → List Run → List ℕ
losses_said initial rs = loss_words (map (range_said initial) rs)

-- the first header word: the top bit of a control packet, and its type (section 3.2, table 1)
abbrev pub first_word : Report → ℕ
first_word (FullAck index point round_trip variance available rates) = 0x8002_0000
first_word (LightAck point) = 0x8002_0000
first_word (NakOfAll rs) = 0x8003_0000
first_word (NakOfNew rs) = 0x8003_0000
first_word KeepAlive = 0x8001_0000

-- the second header word: the number of a Full ACK, else 0
abbrev pub second_word : Report → ℕ
second_word (FullAck index point round_trip variance available rates) = ack_number index
second_word _ = 0

-- the words of the packet's control information
abbrev pub other_words : (initial : ℕ) → Report → List ℕ
other_words initial (FullAck index point round_trip variance available rates) =
    number_word initial point ∷ round_trip ∷ variance ∷ available ∷ rates.packets ∷ rates.capacity ∷ rates.bytes ∷ []
other_words initial (LightAck point) = number_word initial point ∷ []
other_words initial (NakOfAll rs) = losses_said initial rs
other_words initial (NakOfNew rs) = losses_said initial rs
other_words initial KeepAlive = []

-- the words of a packet that is sent at this time since the opening
abbrev pub words_said : (caller initial time : ℕ) → Report → List ℕ
words_said caller initial time report = first_word report ∷ second_word report ∷ time % 2 ^ 32 ∷ caller ∷ other_words initial report

-- the bytes of these words
unfoldable pub says : (caller initial time : ℕ) → Report → List ℕ
says caller initial time report = words (words_said caller initial time report)

-- the bytes of a packet with this body
unfoldable pub body_bytes : (caller time : ℕ) → Body → List ℕ
body_bytes caller time body = text (record { stamp = time % 2 ^ 32; dest = caller; body = body })
