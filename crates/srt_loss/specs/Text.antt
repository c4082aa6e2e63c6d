-- The words that are written for ranges (appendix A, packet sequence list coding).
use Rattle.std.specs.Prelude.{◌≡◌, ℕ, ◌+◌, ◌^◌, ◌<◌, ◌==◌, List, [], ◌∷◌, All, Ok, if◌then◌else◌}
use Rattle.std.specs.List.{flat_map}
use Rattle.srt_types.specs.Words.{word}
use Rattle.srt_types.specs.Runs.{Range, span}
use Rattle.srt_types.specs.Window.{word_of}
use Rattle.srt_types.specs.declared.numbers.Seq31.{Seq31}
use Rattle.srt_loss.specs.Reading.{losses_in}

-- a pair of sequence numbers as a range
abbrev pub range_of : Seq31 × Seq31 → Range
range_of r = record { first = word_of r.0; last = word_of r.1 }

-- the words of a range: a range of one number is one word; a longer one is its first number with top bit 1, and its
-- last
abbrev pub range_words : Range → List ℕ
range_words r = if r.first == r.last then r.first ∷ [] else (r.first + 2 ^ 31) ∷ r.last ∷ []

-- the words of a list of ranges, in order
abbrev pub loss_words : List Range → List ℕ
loss_words rs = flat_map range_words rs

-- the bytes of a list of ranges
abbrev pub loss_text : List Range → List ℕ
loss_text rs = flat_map word (loss_words rs)

-- the range can be written: both ends are sequence numbers, and they are fewer than 2^30 apart
pub record IsWritable (r : Range) : Type 0 where
  pub first : r.first < 2 ^ 31
  pub last : r.last < 2 ^ 31
  pub near : span r < 2 ^ 30

-- reading what is written returns exactly the ranges that were written
abbrev pub WrittenIsRead : Type 0
WrittenIsRead = (rs : List Range) → All IsWritable rs → losses_in (loss_text rs) ≡ Ok rs
