-- The grammar of a tape's text: lines, fields and hexadecimal digits (our choice). `srt_config` has that of numbers.
use Rattle.std.specs.Prelude.{ℕ, ◌==◌, List, [], ◌∷◌, Option, if◌then◌else◌}
use Rattle.std.specs.Result.{result_ok}
use Rattle.hex.specs.Hex.{decode_of, decode_sized}

-- one more byte at the front of the first piece
abbrev pub onto : ℕ → List (List ℕ) → List (List ℕ)
onto b [] = (b ∷ []) ∷ []
onto b (piece ∷ pieces) = (b ∷ piece) ∷ pieces

-- the lines, each ended by LF, which is optional after the last one
abbrev pub lines_of : List ℕ → List (List ℕ)
lines_of [] = []
lines_of (b ∷ bytes) = if b == 10 then [] ∷ lines_of bytes else onto b (lines_of bytes)

-- the greatest length of a line in bytes
abbrev pub max_line : ℕ
max_line = 4096

-- the greatest number of lines of a tape
abbrev pub max_lines : ℕ
max_lines = 1_000_000

-- the fields of a line, separated by one space each
abbrev pub fields_of : List ℕ → List (List ℕ)
fields_of [] = [] ∷ []
fields_of (b ∷ bytes) = if b == 32 then [] ∷ fields_of bytes else onto b (fields_of bytes)

-- the bytes of hexadecimal digits, two for each byte, in either case
unfoldable pub bytes_in : List ℕ → Option (List ℕ)
bytes_in text = result_ok (decode_of text)

-- the 16 bytes of an address in 32 hexadecimal digits
unfoldable pub address_in : List ℕ → Option (List ℕ)
address_in text = result_ok (decode_sized text 16)
