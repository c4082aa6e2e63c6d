-- Words of 32 bits in network byte order (section 3).
use Rattle.std.specs.Prelude.{ℕ, ◌+◌, List, [], ◌∷◌, slice_index, flat_map}
use Rattle.std.specs.Int.{w32, from_be_bytes, to_be_bytes}

-- the word encoded by the four bytes at this offset, the most significant byte first
abbrev pub word_at : List ℕ → ℕ → ℕ
word_at bytes at = from_be_bytes w32 (slice_index bytes at ∷ slice_index bytes (at + 1) ∷ slice_index bytes (at + 2) ∷ slice_index bytes (at + 3) ∷ [])

-- the four bytes that encode a word
abbrev pub word : ℕ → List ℕ
word n = to_be_bytes w32 n

-- the bytes that encode a list of words
abbrev pub words : List ℕ → List ℕ
words ns = flat_map word ns

-- the words that a list of bytes encodes, four bytes each; one to three bytes at the end are ignored
abbrev pub words_in : List ℕ → List ℕ
words_in (a ∷ b ∷ c ∷ d ∷ rest) = word_at (a ∷ b ∷ c ∷ d ∷ []) 0 ∷ words_in rest
words_in _ = []
