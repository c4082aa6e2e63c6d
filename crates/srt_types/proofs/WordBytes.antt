-- The bytes of words.
use Rattle.std.proofs.Common.{◌≡◌, ℕ, ◌*◌, List, [], ◌∷◌, length, arith}
use Rattle.srt_types.specs.Words.{words}

pub length_of_words : (ns : List ℕ) → length (words ns) ≡ 4 * length ns
length_of_words [] = omega arith
length_of_words (n ∷ ns) = omega (arith, length_of_words ns)
