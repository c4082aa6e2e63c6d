use Rattle.std.proofs.Common.{◌≡◌, ℕ, ◌+◌, ◌*◌, ◌≤◌, ◌++◌, List, take, drop}
use Rattle.srt_types.specs.Words.{words}
use Rattle.srt_types.proofs.words.write_words.Given as goal

-- the first count words of the list have been written
pub record IsWrittenTo (old new list : List ℕ) (at end count : ℕ) : Type 0 where
  pub end_is : end ≡ at + 4 * count
  pub written : take end new ≡ take at old ++ words (take count list)
  pub kept : (k : ℕ) → end ≤ k → drop k new ≡ drop k old

abbrev pub invariant-loop-word : goal.invariant-loop-word
invariant-loop-word l = IsWrittenTo l.fn.out l.out l.list l.at l.end l.word-index
