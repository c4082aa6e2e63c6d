-- Marks in a word: the route with index r has bit r % 64 of word r / 64 (our choice).
use Rattle.std.specs.Prelude.{◌≡◌, ℕ, ◌<◌, ◌≤◌, ◌%◌}
use Rattle.std.specs.Int.{bit_at}

-- the route's bit in its word
abbrev pub place_of : (route : ℕ) → ℕ
place_of route = route % 64

-- a bit of a word from this one on is the first that is set; 64 if none is
pub record IsFirstFrom (word from place : ℕ) : Type 0 where
  pub in_word : place ≤ 64
  pub is_later : place < 64 → from ≤ place
  pub is_set : place < 64 → bit_at word place ≡ 1
  pub is_first : (other : ℕ) → from ≤ other → other < place → bit_at word other ≡ 0
