-- What a thread found in a number that others write: `had` is what is known of the number that it read.
use Rattle.std.specs.Prelude.{◌≡◌, ◌≢◌, ◌⊎◌, ◌<◌, ℕ}

module _ {W : Type 0} (had : W → ℕ → Type 0) where
  -- a flag was set
  abbrev pub WasSet : W → Type 0
  WasSet flag = (n : ℕ) × (n ≢ 0) × had flag n

  -- a word stated no route, of this many: it is 0, or more than their number
  abbrev pub StatedNone : W → (routes : ℕ) → Type 0
  StatedNone word routes = (n : ℕ) × ((n ≡ 0) ⊎ (routes < n)) × had word n
