-- Sequence numbers of packets and the unbounded numbers that they denote (section 3.1).
use Rattle.std.specs.Prelude.{◌≡◌, ℕ, ◌+◌, ◌-◌, ◌%◌, ◌^◌, ◌<◌, ◌≤◌, Option, None, Some, option_map, nat_lt, ◌&&◌, if◌then◌else◌}
use Rattle.srt_types.specs.declared.numbers.Seq31.{Seq31}

-- the word of a sequence number
abbrev pub word_of : Seq31 → ℕ
word_of s = s.word

-- n lies in front .. front + width, the upper end excluded, and has this word
pub record IsInWindow (word front width n : ℕ) : Type 0 where
  pub above : front ≤ n
  pub below : n < front + width
  pub same : n % 2 ^ 31 ≡ word

-- the only number that satisfies IsInWindow; none if there is none
abbrev pub IsWindowNumber : (word front width : ℕ) → Option ℕ → Type 0
IsWindowNumber word front width None = (n : ℕ) → IsInWindow word front width n → ⊥
IsWindowNumber word front width (Some n) = IsInWindow word front width n × ((m : ℕ) → IsInWindow word front width m → m ≡ n)

-- the offset of a word from another one, modulo 2^31
abbrev pub offset_of : (word from : ℕ) → ℕ
offset_of word from = (word + (2 ^ 31 - from % 2 ^ 31)) % 2 ^ 31

-- the number in front .. front + width, the upper end excluded, that has this word
unfoldable pub in_window : (word front width : ℕ) → Option ℕ
in_window word front width = if nat_lt word (2 ^ 31) && nat_lt (offset_of word front) width then Some (front + offset_of word front) else None

-- a word as a number relative to an initial number; 2^31, which is no such number, if the word's top bit is set
abbrev pub counted_from : (initial word : ℕ) → ℕ
counted_from initial word = if nat_lt word (2 ^ 31) then offset_of word initial else 2 ^ 31

-- the word of a number that is relative to an initial number
abbrev pub number_word : (initial n : ℕ) → ℕ
number_word initial n = (initial + n) % 2 ^ 31

-- in a window of at most 2^31 numbers, the value of in_window is the only number with the word
abbrev pub InWindowIsTheNumber : Type 0
InWindowIsTheNumber = (word front width : ℕ) → width ≤ 2 ^ 31 → IsWindowNumber word front width (in_window word front width)

-- each number of a window is the initial number plus a number relative to it
abbrev pub NumbersFromInitial : Type 0
NumbersFromInitial =
    (initial word front width : ℕ)
    → in_window word (initial + front) width
    ≡ option_map (λ n. initial + n) (in_window (counted_from initial word) front width)
