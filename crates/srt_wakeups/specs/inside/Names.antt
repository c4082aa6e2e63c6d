-- The names of a run's threads (our choice).
use Rattle.std.specs.Prelude.{ℕ, ◌+◌, ◌-◌, ◌/◌, ◌%◌, ◌^◌, nat_lt, List, [], ◌∷◌, ◌++◌, codes, length, replicate, if◌then◌else◌}
use Rattle.srt_wakeups.specs.declared.naming.ThreadName.{ThreadName}
use Rattle.srt_wakeups.specs.declared.naming.ThreadName.TheVariants.{Start, Tick, Watch, Worker}

-- the last decimal digit of a number
abbrev pub last_digit : (number : ℕ) → ℕ
last_digit number = 48 + number % 10

-- a number of two digits at most, without leading zeros
abbrev pub digits_of : (number : ℕ) → List ℕ
digits_of number =
    if nat_lt number 10 then last_digit number ∷ [] else last_digit (number / 10) ∷ last_digit number ∷ []

-- the text of a thread's name; workers count from 1
abbrev pub text_of : ThreadName → List ℕ
text_of Start = codes "start"
text_of Tick = codes "tick"
text_of Watch = codes "watch"
text_of (Worker index) = codes "work-" ++ digits_of ((index + 1) % 2 ^ 64)

-- the text, followed by zeros up to seven bytes: the system's names end before the first one
abbrev pub padded : (text : List ℕ) → List ℕ
padded text = text ++ replicate (7 - length text) 0
