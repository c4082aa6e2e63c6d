-- Moments as texts in UTC.
use Rattle.std.specs.Prelude.{◌≡◌, ℕ, ◌+◌, ◌/◌, ◌%◌, List, [], ◌∷◌, min}
use Rattle.srt_log.specs.declared.dates.Date.{Date}
use Rattle.srt_log.specs.Dates.{IsDate, days_of}

-- the digit of a number at a place: 1, 10, 100 or 1000
abbrev pub digit_at : (number place : ℕ) → ℕ
digit_at number place = 48 + number / place % 10

-- a date and a time of the day, in milliseconds, as 2026-11-26T15:04:05.123Z
unfoldable pub text_of : Date → (millis : ℕ) → List ℕ
text_of date millis =
    digit_at date.year 1000 ∷ digit_at date.year 100 ∷ digit_at date.year 10 ∷ digit_at date.year 1 ∷ 45
    ∷ digit_at date.month 10 ∷ digit_at date.month 1 ∷ 45
    ∷ digit_at date.day 10 ∷ digit_at date.day 1 ∷ 84
    ∷ digit_at (millis / 3_600_000) 10 ∷ digit_at (millis / 3_600_000) 1 ∷ 58
    ∷ digit_at (millis / 60_000 % 60) 10 ∷ digit_at (millis / 60_000 % 60) 1 ∷ 58
    ∷ digit_at (millis / 1000 % 60) 10 ∷ digit_at (millis / 1000 % 60) 1 ∷ 46
    ∷ digit_at millis 100 ∷ digit_at millis 10 ∷ digit_at millis 1 ∷ 90 ∷ []

-- whole milliseconds since 1970, up to the end of 9999
abbrev pub millis_of : (micros : ℕ) → ℕ
millis_of micros = min micros 253_402_300_799_999_999 / 1000

-- the text of a moment: that of the date which has as many days before it, and of the time of that day
abbrev pub IsUtcText : (micros : ℕ) → List ℕ → Type 0
IsUtcText micros text =
    (date : Date) × IsDate date × (days_of date ≡ millis_of micros / 86_400_000)
    × (text ≡ text_of date (millis_of micros % 86_400_000))
