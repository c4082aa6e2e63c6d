-- Durations as they stand on a command line, in microseconds (our choice): a number of seconds, or numbers with the units d, h, m and s.
use Rattle.std.specs.Prelude.{ℕ, ◌+◌, ◌-◌, ◌*◌, ◌^◌, ◌==◌, nat_le, nat_lt, Bool, true, ◌&&◌, List, [], ◌∷◌, Option, None, Some, if◌then◌else◌}
use Rattle.std.specs.Option.{unwrap_or}
use Rattle.srt_command_line.specs.declared.durations.DurationReading.{DurationReading}

-- the unit of a letter: s, m, h or d
abbrev pub unit_of : (letter : ℕ) → Option ℕ
unit_of letter =
    if letter == 115 then Some 1_000_000
    else (if letter == 109 then Some 60_000_000
    else (if letter == 104 then Some 3_600_000_000
    else (if letter == 100 then Some 86_400_000_000 else None)))

-- before the first byte
abbrev pub nothing : DurationReading
nothing = record { sum = 0; number = None; unit = None }

-- a number with one more digit, while it is below 2^64
abbrev pub with_digit : (number digit : ℕ) → Option ℕ
with_digit number digit = if nat_lt (number * 10 + digit) (2 ^ 64) then Some (number * 10 + digit) else None

abbrev pub with_number : DurationReading → Option ℕ → Option DurationReading
with_number reading None = None
with_number reading (Some number) = Some (record reading { number = Some number })

-- a unit may stand behind this one
abbrev pub is_smaller : (unit : ℕ) → (last : Option ℕ) → Bool
is_smaller unit None = true
is_smaller unit (Some last) = nat_lt unit last

-- one more part, while the sum is at most 365 days
abbrev pub with_part : DurationReading → (number unit : ℕ) → Option DurationReading
with_part reading number unit =
    if is_smaller unit reading.unit && nat_le (number * unit + reading.sum) 31_536_000_000_000
    then Some (record { sum = number * unit + reading.sum; number = None; unit = Some unit }) else None

abbrev pub with_unit : DurationReading → (number unit : Option ℕ) → Option DurationReading
with_unit reading None unit = None
with_unit reading (Some number) None = None
with_unit reading (Some number) (Some unit) = with_part reading number unit

-- one more byte: a digit, or the unit of the number before it
abbrev pub with_byte : DurationReading → (byte : ℕ) → Option DurationReading
with_byte reading byte =
    if nat_le 48 byte && nat_le byte 57 then with_number reading (with_digit (unwrap_or reading.number 0) (byte - 48))
    else with_unit reading reading.number (unit_of byte)

-- what is read with these bytes
abbrev pub read_from : Option DurationReading → (bytes : List ℕ) → Option DurationReading
read_from None bytes = None
read_from (Some reading) [] = Some reading
read_from (Some reading) (b ∷ bytes) = read_from (with_byte reading b) bytes

abbrev pub read_all : (text : List ℕ) → Option DurationReading
read_all text = read_from (Some nothing) text

-- a product below 2^64
abbrev pub seconds_of : (number : ℕ) → Option ℕ
seconds_of number = if nat_lt (number * 1_000_000) (2 ^ 64) then Some (number * 1_000_000) else None

-- the sum of what was read; a number alone is one of seconds, and one behind a part has to have its unit
abbrev pub sum_by : (sum : ℕ) → (number unit : Option ℕ) → Option ℕ
sum_by sum None unit = Some sum
sum_by sum (Some number) None = seconds_of number
sum_by sum (Some number) (Some unit) = None

abbrev pub sum_of : DurationReading → Option ℕ
sum_of reading = sum_by reading.sum reading.number reading.unit

-- a duration of 1 second to 365 days
abbrev pub in_bounds : Option ℕ → Option ℕ
in_bounds None = None
in_bounds (Some duration) = if nat_le 1_000_000 duration && nat_le duration 31_536_000_000_000 then Some duration else None

abbrev pub sum_if : Option DurationReading → Option ℕ
sum_if None = None
sum_if (Some reading) = sum_of reading

-- the duration of a text
abbrev pub duration_in : (text : List ℕ) → Option ℕ
duration_in text = in_bounds (sum_if (read_all text))
