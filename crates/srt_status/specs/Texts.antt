-- The parts of a text.
use Rattle.std.specs.Prelude.{ℕ, suc, ◌+◌, ◌/◌, ◌%◌, ℤ, pos, negsuc, ◌==◌, nat_lt, List, [], ◌∷◌, ◌++◌, codes, decimal, if◌then◌else◌}
use Rattle.std.specs.Char.{digit_char}
use Rattle.std.specs.Fmt.{signed_decimal}
use Rattle.std.specs.List.{flat_map}
use Rattle.srt_status.specs.declared.figures.Amount.{Amount}
use Rattle.srt_status.specs.declared.figures.Amount.TheVariants.{Number, Micros, SignedMicros, PartsPerMillion}

-- a byte of a name as it stands between quotation marks
abbrev pub shown : (byte : ℕ) → List ℕ
shown byte =
    if byte == 34 then codes "\\\"" else (if byte == 92 then codes "\\\\" else (if byte == 10 then codes "\\n"
    else (if nat_lt byte 32 then codes "?" else byte ∷ [])))

abbrev pub name_text : (name : List ℕ) → List ℕ
name_text name = flat_map shown name

-- a socket ID: eight digits
abbrev pub id_text : (id : ℕ) → List ℕ
id_text id =
    digit_char (id / 268435456 % 16) ∷ digit_char (id / 16777216 % 16) ∷ digit_char (id / 1048576 % 16) ∷ digit_char (id / 65536 % 16)
    ∷ digit_char (id / 4096 % 16) ∷ digit_char (id / 256 % 16) ∷ digit_char (id / 16 % 16) ∷ digit_char (id % 16) ∷ []

-- microseconds as seconds, with six digits behind the point
abbrev pub micros_text : (micros : ℕ) → List ℕ
micros_text micros =
    decimal (micros / 1_000_000)
    ++ (46 ∷ (48 + micros / 100_000 % 10) ∷ (48 + micros / 10_000 % 10) ∷ (48 + micros / 1_000 % 10) ∷ (48 + micros / 100 % 10)
    ∷ (48 + micros / 10 % 10) ∷ (48 + micros % 10) ∷ [])

-- the same of a time that may be negative
abbrev pub signed_micros_text : (micros : ℤ) → List ℕ
signed_micros_text (pos n) = micros_text n
signed_micros_text (negsuc n) = codes "-" ++ micros_text (suc n)

-- a value in its unit
abbrev pub amount_text : Amount → List ℕ
amount_text (Number number) = decimal number
amount_text (Micros micros) = micros_text micros
amount_text (SignedMicros micros) = signed_micros_text micros
amount_text (PartsPerMillion ppm) = signed_decimal ppm
