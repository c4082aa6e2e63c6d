-- The text of a line while it is made.
use Rattle.std.specs.Prelude.{ℕ, ◌/◌, ◌%◌, Bool, ◌==◌, not, ◌&&◌, nat_le, List, [], ◌∷◌, ◌++◌, take, if◌then◌else◌}
use Rattle.std.specs.Char.{digit_char}
use Rattle.std.specs.List.{flat_map}

-- a text with more bytes at its end, cut off behind 1023
unfoldable pub put : (text bytes : List ℕ) → List ℕ
put text bytes = take 1023 (text ++ bytes)

-- a byte as two digits
abbrev pub hex_of_byte : ℕ → List ℕ
hex_of_byte b = digit_char (b / 16) ∷ digit_char (b % 16) ∷ []

-- a socket ID: 0x and eight digits
abbrev pub id_text : (id : ℕ) → List ℕ
id_text id =
    48 ∷ 120 ∷ digit_char (id / 268435456 % 16) ∷ digit_char (id / 16777216 % 16) ∷ digit_char (id / 1048576 % 16) ∷ digit_char (id / 65536 % 16)
    ∷ digit_char (id / 4096 % 16) ∷ digit_char (id / 256 % 16) ∷ digit_char (id / 16 % 16) ∷ digit_char (id % 16) ∷ []

-- the byte stands for itself: a printable character of ASCII, neither " nor \
abbrev pub is_plain : (byte : ℕ) → Bool
is_plain byte = nat_le 32 byte && nat_le byte 126 && not (byte == 34) && not (byte == 92)

-- any other byte is shown as \x and its two digits
abbrev pub escaped : (byte : ℕ) → List ℕ
escaped byte = if is_plain byte then byte ∷ [] else 92 ∷ 120 ∷ hex_of_byte byte

-- a byte of a text for people: as it is if it is a printable character of ASCII
abbrev pub readable : (byte : ℕ) → List ℕ
readable byte = if nat_le 32 byte && nat_le byte 126 then byte ∷ [] else 92 ∷ 120 ∷ hex_of_byte byte

abbrev pub escaped_all : List ℕ → List ℕ
escaped_all bytes = flat_map escaped bytes

abbrev pub readable_all : List ℕ → List ℕ
readable_all bytes = flat_map readable bytes
