-- The members of a JSON object (RFC 8259).
use Rattle.std.specs.Prelude.{ℕ, ℤ, Bool, true, false, ◌==◌, ◌&&◌, nat_le, List, [], ◌∷◌, ◌++◌, Option, None, Some, codes, decimal, if◌then◌else◌}
use Rattle.std.specs.Fmt.{signed_decimal}
use Rattle.std.specs.List.{flat_map}
use Rattle.srt_log.specs.Texts.{put, hex_of_byte, escaped_all, readable_all}

-- a byte of a text between quotation marks: none is a control character, and none is outside of ASCII
abbrev pub in_quotes : (byte : ℕ) → List ℕ
in_quotes byte =
    if byte == 34 then codes "\\\"" else (if byte == 92 then codes "\\\\"
    else (if nat_le 32 byte && nat_le byte 126 then byte ∷ [] else codes "\\u00" ++ hex_of_byte byte))

-- a member that isn't the first one of its object
unfoldable pub member_start : (name : List ℕ) → List ℕ
member_start name = codes ",\"" ++ name ++ codes "\":"

unfoldable pub text_member : (name text : List ℕ) → List ℕ
text_member name text = member_start name ++ codes "\"" ++ flat_map in_quotes text ++ codes "\""

unfoldable pub number_member : (name : List ℕ) → (number : ℕ) → List ℕ
number_member name number = member_start name ++ decimal number

unfoldable pub signed_member : (name : List ℕ) → (number : ℤ) → List ℕ
signed_member name number = member_start name ++ signed_decimal number

abbrev pub truth : Bool → List ℕ
truth true = codes "true"
truth false = codes "false"

unfoldable pub flag_member : (name : List ℕ) → (flag : Bool) → List ℕ
flag_member name flag = member_start name ++ truth flag

-- bytes that a caller chose, as a line shows them, and a text for people
abbrev pub shown_member : (name bytes : List ℕ) → List ℕ
shown_member name bytes = text_member name (put [] (escaped_all bytes))

abbrev pub readable_member : (name bytes : List ℕ) → List ℕ
readable_member name bytes = text_member name (put [] (readable_all bytes))

-- a member for a value that there may be
abbrev pub number_if : (name : List ℕ) → Option ℕ → List ℕ
number_if name None = []
number_if name (Some number) = number_member name number
