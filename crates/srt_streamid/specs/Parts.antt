-- The parts of a list in a Stream ID, and their keys and values (appendix B.1).
use Rattle.std.specs.Prelude.{ℕ, ◌+◌, List, [], ◌∷◌, Option, None, Some, take, drop, codes, position, ◌==◌, if◌then◌else◌}
use Rattle.std.specs.Str.{byte, bytes_eq}
use Rattle.std.specs.List.{filter_map}

-- a sequence of bytes of a text, and the offset at which it starts in the text
pub record Piece : Type 0 where
  pub start : ℕ
  pub text : List ℕ

-- the parts after a byte, with the byte prepended to the first of them
abbrev pub joined : (at b : ℕ) → List Piece → List Piece
joined at b [] = record { start = at; text = b ∷ [] } ∷ []
joined at b (part ∷ parts) = record { start = at; text = b ∷ part.text } ∷ parts

-- the parts of a list that starts at this offset: a comma ends each part except the last
abbrev pub parts_from : (at : ℕ) → List ℕ → List Piece
parts_from at [] = record { start = at; text = [] } ∷ []
parts_from at (b ∷ bs) = let parts = parts_from (at + 1) bs in if b == byte "," then record { start = at; text = [] } ∷ parts else joined at b parts

-- the parts of the bytes after a comma; none if there is no comma
abbrev pub parts_behind : (at : ℕ) → Option (List ℕ) → List Piece
parts_behind at None = []
parts_behind at (Some bs) = parts_from at bs

-- the offset of the first = in a part
abbrev pub equals_in : Piece → Option ℕ
equals_in part = position (λ b. b == byte "=") part.text

-- the bytes after the = at this offset, if the key before it is this one
abbrev pub value_behind : (key : List ℕ) → Piece → Option ℕ → Option Piece
value_behind key part None = None
value_behind key part (Some at) =
    if bytes_eq (take at part.text) key then Some (record { start = part.start + at + 1; text = drop (at + 1) part.text }) else None

-- the value of a part, if its key is this one
abbrev pub value_of : (key : List ℕ) → Piece → Option Piece
value_of key part = value_behind key part (equals_in part)

-- the route's name in a part: the value of the key r, if the part has it (appendix B.2)
abbrev pub name_in : Piece → Option Piece
name_in part = value_of (codes "r") part

-- the mode in a part: the value of the key m, if the part has it (appendix B.2)
abbrev pub mode_in : Piece → Option Piece
mode_in part = value_of (codes "m") part

-- all names in these parts, in order
abbrev pub names_in : List Piece → List Piece
names_in parts = filter_map name_in parts

-- all modes in these parts, in order
abbrev pub modes_in : List Piece → List Piece
modes_in parts = filter_map mode_in parts

-- the parts of a list, after its first four bytes
abbrev pub parts_of : List ℕ → List Piece
parts_of bytes = parts_from 4 (drop 4 bytes)

-- the text of the first part, if there is one
abbrev pub first_text : List Piece → Option (List ℕ)
first_text [] = None
first_text (part ∷ parts) = Some part.text

-- the admission key in a part: the value of the key k, if the part has it (our choice)
abbrev pub key_in : Piece → Option Piece
key_in part = value_of (codes "k") part

-- all admission keys in these parts, in order
abbrev pub keys_in : List Piece → List Piece
keys_in parts = filter_map key_in parts
