-- Texts in parts: the lines of a text, the words of a line.
use Rattle.std.specs.Prelude.{ℕ, ◌-◌, List, [], ◌∷◌, Option, None, Some, length, take, drop, ◌==◌, if◌then◌else◌}
use Rattle.std.specs.Str.{bytes_eq}

-- the parts after a byte, with that byte put at the front of the first of them
abbrev pub joined : (b : ℕ) → List (List ℕ) → List (List ℕ)
joined b [] = (b ∷ []) ∷ []
joined b (part ∷ parts) = (b ∷ part) ∷ parts

-- the parts of a text: this byte ends each part but the last
abbrev pub parts_of : (separator : ℕ) → List ℕ → List (List ℕ)
parts_of separator [] = [] ∷ []
parts_of separator (b ∷ bytes) = if b == separator then [] ∷ parts_of separator bytes else joined b (parts_of separator bytes)

-- the parts of what follows that byte; none if there is no such byte
abbrev pub parts_behind : (separator : ℕ) → Option (List ℕ) → List (List ℕ)
parts_behind separator None = []
parts_behind separator (Some bytes) = parts_of separator bytes

-- what follows the key in the first line that begins with it
abbrev pub behind_key : (key : List ℕ) → (lines : List (List ℕ)) → Option (List ℕ)
behind_key key [] = None
behind_key key (line ∷ lines) = if bytes_eq (take (length key) line) key then Some (drop (length key) line) else behind_key key lines

-- how many words are before the one that is looked for, after a part; none if the part is that word
abbrev pub passed : (before : ℕ) → (part : List ℕ) → Option ℕ
passed before part = if length part == 0 then Some before else (if before == 0 then None else Some (before - 1))

-- the part at this index, counted from 0, among those that aren't empty
abbrev pub word_at : (index : ℕ) → (parts : List (List ℕ)) → Option (List ℕ)
word_at index [] = None
word_at index (part ∷ parts) = if length part == 0 then word_at index parts else (if index == 0 then Some part else word_at (index - 1) parts)
