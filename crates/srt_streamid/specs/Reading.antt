-- The request in a Stream ID, read from left to right (appendix B).
use Rattle.std.specs.Prelude.{ℕ, List, [], ◌∷◌, Option, None, Some, Result, Ok, Err, length, take, drop, codes, is_some, nat_eq, unwrap_or, ◌==◌, if◌then◌else◌}
use Rattle.std.specs.List.{starts_with}
use Rattle.std.specs.Str.{is_utf8, bytes_eq}
use Rattle.srt_types.specs.declared.shared.Role.{Role}
use Rattle.srt_types.specs.declared.shared.Role.TheVariants.{Publish, Request}
use Rattle.srt_streamid.specs.declared.keys.Found.{Found}
use Rattle.srt_streamid.specs.declared.keys.Span.{Span}
use Rattle.srt_streamid.specs.declared.reading.Ask.{Ask}
use Rattle.srt_streamid.specs.declared.reading.AskFault.{AskFault}
use Rattle.srt_streamid.specs.declared.reading.AskFault.TheVariants.{NotUtf8, NoRoute, BadMode, RepeatedKey}
use Rattle.srt_streamid.specs.Parts.{Piece, name_in, mode_in, keys_in, first_text, parts_of}

-- applies the second step to the result of the first; a fault is returned unchanged
infixl 10 ◌>>=◌
abbrev pub ◌>>=◌ : {A B : Type 0} → Result A AskFault → (A → Result B AskFault) → Result B AskFault
(Ok x) >>= f = f x
(Err e) >>= f = Err e

-- the role of a mode (appendix B.2)
abbrev pub role_in : List ℕ → Result Role AskFault
role_in mode = if bytes_eq mode (codes "publish") then Ok Publish else (if bytes_eq mode (codes "request") then Ok Request else Err BadMode)

-- the state with one more name; a second name is a fault
abbrev pub with_name : Found → Piece → Result Found AskFault
with_name found name = if is_some found.name then Err RepeatedKey else Ok (record found { name = Some (record { start = name.start; len = length name.text }) })

-- the state with one more mode; an unknown mode or a second mode is a fault
abbrev pub with_mode : Found → Piece → Result Found AskFault
with_mode found mode = do
  role ← role_in mode.text
  if is_some found.role then Err RepeatedKey else Ok (record found { role = Some role })

-- the state with the name or the mode of one part
abbrev pub with_values : Found → (name mode : Option Piece) → Result Found AskFault
with_values found (Some name) mode = with_name found name
with_values found None (Some mode) = with_mode found mode
with_values found None None = Ok found

-- the state with one more part: r is the key of the name and m the key of the mode (appendix B.2)
unfoldable pub with_part : Found → Piece → Result Found AskFault
with_part found part = with_values found (name_in part) (mode_in part)

-- the state with these parts, or their first fault
abbrev pub with_parts : Found → List Piece → Result Found AskFault
with_parts found [] = Ok found
with_parts found (part ∷ parts) = with_part found part >>= λ more. with_parts more parts

-- the request for the name with this offset and length; an empty name is no name
abbrev pub named : (start len : ℕ) → Role → Result Ask AskFault
named start len role = if len == 0 then Err NoRoute else Ok (record { start = start; len = len; role = role })

-- the request of a list, from the state after all parts; without a mode the role is request (appendix B.2)
abbrev pub requested : Found → Result Ask AskFault
requested found = requested_as found.name found.role
  where
    requested_as : Option Span → Option Role → Result Ask AskFault
    requested_as None role = Err NoRoute
    requested_as (Some name) role = named name.start name.len (unwrap_or role Request)

-- the state before any part
abbrev pub nothing : Found
nothing = record { name = None; role = None }

-- the request of a list, whose parts follow its first four bytes
unfoldable pub list_in : List ℕ → Result Ask AskFault
list_in bytes = with_parts nothing (parts_of bytes) >>= requested

-- the request of a Stream ID, or its fault; a text that is no list is itself the name (our choice)
unfoldable pub ask_in : List ℕ → Result Ask AskFault
ask_in bytes = if is_utf8 bytes then (if starts_with nat_eq bytes (codes "#!::") then list_in bytes else named 0 (length bytes) Request) else Err NotUtf8

-- the route's name in a Stream ID
abbrev pub name_of : List ℕ → Ask → List ℕ
name_of bytes ask = take ask.len (drop ask.start bytes)

-- the admission key in a Stream ID: in a list the value of the first part with one, in any other text none (our choice)
unfoldable pub key_of : List ℕ → Option (List ℕ)
key_of bytes = if starts_with nat_eq bytes (codes "#!::") then first_text (keys_in (parts_of bytes)) else None
