-- The requests and faults of Stream IDs, defined over all their parts at once (appendix B).
use Rattle.std.specs.Prelude.{◌≡◌, ◌≢◌, ℕ, ◌<◌, List, [], ◌∷◌, ◌++◌, Option, None, Some, length, take, codes, ◌⊎◌, ⊤}
use Rattle.std.specs.Str.{IsUtf8}
use Rattle.std.specs.Option.{IsSomeAnd}
use Rattle.srt_types.specs.declared.shared.Role.{Role}
use Rattle.srt_types.specs.declared.shared.Role.TheVariants.{Publish, Request}
use Rattle.srt_streamid.specs.declared.reading.Ask.{Ask}
use Rattle.srt_streamid.specs.declared.reading.AskFault.{AskFault}
use Rattle.srt_streamid.specs.declared.reading.AskFault.TheVariants.{NotUtf8, NoRoute, BadMode, RepeatedKey}
use Rattle.srt_streamid.specs.Parts.{Piece, name_in, mode_in, names_in, modes_in, parts_of}
use Rattle.srt_streamid.specs.Reading.{name_of}

-- the bytes begin as a list of keys and values does (appendix B.1)
abbrev pub IsList : List ℕ → Type 0
IsList bytes = take 4 bytes ≡ codes "#!::"

-- the mode of a role (appendix B.2)
abbrev pub mode_of : Role → List ℕ
mode_of Publish = codes "publish"
mode_of Request = codes "request"

-- the only mode is that of the role; without a mode the role is request
abbrev pub SayRole : (modes : List Piece) → Role → Type 0
SayRole [] role = role ≡ Request
SayRole (mode ∷ []) role = mode.text ≡ mode_of role
SayRole (mode ∷ again ∷ modes) role = ⊥

-- a list requests the route of its only name
pub record ListAsks (bytes : List ℕ) (ask : Ask) : Type 0 where
  pub name : names_in (parts_of bytes) ≡ record { start = ask.start; text = name_of bytes ask } ∷ []
  pub len : length (name_of bytes ask) ≡ ask.len
  pub role : SayRole (modes_in (parts_of bytes)) ask.role

-- any other text is itself the name (our choice)
pub record NameAsks (bytes : List ℕ) (ask : Ask) : Type 0 where
  pub start : ask.start ≡ 0
  pub len : ask.len ≡ length bytes
  pub role : ask.role ≡ Request

-- the Stream ID makes this request
pub record Asks (bytes : List ℕ) (ask : Ask) : Type 0 where
  pub utf8 : IsUtf8 bytes
  pub some : 0 < ask.len
  pub list : IsList bytes → ListAsks bytes ask
  pub plain : ¬ (IsList bytes) → NameAsks bytes ask

-- the part has a mode that is neither publish nor request
abbrev pub IsBadMode : (mode : Option Piece) → Type 0
IsBadMode mode = IsSomeAnd mode (λ m. (role : Role) → m.text ≢ mode_of role)

-- the part has a value (a name, or a mode) that a part before it has too
abbrev pub IsSaidAgain : (said : List Piece) → Option Piece → Type 0
IsSaidAgain said None = ⊥
IsSaidAgain [] (Some value) = ⊥
IsSaidAgain (one ∷ more) (Some value) = ⊤

-- a part with this name or this mode, after parts with these names and modes, has this fault; a bad mode takes
-- precedence over a repeated key
abbrev pub HasValueFault : (names modes : List Piece) (name mode : Option Piece) → AskFault → Type 0
HasValueFault names modes name mode BadMode = IsBadMode mode
HasValueFault names modes name mode RepeatedKey = ¬ (IsBadMode mode) × (IsSaidAgain names name ⊎ IsSaidAgain modes mode)
HasValueFault names modes name mode _ = ⊥

-- a part has this fault, after these parts before it
abbrev pub HasPartFault : (before : List Piece) → Piece → AskFault → Type 0
HasPartFault before part fault = HasValueFault (names_in before) (modes_in before) (name_in part) (mode_in part) fault

-- no part has a fault, after these parts before them
abbrev pub NoneIsAtFault : (before parts : List Piece) → Type 0
NoneIsAtFault before [] = ⊤
NoneIsAtFault before (part ∷ parts) = ((fault : AskFault) → ¬ (HasPartFault before part fault)) × NoneIsAtFault (before ++ part ∷ []) parts

-- the first part with a fault, from the left, has this one
abbrev pub HasFirstFault : (before parts : List Piece) → AskFault → Type 0
HasFirstFault before [] fault = ⊥
HasFirstFault before (part ∷ parts) fault =
    HasPartFault before part fault ⊎
    (((other : AskFault) → ¬ (HasPartFault before part other)) × HasFirstFault (before ++ part ∷ []) parts fault)

-- there is no name, or the only name is empty
abbrev pub NameNothing : (names : List Piece) → Type 0
NameNothing [] = ⊤
NameNothing (name ∷ []) = name.text ≡ []
NameNothing (name ∷ again ∷ names) = ⊥

-- no part of the list has a fault, but the list has no route's name
pub record ListNamesNothing (bytes : List ℕ) : Type 0 where
  pub faultless : NoneIsAtFault [] (parts_of bytes)
  pub nameless : NameNothing (names_in (parts_of bytes))

-- the Stream ID has no other fault, but no route's name
pub record NamesNothing (bytes : List ℕ) : Type 0 where
  pub utf8 : IsUtf8 bytes
  pub list : IsList bytes → ListNamesNothing bytes
  pub plain : ¬ (IsList bytes) → bytes ≡ []

-- the fault of a Stream ID (the order of faults is our choice)
abbrev pub HasFault : List ℕ → AskFault → Type 0
HasFault bytes NotUtf8 = ¬ (IsUtf8 bytes)
HasFault bytes NoRoute = NamesNothing bytes
HasFault bytes fault = IsUtf8 bytes × IsList bytes × HasFirstFault [] (parts_of bytes) fault
