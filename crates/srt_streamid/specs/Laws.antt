-- Reading Stream IDs agrees with the definition of their requests.
use Rattle.std.specs.Prelude.{◌≡◌, ℕ, ◌+◌, ◌<◌, ◌≤◌, ◌↔◌, List, [], ◌∷◌, Ok, Err, length, map}
use Rattle.srt_streamid.specs.declared.reading.Ask.{Ask}
use Rattle.srt_streamid.specs.declared.reading.AskFault.{AskFault}
use Rattle.srt_streamid.specs.Parts.{names_in, parts_of}
use Rattle.srt_streamid.specs.Reading.{ask_in, name_of}
use Rattle.srt_streamid.specs.Spelling.{IsList, Asks, HasFault}

-- reading returns a request exactly if the Stream ID makes it
abbrev pub AskIsRead : Type 0
AskIsRead = (bytes : List ℕ) (ask : Ask) → (ask_in bytes ≡ Ok ask) ↔ Asks bytes ask

-- reading returns a fault exactly if the Stream ID has it
abbrev pub FaultIsRead : Type 0
FaultIsRead = (bytes : List ℕ) (fault : AskFault) → (ask_in bytes ≡ Err fault) ↔ HasFault bytes fault

-- the returned name has at least one byte, and lies within the Stream ID
abbrev pub NameIsInside : Type 0
NameIsInside = (bytes : List ℕ) (ask : Ask) → ask_in bytes ≡ Ok ask → (0 < ask.len) × (ask.start + ask.len ≤ length bytes)

-- the route's name in a Stream ID: the value of the list's only r, or the whole text if it is no list
pub record IsRouteName (bytes name : List ℕ) : Type 0 where
  pub list : IsList bytes → map (λ piece. piece.text) (names_in (parts_of bytes)) ≡ name ∷ []
  pub plain : ¬ (IsList bytes) → name ≡ bytes

-- the name that is returned is the route's name in this sense
abbrev pub NameIsSaid : Type 0
NameIsSaid = (bytes : List ℕ) (ask : Ask) → ask_in bytes ≡ Ok ask → IsRouteName bytes (name_of bytes ask)
