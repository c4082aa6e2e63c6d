-- The function that reads handshakes agrees with the relation that defines their encoding.
use Rattle.std.specs.Prelude.{◌≡◌, ◌↔◌, ℕ, List, Ok, Err}
use Rattle.srt_hs.specs.declared.handshake.HsFault.{HsFault}
use Rattle.srt_hs.specs.Grammar.{Handshake, Spells, HasFault}
use Rattle.srt_hs.specs.Reading.{handshake_in}

-- reading returns a handshake exactly if the bytes encode it
abbrev pub ReadingIsSpelling : Type 0
ReadingIsSpelling = (bytes : List ℕ) (hs : Handshake) → (handshake_in bytes ≡ Ok hs) ↔ Spells bytes hs

-- reading returns a fault exactly if it is the first from the left
abbrev pub FaultIsTheFirst : Type 0
FaultIsTheFirst = (bytes : List ℕ) (fault : HsFault) → (handshake_in bytes ≡ Err fault) ↔ HasFault bytes fault
