-- What the list of all faults has to do with reading.
use Rattle.std.specs.Prelude.{◌≡◌, List, [], ◌∷◌, Option, None, Some, Result, Ok, Err}
use Rattle.toml.specs.Data.{Members}
use Rattle.srt_config.specs.declared.config.placed.Place.{Place}
use Rattle.srt_config.specs.FirstFault.{Fault}
use Rattle.srt_config.specs.FaultPlace.{fault_place}
use Rattle.srt_config.specs.Config.{settings_at}
use Rattle.srt_config.specs.AllFaults.{Placed, placed, all_faults}

abbrev pub first : List Placed → Option Placed
first [] = None
first (it ∷ rest) = Some it

-- the fault of a reading, at this place
abbrev pub fault_of : {A : Type 0} → Result A Fault → Place → Option Placed
fault_of (Ok x) place = None
fault_of (Err fault) place = Some (placed place fault)

-- the first fault of the list is the one that reading returns, with its part; the list is empty exactly if reading returns none
abbrev pub FirstIsRead : Type 0
FirstIsRead = (written table : Members) → first (all_faults written table) ≡ fault_of (settings_at table) (fault_place table)
