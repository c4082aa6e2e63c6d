-- The parts of a configuration whose keys are checked, as plain values.
use Rattle.std.specs.Prelude.{◌≡◌, ℕ, List, map, Option, None, Some, option_map, Result, Ok, Err}
use Rattle.std.specs.Borrow.{Bor}
use Rattle.std.specs.BTreeMap.{BTreeMap}
use Rattle.std.specs.Prelude.{String}
use Rattle.std.specs.declared.alloc.Global.{Global}
use Rattle.toml.specs.Data.{Members, no_members}
use Rattle.toml.specs.View.{table_view}
use Rattle.toml.specs.declared.value.Value.{Value}
use Rattle.srt_config.specs.declared.config.listing.Section.{Section}
use Rattle.srt_config.specs.declared.config.listing.Section.TheVariants as sections
use Rattle.srt_config.specs.declared.config.faults.ConfigFault.{ConfigFault}
use Rattle.srt_config.specs.declared.config.faults.ConfigFault.TheVariants as code
use Rattle.srt_config.specs.FirstFault.{Fault, plain_fault}
use Rattle.srt_config.specs.AllFaults.{faults_seen, Part, AboveRoutes, OfDefaults, OfRoute}

-- what a step's fault becomes: a failed allocation isn't one
abbrev pub IsFaultOf : {A : Type 0} → Result A ConfigFault → Option ConfigFault → Type 0
IsFaultOf (Ok x) found = found ≡ None
IsFaultOf (Err fault) found = (found ≡ Some fault) × (fault ≡ code.OutOfMemory → ⊥)

-- the fault of a step
abbrev pub fault_seen : Option ConfigFault → Option Fault
fault_seen = option_map plain_fault

-- a table that may be missing
abbrev pub members_of : Option (Bor (BTreeMap (String Global) Value)) → Members
members_of None = no_members
members_of (Some table) = table_view table.now

-- the texts of borrowed ones
abbrev pub texts_seen : List (Bor (List ℕ)) → List (List ℕ)
texts_seen = map (λ (text : Bor (List ℕ)). text.now)

abbrev pub section_seen : Section → Part
section_seen (sections.Above table) = AboveRoutes (table_view table.now)
section_seen (sections.Defaults table) = OfDefaults (table_view table.now)
section_seen (sections.Route route) =
    OfRoute route.number (table_view route.table.now) (members_of route.own) (texts_seen route.names.now) (faults_seen route.wrong.now)
