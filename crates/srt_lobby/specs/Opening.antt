-- Which entries a gateway can be opened with (our choice).
use Rattle.std.specs.Prelude.{ℕ, Bool, true, Option, None, Some, List, [], ◌∷◌, length, ◌&&◌, not, if◌then◌else◌}
use Rattle.std.specs.List.{list_any, list_all}
use Rattle.std.specs.Str.{bytes_eq}
use Rattle.srt_types.specs.declared.shared.OpenFault.{OpenFault}
use Rattle.srt_types.specs.declared.shared.OpenFault.TheVariants as faults
use Rattle.srt_types.specs.Terms.{Terms}
use Rattle.srt_types.specs.Entries.{is_between, is_name, in_limits}

-- the name of an entry
abbrev pub text_in : Terms → List ℕ
text_in e = e.name

-- whether one of these entries has this name
abbrev pub is_taken : (name : List ℕ) → List Terms → Bool
is_taken name entries = list_any (λ (e : Terms). bytes_eq e.name name) entries

-- whether an entry's name is valid, and none of these entries has it
abbrev pub is_fresh : Terms → List Terms → Bool
is_fresh e entries = is_name e.name && not (is_taken e.name entries)

-- whether each name is valid, and no name appears twice
abbrev pub are_names : List Terms → Bool
are_names [] = true
are_names (e ∷ entries) = is_fresh e entries && are_names entries

-- whether the number of entries is within its limits, and so are the numbers of each entry
abbrev pub are_in_limits : List Terms → Bool
are_in_limits entries = is_between 1 511 (length entries) && list_all in_limits entries

-- the first reason, except memory, why a gateway can't be opened with these entries; faults of names take precedence
abbrev pub fault_of : List Terms → Option OpenFault
fault_of entries = if are_names entries then (if are_in_limits entries then None else Some faults.Limits) else Some faults.Names
