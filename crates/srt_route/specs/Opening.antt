-- Entries with which a route can be opened (our choice).
use Rattle.std.specs.Prelude.{ℕ, ◌^◌, Option, None, Some, nat_lt, ◌==◌, ◌&&◌, if◌then◌else◌}
use Rattle.std.specs.Option.{option_or}
use Rattle.srt_types.specs.declared.shared.OpenFault.{OpenFault}
use Rattle.srt_types.specs.declared.shared.OpenFault.TheVariants.{Names, Limits}
use Rattle.srt_types.specs.Terms.{Terms}
use Rattle.srt_types.specs.Entries.{is_name, in_limits}
use Rattle.srt_route.specs.RouteKeys.{has_secured_role}

-- the fault because of which a route with this index can't be opened, memory aside; a fault of the name comes first
abbrev pub fault_of : Terms → (index : ℕ) → Option OpenFault
fault_of e index = if is_name e.name then (if nat_lt index 511 && in_limits e then None else Some Limits) else Some Names

-- the fault because of which a route can't be opened at rest with this clock and so many generations, memory aside; the
-- faults of the entry and the index come first. One with a secured role can't be opened so: the keys that the route before it
-- made would be made again
abbrev pub fault_at_rest : Terms → (index clock count : ℕ) → Option OpenFault
fault_at_rest e index clock count =
    option_or (fault_of e index)
    (if has_secured_role e then Some Limits else if count == e.sessions && nat_lt clock (2 ^ 62) then None else Some Limits)
