-- Which part of a configuration has its fault: stated without the function that finds it (our choice).
use Rattle.std.specs.Prelude.{◌≡◌, ℕ, suc, ◌⊎◌, List, [], ◌∷◌, ◌++◌, Some, Ok, Err}
use Rattle.toml.specs.Data.{Data, Members, Items, no_items, item, get_member, as_array, as_table}
use Rattle.srt_types.specs.Terms.{Terms}
use Rattle.srt_config.specs.declared.config.placed.Place.TheVariants as place
use Rattle.srt_config.specs.declared.config.keys.Key.TheVariants.{Defaults, Route}
use Rattle.srt_config.specs.KeyTable.{key_name}
use Rattle.srt_config.specs.FirstFault.{Fault}
use Rattle.srt_config.specs.Routes.{Planned, route_at}
use Rattle.srt_config.specs.Config.{settings_at}
use Rattle.srt_config.specs.KeyFaults.{InRoute, InDefaults}
use Rattle.srt_config.specs.FaultPlace.{fault_place}

-- the table of this number has this fault, and each one before it is a route; the first table has the number `first`
abbrev pub HasFaultyTable : (first : ℕ) → (before : List Terms) → Items → (number : ℕ) → Fault → Type 0
HasFaultyTable first before no_items number fault = ⊥
HasFaultyTable first before (item value rest) number fault =
    (table : Members) × (as_table value ≡ Some table) ×
    (((number ≡ first) × InRoute before table fault) ⊎
    ((route : Planned) × (route_at before table ≡ Ok route) × HasFaultyTable (suc first) (before ++ route.terms ∷ []) rest number fault))

-- a fault with a number is one of the route of this number among the tables of the routes, counted from 1
abbrev pub PlacesTheFault : Type 0
PlacesTheFault = (table : Members) (fault : Fault) (number : ℕ) → settings_at table ≡ Err fault → fault_place table ≡ place.Route number →
    (value : Data) × (items : Items) × (get_member (key_name Route) table ≡ Some value) × (as_array value ≡ Some items) ×
    HasFaultyTable 1 [] items number fault

-- a fault in the table of defaults is one of its keys
abbrev pub PlacesTheDefaults : Type 0
PlacesTheDefaults = (table : Members) (fault : Fault) → settings_at table ≡ Err fault → fault_place table ≡ place.Defaults →
    (value : Data) × (defaults : Members) × (get_member (key_name Defaults) table ≡ Some value) × (as_table value ≡ Some defaults) ×
    InDefaults defaults fault
