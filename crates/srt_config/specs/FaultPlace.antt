-- Which part of a configuration has its fault (our choice).
use Rattle.std.specs.Prelude.{◌≡◌, ℕ, suc, not, ◌⊎◌, Option, None, Some, Result, Ok, Err, IfErr, if◌then◌else◌}
use Rattle.toml.specs.Data.{Items, no_items, item, Members, as_array}
use Rattle.srt_types.specs.Entries.{is_between}
use Rattle.srt_config.specs.declared.config.faults.ConfigFault.{ConfigFault}
use Rattle.srt_config.specs.declared.config.faults.ConfigFault.TheVariants as code
use Rattle.srt_config.specs.declared.config.placed.Place.{Place}
use Rattle.srt_config.specs.declared.config.placed.Place.TheVariants as place
use Rattle.srt_config.specs.declared.config.placed.PlacedFault.{PlacedFault}
use Rattle.srt_config.specs.declared.config.keys.Key.TheVariants.{Bind, Workers, Status, Route}
use Rattle.srt_config.specs.KeyTable.{limits_of}
use Rattle.srt_config.specs.FirstFault.{Fault, seen}
use Rattle.srt_config.specs.Keys.{known, value_at, key_number_at, of_kind}
use Rattle.srt_config.specs.Routes.{Routes, no_routes, routes_and, are_tables, count}
use Rattle.srt_config.specs.Defaults.{defaults_at, right_if_given, with_defaults}
use Rattle.srt_config.specs.Config.{top_keys, secret_at, address_at, optional_address_at}

-- a fault that isn't one route's
abbrev pub above_routes : ConfigFault → PlacedFault
above_routes fault = record { fault = fault; place = place.Above }

-- a result without the fault's place
abbrev pub unplaced : {A : Type 0} → Result A PlacedFault → Result A ConfigFault
unplaced (Ok x) = Ok x
unplaced (Err placed) = Err placed.fault

-- the number of the first table that isn't a route after those before it, the first table having this number
abbrev pub or_later : (number : ℕ) → Result Routes Fault → (later : Routes → ℕ) → ℕ
or_later number (Ok routes) later = later routes
or_later number (Err fault) later = number

abbrev pub faulty_from : (number : ℕ) → (before : Routes) → Items → ℕ
faulty_from number before no_items = number
faulty_from number before (item value rest) = or_later number (routes_and before value) (λ routes. faulty_from (suc number) routes rest)

-- the route that has the fault: none, if not all are tables, or if there are too few or too many
abbrev pub place_in : Items → Place
place_in items =
    if not (are_tables items) then place.Above
    else if not (is_between (limits_of Route).least (limits_of Route).most (count items)) then place.Above
    else place.Route (faulty_from 1 no_routes items)

-- a step, and then the place by its result; the step's own fault is at this place
abbrev pub place_at : {A : Type 0} → Place → Result A Fault → (A → Place) → Place
place_at here (Ok x) next = next x
place_at here (Err fault) next = here

infixl 10 ◌>>?◌
-- the same with a step whose fault is above the routes
abbrev pub ◌>>?◌ : {A : Type 0} → Result A Fault → (A → Place) → Place
Ok x >>? next = next x
Err fault >>? next = place.Above

unfoldable pub routes_place : Members → Place
routes_place table = value_at Route table >>? λ value. of_kind Route (as_array value) >>? λ items. place_in items

-- the part of a table that has the fault: the route with its number, the defaults, or what is above the routes or of all of them
unfoldable pub fault_place : Members → Place
fault_place table =
    known top_keys table >>? λ _.
    secret_at table >>? λ _.
    address_at Bind table >>? λ _.
    key_number_at Workers table >>? λ _.
    optional_address_at Status table >>? λ _.
    defaults_at table >>? λ defaults.
    place_at place.Defaults (right_if_given defaults) λ _.
    routes_place table

-- the same of a text: its table with the defaults in each route; or above the routes if it isn't TOML
abbrev pub document_place : Option Members → Place
document_place (Some table) = fault_place (with_defaults table)
document_place None = place.Above

-- the result is this one, and its fault has this place, unless an allocation failed
abbrev pub GivesAt : {A B : Type 0} → (view : A → B) → Result A PlacedFault → (said : Result B Fault) → (place : Place) → Type 0
GivesAt view answer said place =
    (unplaced answer ≡ Err code.OutOfMemory) ⊎ ((seen view (unplaced answer) ≡ said) × IfErr answer (λ placed. placed.place ≡ place))
