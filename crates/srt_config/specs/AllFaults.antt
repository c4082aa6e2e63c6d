-- All faults of a configuration: what is wrong with each key, part by part (our choice).
use Rattle.std.specs.Prelude.{ℕ, suc, ◌+◌, ◌-◌, Bool, true, false, not, ◌&&◌, List, [], ◌∷◌, ◌++◌, map, codes, Option, None, Some, is_none}
use Rattle.std.specs.Prelude.{Result, Ok, Err, if◌then◌else◌}
use Rattle.std.specs.List.{list_any}
use Rattle.std.specs.Str.{bytes_eq}
use Rattle.std.specs.Ordering.{nat_cmp, is_lt}
use Rattle.std.specs.Cmp.Lexicographic.{slice_cmp}
use Rattle.toml.specs.Data.{Data, Items, no_items, item, get_item, Members, no_members, member, get_member, as_array, as_table}
use Rattle.srt_types.specs.Entries.{is_between, is_name}
use Rattle.srt_config.specs.declared.config.placed.Place.{Place}
use Rattle.srt_config.specs.declared.config.placed.Place.TheVariants as place
use Rattle.srt_config.specs.declared.config.placed.PlacedFault.{PlacedFault}
use Rattle.srt_config.specs.declared.config.keys.Key.{Key}
use Rattle.srt_config.specs.declared.config.keys.Key.TheVariants.{Secret, Bind, Workers, Status, Defaults, Route, Name, Mode, LatencyMs, Buffer}
use Rattle.srt_config.specs.declared.config.keys.Key.TheVariants.{Sessions, Inbox, Outbox, OpenRound, CloseRound, Callers, PublishFrom}
use Rattle.srt_config.specs.declared.config.keys.Key.TheVariants.{RequestFrom, PublishKey, RequestKey, Reserved}
use Rattle.srt_config.specs.declared.config.keys.Key.TheVariants.{PublishPassphrase, RequestPassphrase, Pbkeylen, Expect}
use Rattle.srt_config.specs.KeyTable.{key_name, limits_of}
use Rattle.srt_config.specs.FirstFault.{Fault, Toml, UnknownKey, Missing, WrongKind, OutOfRange, BadName, RepeatedName, BadSecret, BadAddress}
use Rattle.srt_config.specs.FirstFault.{OutOfMemory, plain_fault, ◌>>=◌}
use Rattle.srt_config.specs.Keys.{is_key, value_at, of_kind, text_at, key_number_at, optional_number_at, optional_key_number_at, given_or_0}
use Rattle.srt_config.specs.Keys.{optional_flag_at}
use Rattle.srt_config.specs.Access.{list_at, key_at}
use Rattle.srt_config.specs.Rules.{callers_at, most_reserved}
use Rattle.srt_config.specs.Encryption.{passphrase_at, key_length_at, has_passphrase}
use Rattle.srt_config.specs.Routes.{mode_at, route_keys, are_tables, count}
use Rattle.srt_config.specs.Defaults.{default_keys, optional_mode_at, defaults_at, table_at, items_at}
use Rattle.srt_config.specs.Config.{top_keys, secret_at, address_at, optional_address_at}

-- a fault and the part that has it
pub record Placed : Type 0 where
  pub place : Place
  pub fault : Fault

abbrev pub placed : Place → Fault → Placed
placed place fault = record { place = place; fault = fault }

abbrev pub placed_seen : PlacedFault → Placed
placed_seen it = placed it.place (plain_fault it.fault)

abbrev pub faults_seen : List PlacedFault → List Placed
faults_seen = map placed_seen

-- the fault of a step, if it has one
abbrev pub fault_if : {A : Type 0} → Result A Fault → Option Fault
fault_if (Ok x) = None
fault_if (Err fault) = Some fault

-- a fault of this part, or none
abbrev pub told : Place → Option Fault → List Placed
told place None = []
told place (Some fault) = placed place fault ∷ []

-- what is wrong with each of these keys, in their order
abbrev pub each : Place → (fault_at : Key → Option Fault) → List Key → List Placed
each place fault_at [] = []
each place fault_at (key ∷ keys) = told place (fault_at key) ++ each place fault_at keys

-- a text before the first of these that isn't less, in the order of bytes
abbrev pub put_in_order : List ℕ → List (List ℕ) → List (List ℕ)
put_in_order text [] = text ∷ []
put_in_order text (other ∷ texts) = if is_lt (slice_cmp nat_cmp other text) then other ∷ put_in_order text texts else text ∷ other ∷ texts

-- the keys of a table that are none of these, in the order of bytes
abbrev pub unknown_in : List Key → Members → List (List ℕ)
unknown_in keys no_members = []
unknown_in keys (member text value rest) = if is_key keys text then unknown_in keys rest else put_in_order text (unknown_in keys rest)

-- the key that a fault is about
abbrev pub fault_key : Fault → List ℕ
fault_key Toml = codes "-"
fault_key (UnknownKey key) = key
fault_key (Missing key) = key_name key
fault_key (WrongKind key) = key_name key
fault_key (OutOfRange key) = key_name key
fault_key BadName = codes "name"
fault_key RepeatedName = codes "name"
fault_key BadSecret = codes "secret"
fault_key (BadAddress key) = key_name key
fault_key OutOfMemory = codes "-"

-- a part of a configuration, whose keys are checked one by one
pub data Part : Type 0 where
  AboveRoutes : (table : Members) → Part
  OfDefaults : (table : Members) → Part
  -- a route with the defaults that it lacks, and as it is written; the names of the routes before it, and the faults of the defaults
  OfRoute : (number : ℕ) → (table own : Members) → (names : List (List ℕ)) → (wrong : List Placed) → Part

abbrev pub place_of : Part → Place
place_of (AboveRoutes table) = place.Above
place_of (OfDefaults table) = place.Defaults
place_of (OfRoute number table own names wrong) = place.Route number

-- the routes as a whole: 1 to 511 tables
abbrev pub routes_right : Items → Result (Unit {0}) Fault
routes_right items =
    if not (are_tables items) then Err (WrongKind Route)
    else if not (is_between (limits_of Route).least (limits_of Route).most (count items)) then Err (OutOfRange Route)
    else Ok tt

unfoldable pub routes_checked : Members → Result (Unit {0}) Fault
routes_checked table = value_at Route table >>= λ value. of_kind Route (as_array value) >>= λ items. routes_right items

-- what is wrong with a key above the routes
abbrev pub top_fault : Members → Key → Option Fault
top_fault table Secret = fault_if (secret_at table)
top_fault table Bind = fault_if (address_at Bind table)
top_fault table Workers = fault_if (key_number_at Workers table)
top_fault table Status = fault_if (optional_address_at Status table)
top_fault table Defaults = fault_if (defaults_at table)
top_fault table Route = fault_if (routes_checked table)
top_fault table _ = None

-- what is wrong with a key that may be missing, by itself
abbrev pub default_fault : Members → Key → Option Fault
default_fault table Mode = fault_if (optional_mode_at table)
default_fault table Callers = fault_if (callers_at table)
default_fault table PublishFrom = fault_if (list_at PublishFrom table)
default_fault table RequestFrom = fault_if (list_at RequestFrom table)
default_fault table PublishKey = fault_if (key_at PublishKey table)
default_fault table RequestKey = fault_if (key_at RequestKey table)
default_fault table PublishPassphrase = fault_if (passphrase_at PublishPassphrase table)
default_fault table RequestPassphrase = fault_if (passphrase_at RequestPassphrase table)
default_fault table Pbkeylen = fault_if (key_length_at true table)
default_fault table Expect = fault_if (optional_flag_at Expect table)
default_fault table key = fault_if (optional_key_number_at key table)

-- a name of the right form that is none of these
abbrev pub name_among : List (List ℕ) → List ℕ → Result (List ℕ) Fault
name_among names text =
    if not (is_name text) then Err BadName else if list_any (λ (name : List ℕ). bytes_eq name text) names then Err RepeatedName else Ok text

unfoldable pub new_name_at : List (List ℕ) → Members → Result (List ℕ) Fault
new_name_at names table = text_at Name table >>= λ text. name_among names text

-- the first round in which a route may close: after it opens; any but the first, if that is wrong
abbrev pub after_opening : Result (Option ℕ) Fault → ℕ
after_opening (Ok opens) = given_or_0 opens + 1
after_opening (Err fault) = 1

unfoldable pub close_round_at : Members → Result (Option ℕ) Fault
close_round_at table = optional_number_at CloseRound (after_opening (optional_key_number_at OpenRound table)) (limits_of CloseRound).most table

-- the most slots that a route may keep for publishers: as many as any route, if its sessions are wrong
abbrev pub most_kept : Result ℕ Fault → ℕ
most_kept (Ok sessions) = most_reserved sessions
most_kept (Err fault) = (limits_of Reserved).most

unfoldable pub reserved_at : Members → Result (Option ℕ) Fault
reserved_at table = optional_number_at Reserved (limits_of Reserved).least (most_kept (key_number_at Sessions table)) table

-- what is wrong with a key of a route, after routes of these names
abbrev pub route_fault : (names : List (List ℕ)) → Members → Key → Option Fault
route_fault names table Name = fault_if (new_name_at names table)
route_fault names table Mode = fault_if (mode_at table)
route_fault names table LatencyMs = fault_if (key_number_at LatencyMs table)
route_fault names table Buffer = fault_if (key_number_at Buffer table)
route_fault names table Sessions = fault_if (key_number_at Sessions table)
route_fault names table Inbox = fault_if (key_number_at Inbox table)
route_fault names table Outbox = fault_if (key_number_at Outbox table)
route_fault names table CloseRound = fault_if (close_round_at table)
route_fault names table Reserved = fault_if (reserved_at table)
route_fault names table Pbkeylen = fault_if (key_length_at (has_passphrase table) table)
route_fault names table key = default_fault table key

-- one of these faults is about this key
abbrev pub has_fault_at : List ℕ → List Placed → Bool
has_fault_at key faults = list_any (λ (it : Placed). bytes_eq (fault_key it.fault) key) faults

abbrev pub unless : Bool → Fault → Option Fault
unless true fault = None
unless false fault = Some fault

-- the fault of a route, unless it is at a key that the route has from the defaults, and these have a fault there
abbrev pub own_fault : (own : Members) → (wrong : List Placed) → Option Fault → Option Fault
own_fault own wrong None = None
own_fault own wrong (Some fault) = unless (has_fault_at (fault_key fault) wrong && is_none (get_member (fault_key fault) own)) fault

-- what is wrong with a key of a part
abbrev pub part_fault : Part → Key → Option Fault
part_fault (AboveRoutes table) key = top_fault table key
part_fault (OfDefaults table) key = default_fault table key
part_fault (OfRoute number table own names wrong) key = own_fault own wrong (route_fault names table key)

-- that a key of a part is unknown
abbrev pub unknown_fault : Part → List ℕ → Option Fault
unknown_fault (AboveRoutes table) text = Some (UnknownKey text)
unknown_fault (OfDefaults table) text = Some (UnknownKey text)
unknown_fault (OfRoute number table own names wrong) text = own_fault own wrong (Some (UnknownKey text))

-- the keys that a part may have, and its table
abbrev pub keys_of : Part → List Key
keys_of (AboveRoutes table) = top_keys
keys_of (OfDefaults table) = default_keys
keys_of (OfRoute number table own names wrong) = route_keys

abbrev pub table_of : Part → Members
table_of (AboveRoutes table) = table
table_of (OfDefaults table) = table
table_of (OfRoute number table own names wrong) = table

-- the faults of unknown keys
abbrev pub each_unknown : Part → List (List ℕ) → List Placed
each_unknown part [] = []
each_unknown part (text ∷ texts) = told (place_of part) (unknown_fault part text) ++ each_unknown part texts

unfoldable pub unknown_faults : Part → List Placed
unknown_faults part = each_unknown part (unknown_in (keys_of part) (table_of part))

-- all faults of a part: those of its unknown keys, and then of these keys
abbrev pub part_faults : Part → List Key → List Placed
part_faults part keys = unknown_faults part ++ each (place_of part) (part_fault part) keys

-- the faults of the table of defaults
abbrev pub defaults_faults : Option Members → List Placed
defaults_faults None = []
defaults_faults (Some defaults) = part_faults (OfDefaults defaults) default_keys

-- the names of these routes and of one more, if it has one
abbrev pub names_with : List (List ℕ) → Result (List ℕ) Fault → List (List ℕ)
names_with names (Ok text) = names ++ text ∷ []
names_with names (Err fault) = names

-- the table of this number as it is written; an empty one if there is none
abbrev pub members_if : Option Members → Members
members_if None = no_members
members_if (Some members) = members

abbrev pub table_in : Option Data → Members
table_in None = no_members
table_in (Some value) = members_if (as_table value)

abbrev pub written_at : Items → (number : ℕ) → Members
written_at written number = table_in (get_item (number - 1) written)

-- the faults of a route of this number, after routes of these names, if it is a table
abbrev pub table_faults : (written : Items) → (wrong : List Placed) → (number : ℕ) → (names : List (List ℕ)) → Option Members → List Placed
table_faults written wrong number names None = []
table_faults written wrong number names (Some table) = part_faults (OfRoute number table (written_at written number) names wrong) route_keys

-- the names of routes and of one more
abbrev pub names_after : List (List ℕ) → Option Members → List (List ℕ)
names_after names None = names
names_after names (Some table) = names_with names (text_at Name table)

-- the faults of these routes: the first one has this number, and those before have these names
abbrev pub routes_faults : (written : Items) → (wrong : List Placed) → (number : ℕ) → (names : List (List ℕ)) → Items → List Placed
routes_faults written wrong number names no_items = []
routes_faults written wrong number names (item value rest) =
    table_faults written wrong number names (as_table value) ++
    routes_faults written wrong (suc number) (names_after names (as_table value)) rest

abbrev pub items_if : Option Items → Items
items_if None = no_items
items_if (Some items) = items

-- the keys above the routes that aren't routes
abbrev pub setting_keys : List Key
setting_keys = Secret ∷ Bind ∷ Workers ∷ Status ∷ Defaults ∷ []

-- all faults of a table whose routes have the defaults that they lack; the other one is the table as it is written. First those above the
-- routes, then those of the defaults, those of the routes as a whole, and those of each route
unfoldable pub all_faults : (written table : Members) → List Placed
all_faults written table =
    part_faults (AboveRoutes table) setting_keys ++
    (defaults_faults (table_at Defaults table) ++
    (each place.Above (top_fault table) (Route ∷ []) ++
    routes_faults (items_if (items_at Route written)) (defaults_faults (table_at Defaults table)) 1 [] (items_if (items_at Route table))))
