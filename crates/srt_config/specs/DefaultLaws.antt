-- What defaults mean for the routes and for the rest of a configuration.
use Rattle.std.specs.Prelude.{◌≡◌, ℕ, true, List, Option, None, Some, is_some}
use Rattle.toml.specs.Data.{Data, Members, get_member}
use Rattle.srt_config.specs.declared.config.keys.Key.TheVariants.{Defaults}
use Rattle.srt_config.specs.KeyTable.{key_name}
use Rattle.srt_config.specs.Config.{settings_at, config_in}
use Rattle.srt_config.specs.Defaults.{completed, with_defaults}

-- this value, or the other one if there is none
abbrev pub or_default : (own default : Option Data) → Option Data
or_default None default = default
or_default (Some value) default = Some value

-- a completed route has its own value at each key, whatever the defaults are, and the default at the keys that it lacks
abbrev pub OwnBeforeDefault : Type 0
OwnBeforeDefault = (key : List ℕ) (route defaults : Members) →
    get_member key (completed route defaults) ≡ or_default (get_member key route) (get_member key defaults)

-- a configuration without defaults is read as it is
abbrev pub NoneWithoutDefaults : Type 0
NoneWithoutDefaults = (table : Members) → get_member (key_name Defaults) table ≡ None →
    (with_defaults table ≡ table) × (config_in (Some table) ≡ settings_at table)

-- a route that has every key of the defaults is read as it is
abbrev pub HasKeysOf : (route defaults : Members) → Type 0
HasKeysOf route defaults = (key : List ℕ) → is_some (get_member key defaults) ≡ true → is_some (get_member key route) ≡ true

abbrev pub WrittenOutStays : Type 0
WrittenOutStays = (route defaults : Members) → HasKeysOf route defaults → completed route defaults ≡ route
