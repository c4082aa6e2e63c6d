-- The configuration in a text (our choice).
use Rattle.std.specs.Prelude.{ℕ, Bool, List, [], ◌∷◌, map, Option, None, Some, option_map, Result, Ok, Err}
use Rattle.toml.specs.Data.{Data, Members, get_member}
use Rattle.hex.specs.Hex.{decode_sized}
use Rattle.hex.specs.declared.error.FromHexError.{FromHexError}
use Rattle.srt_cookie.specs.Cookie.{secret_bytes}
use Rattle.srt_types.specs.Terms.{Terms, terms_of}
use Rattle.srt_types.specs.declared.shared.Schedule.{Schedule}
use Rattle.srt_config.specs.declared.config.Config.{Config}
use Rattle.srt_config.specs.declared.config.keys.Key.{Key}
use Rattle.srt_config.specs.declared.config.keys.Key.TheVariants.{Secret, Bind, Workers, Status, Defaults, Route}
use Rattle.srt_config.specs.Address.{Address, address_in}
use Rattle.srt_config.specs.AddressParts.{address_of}
use Rattle.srt_config.specs.KeyTable.{key_name}
use Rattle.srt_config.specs.FirstFault.{Fault, Toml, BadSecret, BadAddress, ◌>>=◌}
use Rattle.srt_config.specs.Keys.{known, value_at, text_value, text_at, key_number_at, optional}
use Rattle.srt_config.specs.Routes.{routes_at}
use Rattle.srt_config.specs.Defaults.{defaults_at, right_if_given, with_defaults}

abbrev pub decoded : Result (List ℕ) FromHexError → Result (List ℕ) Fault
decoded (Ok bytes) = Ok bytes
decoded (Err e) = Err BadSecret

-- the 32 bytes of 64 hexadecimal digits, in either case
unfoldable pub secret_in : List ℕ → Result (List ℕ) Fault
secret_in text = decoded (decode_sized text 32)

unfoldable pub secret_at : Members → Result (List ℕ) Fault
secret_at table = text_at Secret table >>= λ text. secret_in text

abbrev pub addressed : Key → Option Address → Result Address Fault
addressed key (Some address) = Ok address
addressed key None = Err (BadAddress key)

-- the address that the value of a key is
unfoldable pub address_value : Key → Data → Result Address Fault
address_value key value = text_value key value >>= λ text. addressed key (address_in text)

-- the address at a key
unfoldable pub address_at : Key → Members → Result Address Fault
address_at key table = value_at key table >>= λ value. address_value key value

-- the address at a key that may be missing
unfoldable pub optional_address_at : Key → Members → Result (Option Address) Fault
optional_address_at key table = optional (address_value key) (get_member (key_name key) table)

-- a configuration as plain values
pub record Settings : Type 0 where
  pub secret : List ℕ
  pub bind : Address
  pub workers : ℕ
  pub status : Option Address
  pub routes : List Terms
  pub schedules : List Schedule
  pub expected : List Bool

-- the keys of the table
abbrev pub top_keys : List Key
top_keys = Secret ∷ Bind ∷ Workers ∷ Status ∷ Defaults ∷ Route ∷ []

-- the configuration in a table whose routes have the defaults that they lack, or its first fault
unfoldable pub settings_at : Members → Result Settings Fault
settings_at table =
    known top_keys table >>= λ _.
    secret_at table >>= λ secret.
    address_at Bind table >>= λ bind.
    key_number_at Workers table >>= λ workers.
    optional_address_at Status table >>= λ status.
    defaults_at table >>= λ defaults.
    right_if_given defaults >>= λ _.
    routes_at table >>= λ routes.
    Ok
    (record {
      secret = secret;
      bind = bind;
      workers = workers;
      status = status;
      routes = routes.terms;
      schedules = routes.schedules;
      expected = routes.expected;
    })

-- the configuration in a text with this table: that of the table in which each route has the defaults that it lacks; None if it isn't TOML
abbrev pub config_in : Option Members → Result Settings Fault
config_in (Some table) = settings_at (with_defaults table)
config_in None = Err Toml

abbrev pub settings_of : Config → Settings
settings_of config =
    record {
      secret = secret_bytes config.secret;
      bind = address_of config.bind;
      workers = config.workers;
      status = option_map address_of config.status;
      routes = map terms_of config.entries.items;
      schedules = config.schedules.items;
      expected = config.expected.items;
    }
