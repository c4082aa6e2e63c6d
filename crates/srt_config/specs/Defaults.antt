-- The defaults of routes: what a route's table lacks is taken from the table of defaults (our choice).
use Rattle.std.specs.Prelude.{ℕ, List, [], ◌∷◌, Option, None, Some, is_some, option_and_then, Result, Ok, if◌then◌else◌}
use Rattle.std.specs.Ordering.{nat_cmp, match_ordering}
use Rattle.std.specs.Cmp.Lexicographic.{slice_cmp}
use Rattle.toml.specs.Data.{Data, table, array, Items, no_items, item, Members, no_members, member, get_member, as_array, as_table}
use Rattle.srt_types.specs.declared.shared.Mode.{Mode as TheMode}
use Rattle.srt_config.specs.declared.config.keys.Key.{Key}
use Rattle.srt_config.specs.declared.config.keys.Key.TheVariants.{Defaults, Route, Mode, LatencyMs, Buffer, Sessions, Inbox, Outbox}
use Rattle.srt_config.specs.declared.config.keys.Key.TheVariants.{OpenRound, CloseRound, Callers, PublishFrom, RequestFrom, PublishKey}
use Rattle.srt_config.specs.declared.config.keys.Key.TheVariants.{RequestKey, Reserved, SessionsPerAddress, TakeoverMs, ResendPercent}
use Rattle.srt_config.specs.declared.config.keys.Key.TheVariants.{PublishPassphrase, RequestPassphrase, Pbkeylen, Expect}
use Rattle.srt_config.specs.KeyTable.{key_name}
use Rattle.srt_config.specs.FirstFault.{Fault, ◌>>=◌}
use Rattle.srt_config.specs.Keys.{known, optional, text_value, of_kind, optional_key_number_at, optional_flag_at}
use Rattle.srt_config.specs.Access.{access_at}
use Rattle.srt_config.specs.Rules.{callers_at}
use Rattle.srt_config.specs.Encryption.{default_encryption_at}
use Rattle.srt_config.specs.Routes.{mode_in}

-- the members with this value at this key, before the first greater key in the order of bytes
abbrev pub set_member : List ℕ → Data → Members → Members
set_member key value no_members = member key value no_members
set_member key value (member other old rest) =
    match_ordering (slice_cmp nat_cmp key other) (member key value (member other old rest)) (member other value rest)
    (member other old (set_member key value rest))

-- the same, unless they have the key
abbrev pub with_missing : List ℕ → Data → Members → Members
with_missing key value members = if is_some (get_member key members) then members else set_member key value members

-- a route's table with those of the defaults that it lacks
abbrev pub completed : (route defaults : Members) → Members
completed route no_members = route
completed route (member key value rest) = completed (with_missing key value route) rest

-- the same of a value, where that is a table
abbrev pub completed_if : Option Members → Data → (defaults : Members) → Data
completed_if None value defaults = value
completed_if (Some route) value defaults = table (completed route defaults)

abbrev pub completed_items : Items → (defaults : Members) → Items
completed_items no_items defaults = no_items
completed_items (item value rest) defaults = item (completed_if (as_table value) value defaults) (completed_items rest defaults)

-- the table at a key, and the list at one
abbrev pub table_at : Key → Members → Option Members
table_at key members = option_and_then as_table (get_member (key_name key) members)

abbrev pub items_at : Key → Members → Option Items
items_at key members = option_and_then as_array (get_member (key_name key) members)

-- the routes of a table, completed, where it has defaults
abbrev pub completed_by : Option Members → Option Items → Option Items
completed_by None routes = None
completed_by (Some defaults) None = None
completed_by (Some defaults) (Some routes) = Some (completed_items routes defaults)

abbrev pub with_routes : Option Items → Members → Members
with_routes None members = members
with_routes (Some routes) members = set_member (key_name Route) (array routes) members

-- a configuration's table in which each route has the defaults that it lacks; the same table if it has no defaults
unfoldable pub with_defaults : Members → Members
with_defaults members = with_routes (completed_by (table_at Defaults members) (items_at Route members)) members

-- the keys of the table of defaults: those of a route but its name
abbrev pub default_keys : List Key
default_keys =
    Mode ∷ LatencyMs ∷ Buffer ∷ Sessions ∷ Inbox ∷ Outbox ∷ OpenRound ∷ CloseRound ∷ Callers ∷ PublishFrom ∷ RequestFrom ∷
    PublishKey ∷ RequestKey ∷ Reserved ∷ SessionsPerAddress ∷ TakeoverMs ∷ ResendPercent ∷ PublishPassphrase ∷ RequestPassphrase ∷ Pbkeylen ∷
    Expect ∷ []

unfoldable pub mode_value : Data → Result TheMode Fault
mode_value value = text_value Mode value >>= λ text. mode_in text

-- the mode at a key that may be missing
unfoldable pub optional_mode_at : Members → Result (Option TheMode) Fault
optional_mode_at members = optional mode_value (get_member (key_name Mode) members)

-- each number of a route and of its schedule is within its key's limits, or missing
unfoldable pub numbers_right : Members → Result (Unit {0}) Fault
numbers_right members =
    optional_key_number_at LatencyMs members >>= λ _.
    optional_key_number_at Buffer members >>= λ _.
    optional_key_number_at Sessions members >>= λ _.
    optional_key_number_at Inbox members >>= λ _.
    optional_key_number_at Outbox members >>= λ _.
    optional_key_number_at OpenRound members >>= λ _.
    optional_key_number_at CloseRound members >>= λ _.
    Ok tt

-- so is each number of its rules
unfoldable pub limits_right : Members → Result (Unit {0}) Fault
limits_right members =
    optional_key_number_at Reserved members >>= λ _.
    optional_key_number_at SessionsPerAddress members >>= λ _.
    optional_key_number_at TakeoverMs members >>= λ _.
    optional_key_number_at ResendPercent members >>= λ _.
    Ok tt

-- a table of defaults has no key but these, and each value is one that the key allows in some route
unfoldable pub defaults_right : Members → Result (Unit {0}) Fault
defaults_right members =
    known default_keys members >>= λ _.
    optional_mode_at members >>= λ _.
    numbers_right members >>= λ _.
    callers_at members >>= λ _.
    access_at members >>= λ _.
    limits_right members >>= λ _.
    default_encryption_at members >>= λ _.
    optional_flag_at Expect members >>= λ _.
    Ok tt

-- the table of defaults, which may be missing
unfoldable pub defaults_at : Members → Result (Option Members) Fault
defaults_at members = optional (λ value. of_kind Defaults (as_table value)) (get_member (key_name Defaults) members)

abbrev pub right_if_given : Option Members → Result (Unit {0}) Fault
right_if_given None = Ok tt
right_if_given (Some defaults) = defaults_right defaults
