-- The risks of a valid configuration (our choice).
use Rattle.std.specs.Prelude.{◌≡◌, ℕ, suc, ◌+◌, ◌-◌, ◌*◌, ◌/◌, ◌==◌, nat_lt, nat_le, Bool, true, false, not, codes, List, [], ◌∷◌, ◌++◌, map}
use Rattle.std.specs.Prelude.{slice_index, slice_get, length, min, Option, None, Some, is_some, is_none, ◌&&◌, ◌||◌, if◌then◌else◌}
use Rattle.std.specs.Str.{bytes_eq}
use Rattle.toml.specs.Data.{Data, Items, no_items, get_item, Members, no_members, get_member, as_str, as_array, as_table}
use Rattle.srt_types.specs.declared.shared.Role.TheVariants.{Publish, Request}
use Rattle.srt_types.specs.Access.{RoleTerms, AccessTerms, is_secured, is_mapped}
use Rattle.srt_types.specs.Terms.{Terms}
use Rattle.srt_types.specs.declared.shared.Mode.{Mode}
use Rattle.srt_types.specs.declared.shared.Mode.TheVariants as mode
use Rattle.srt_config.specs.declared.config.address.BindAddress.{BindAddress}
use Rattle.srt_explain.specs.declared.warnings.Warning.{Warning}
use Rattle.srt_explain.specs.declared.warnings.Warning.TheVariants.{ExampleSecret, ExposedStatus, SmallOutbox, SmallWindow, OneSession, OpenKey}
use Rattle.srt_explain.specs.declared.warnings.Warning.TheVariants.{ShortPassphrase, SharedPassphrase, ClearPlayers}
use Rattle.srt_explain.specs.declared.warnings.Warning.TheVariants.{UnusedTakeover, UnusedAddressLimit, OneUnreserved}
use Rattle.srt_explain.specs.declared.warnings.Warning.TheVariants.{NoCallers, NoReserved, NoTakeover, NoResendLimit, PublicFile, MoreRoutes}
use Rattle.srt_explain.specs.declared.grouping.RouteRisk.{RouteRisk}
use Rattle.srt_explain.specs.declared.grouping.RouteRisk.TheVariants as risks
use Rattle.srt_config.specs.declared.config.keys.Key.{Key}
use Rattle.srt_config.specs.declared.config.keys.Key.TheVariants.{Callers, Reserved, TakeoverMs, ResendPercent}
use Rattle.srt_config.specs.KeyTable.{key_name}
use Rattle.srt_config.specs.Keys.{given_or_0}

-- the most replies of one event of a route
abbrev pub replies_of : Terms → ℕ
replies_of t = 4 + 66 * t.sessions

-- the time whose packets a live route's window should hold, in milliseconds: its latency and a second, or two seconds
abbrev pub millis_of : Terms → ℕ
millis_of t = if nat_lt (t.latency_ms + 1000) 2000 then 2000 else t.latency_ms + 1000

-- the packets of a stream of 1 Mbit/s in that time: 95 a second
abbrev pub packets_of : Terms → ℕ
packets_of t = (95 * millis_of t + 999) / 1000

abbrev pub if_live : Mode → Bool → Bool
if_live mode.Live holds = holds
if_live mode.Buffer holds = false

abbrev pub is_small_window : Terms → Bool
is_small_window t = if_live t.mode (nat_lt t.buffer (packets_of t))

-- one warning, or none
abbrev pub given : Bool → Warning → List Warning
given true warning = warning ∷ []
given false warning = []

abbrev pub is_small_outbox : Terms → Bool
is_small_outbox t = nat_lt t.outbox (replies_of t)

-- a route is warned of its outbox exactly if that can't hold the replies of one event: 66 for each session and 4 more
abbrev pub WarnsOfSmallOutboxes : Type 0
WarnsOfSmallOutboxes = (t : Terms) → is_small_outbox t ≡ nat_lt t.outbox (4 + 66 * t.sessions)

abbrev pub has_one_session : Terms → Bool
has_one_session t = t.sessions == 1

abbrev pub outbox_warning : (route : ℕ) → Terms → Warning
outbox_warning route t = SmallOutbox route t.outbox (replies_of t)

abbrev pub window_warning : (route : ℕ) → Terms → Warning
window_warning route t = SmallWindow route t.buffer (packets_of t) (millis_of t)

-- the warnings about the numbers of the route of this number
abbrev pub number_warnings : (route : ℕ) → Terms → List Warning
number_warnings route t =
    (given (is_small_outbox t) (outbox_warning route t) ++ given (is_small_window t) (window_warning route t)) ++
    given (has_one_session t) (OneSession route)

-- a role has a key and no list: anyone who reads the key in transit can use it from anywhere
abbrev pub has_open_key : RoleTerms → Bool
has_open_key role = is_some role.key && not (is_some role.from)

-- the warnings about the keys of the roles
abbrev pub key_warnings : (route : ℕ) → AccessTerms → List Warning
key_warnings route access = given (has_open_key access.publish) (OpenKey route Publish) ++ given (has_open_key access.request) (OpenKey route Request)

-- a passphrase that is found by trial: one of fewer than 16 bytes
abbrev pub is_short : Option (List ℕ) → Bool
is_short (Some passphrase) = nat_lt (length passphrase) 16
is_short None = false

-- the roles have the same passphrase: who may receive may publish too
abbrev pub are_same : (one other : Option (List ℕ)) → Bool
are_same (Some one) (Some other) = bytes_eq one other
are_same (Some one) None = false
are_same None other = false

-- what publishers encrypt is sent to subscribers in clear
abbrev pub has_clear_players : AccessTerms → Bool
has_clear_players access = is_secured access.publish && not (is_secured access.request)

-- the warnings about the passphrases of the roles: of each alone, and of both
abbrev pub short_warnings : (route : ℕ) → AccessTerms → List Warning
short_warnings route access =
    given (is_short access.publish.passphrase) (ShortPassphrase route Publish) ++
    given (is_short access.request.passphrase) (ShortPassphrase route Request)

abbrev pub pair_warnings : (route : ℕ) → AccessTerms → List Warning
pair_warnings route access =
    given (are_same access.publish.passphrase access.request.passphrase) (SharedPassphrase route) ++ given (has_clear_players access) (ClearPlayers route)

abbrev pub access_warnings : (route : ℕ) → AccessTerms → List Warning
access_warnings route access = (key_warnings route access ++ short_warnings route access) ++ pair_warnings route access

-- the warnings about passphrases tell of one only whether it is there, whether it is short, and whether the other role has it too
pub record AreAsLong (one other : AccessTerms) : Type 0 where
  pub publish : is_short one.publish.passphrase ≡ is_short other.publish.passphrase
  pub request : is_short one.request.passphrase ≡ is_short other.request.passphrase
  pub same : are_same one.publish.passphrase one.request.passphrase ≡ are_same other.publish.passphrase other.request.passphrase
  pub clear : has_clear_players one ≡ has_clear_players other

abbrev pub WarnsOfNoPassphrase : Type 0
WarnsOfNoPassphrase =
    (route : ℕ) (one other : AccessTerms) → AreAsLong one other →
    short_warnings route one ++ pair_warnings route one ≡ short_warnings route other ++ pair_warnings route other

abbrev pub if_buffer : Mode → Bool → Bool
if_buffer mode.Live holds = false
if_buffer mode.Buffer holds = holds

-- a time of a take-over has no effect in buffer mode
abbrev pub has_unused_takeover : Terms → Bool
has_unused_takeover t = if_buffer t.mode (is_some t.rules.takeover_ms)

-- a limit of sessions that is no less than those of the route has no effect
abbrev pub allows_all : (sessions : ℕ) → (limit : Option ℕ) → Bool
allows_all sessions (Some limit) = nat_le sessions limit
allows_all sessions None = false

abbrev pub has_unused_limit : Terms → Bool
has_unused_limit t = allows_all t.sessions t.rules.sessions_per_address

abbrev pub limit_warning : (route : ℕ) → Terms → Warning
limit_warning route t = UnusedAddressLimit route (given_or_0 t.rules.sessions_per_address) t.sessions

-- slots are kept for publishers, and all but one
abbrev pub has_one_unreserved : Terms → Bool
has_one_unreserved t = nat_lt 0 t.rules.reserved && t.rules.reserved + 1 == t.sessions

abbrev pub unreserved_warning : (route : ℕ) → Terms → Warning
unreserved_warning route t = OneUnreserved route t.rules.reserved t.sessions

-- the warnings about the rules of the route of this number
abbrev pub rule_warnings : (route : ℕ) → Terms → List Warning
rule_warnings route t =
    (given (has_unused_takeover t) (UnusedTakeover route) ++ given (has_unused_limit t) (limit_warning route t)) ++
    given (has_one_unreserved t) (unreserved_warning route t)

-- the tables of the routes in a configuration's table
abbrev pub items_if : Option Items → Items
items_if None = no_items
items_if (Some items) = items

abbrev pub items_in : Option Data → Items
items_in None = no_items
items_in (Some value) = items_if (as_array value)

abbrev pub members_if : Option Members → Members
members_if None = no_members
members_if (Some members) = members

abbrev pub members_in : Option Data → Members
members_in None = no_members
members_in (Some value) = members_if (as_table value)

-- the table of the route of this number
abbrev pub route_table : (table : Members) → (route : ℕ) → Members
route_table table route = members_in (get_item (route - 1) (items_in (get_member (codes "route") table)))

-- the table of a route has no such key
abbrev pub lacks : Key → Members → Bool
lacks key table = is_none (get_member (key_name key) table)

-- the slots to keep for publishers: two, if two more are left
abbrev pub advised_slots : Terms → ℕ
advised_slots t = min (t.sessions - 2) 2

abbrev pub lacks_reserved : Members → Terms → Bool
lacks_reserved table t = lacks Reserved table && nat_lt 2 t.sessions

abbrev pub reserved_warning : (route : ℕ) → Terms → Warning
reserved_warning route t = NoReserved route (advised_slots t)

abbrev pub lacks_takeover : Members → Terms → Bool
lacks_takeover table t = if_live t.mode (lacks TakeoverMs table)

-- the warnings about keys that the table of a route leaves out: who is admitted, and what is limited
abbrev pub default_admission : (route : ℕ) → Members → Terms → List Warning
default_admission route table t = given (lacks Callers table) (NoCallers route) ++ given (lacks_reserved table t) (reserved_warning route t)

abbrev pub default_limits : (route : ℕ) → Members → Terms → List Warning
default_limits route table t = given (lacks_takeover table t) (NoTakeover route) ++ given (lacks ResendPercent table) (NoResendLimit route)

-- the warnings about the values of a route
abbrev pub value_warnings : (route : ℕ) → Terms → List Warning
value_warnings route t = (number_warnings route t ++ access_warnings route t.access) ++ rule_warnings route t

-- all warnings about the route of this number, which has this table
abbrev pub route_warnings : (route : ℕ) → Members → Terms → List Warning
route_warnings route table t = (value_warnings route t ++ default_admission route table t) ++ default_limits route table t

-- and about these routes of a configuration's table, the first of which has this number
abbrev pub routes_warnings : (table : Members) → (route : ℕ) → List Terms → List Warning
routes_warnings table route [] = []
routes_warnings table route (t ∷ ts) = route_warnings route (route_table table route) t ++ routes_warnings table (suc route) ts

abbrev pub is_example : Option (List ℕ) → Bool
is_example (Some text) = bytes_eq text (codes "000102030405060708090a0b0c0d0e0f101112131415161718191a1b1c1d1e1f")
is_example None = false

abbrev pub text_in : Option Data → Option (List ℕ)
text_in (Some value) = as_str value
text_in None = None

-- the secret of examples/gateway.toml
abbrev pub has_example_secret : Members → Bool
has_example_secret table = is_example (text_in (get_member (codes "secret") table))

-- the 16 bytes of ::1
abbrev pub ipv6_loopback : List ℕ
ipv6_loopback = 0 ∷ 0 ∷ 0 ∷ 0 ∷ 0 ∷ 0 ∷ 0 ∷ 0 ∷ 0 ∷ 0 ∷ 0 ∷ 0 ∷ 0 ∷ 0 ∷ 0 ∷ 1 ∷ []

-- an address of 127.0.0.0/8, or ::1
abbrev pub is_loopback : BindAddress → Bool
is_loopback address = is_mapped address.ip && slice_index address.ip 12 == 127 || bytes_eq address.ip ipv6_loopback

-- the warnings about the address of the status page
abbrev pub status_warnings : Option BindAddress → List Warning
status_warnings (Some address) = given (not (is_loopback address)) (ExposedStatus address)
status_warnings None = []

-- all warnings about a configuration that was read from this table, and has this status page and these routes
abbrev pub warnings_of : Members → (status : Option BindAddress) → List Terms → List Warning
warnings_of table status routes = given (has_example_secret table) ExampleSecret ++ status_warnings status ++ routes_warnings table 1 routes

-- the number of the route that a warning is about
abbrev pub route_of : Warning → Option ℕ
route_of ExampleSecret = None
route_of PublicFile = None
route_of (MoreRoutes risk count) = None
route_of (ExposedStatus address) = None
route_of (SmallOutbox route outbox replies) = Some route
route_of (SmallWindow route buffer packets millis) = Some route
route_of (OneSession route) = Some route
route_of (OpenKey route role) = Some route
route_of (ShortPassphrase route role) = Some route
route_of (SharedPassphrase route) = Some route
route_of (ClearPlayers route) = Some route
route_of (UnusedTakeover route) = Some route
route_of (UnusedAddressLimit route limit sessions) = Some route
route_of (OneUnreserved route reserved sessions) = Some route
route_of (NoCallers route) = Some route
route_of (NoReserved route slots) = Some route
route_of (NoTakeover route) = Some route
route_of (NoResendLimit route) = Some route

-- a risk of routes whose tables don't have a key
abbrev pub is_of_missing_key : RouteRisk → Bool
is_of_missing_key risks.NoCallers = true
is_of_missing_key risks.NoReserved = true
is_of_missing_key risks.NoTakeover = true
is_of_missing_key risks.NoResendLimit = true
is_of_missing_key _ = false

-- whether a warning is about a key that the route's table doesn't have
abbrev pub names_missing_key : Warning → Bool
names_missing_key (NoCallers route) = true
names_missing_key (NoReserved route slots) = true
names_missing_key (NoTakeover route) = true
names_missing_key (NoResendLimit route) = true
names_missing_key (MoreRoutes risk count) = is_of_missing_key risk
names_missing_key _ = false

abbrev pub name_if : Option Terms → List ℕ
name_if None = []
name_if (Some terms) = terms.name

-- the name of the route of this number; empty if there is none
abbrev pub name_at : (number : ℕ) → List Terms → List ℕ
name_at number routes = name_if (slice_get routes (number - 1))

-- the name with which a warning is printed
abbrev pub name_for : (route : Option ℕ) → List Terms → List ℕ
name_for None routes = []
name_for (Some number) routes = name_at number routes

-- another key of a role, where it has one
abbrev pub with_key : (key : List ℕ) → Option (List ℕ) → Option (List ℕ)
with_key key None = None
with_key key (Some old) = Some key

abbrev pub with_role_key : (key : List ℕ) → RoleTerms → RoleTerms
with_role_key key role = record role { key = with_key key role.key }

-- other keys of a route's roles, where these have some
abbrev pub with_keys : (publish request : List ℕ) → Terms → Terms
with_keys publish request t =
    record t { access = record t.access { publish = with_role_key publish t.access.publish; request = with_role_key request t.access.request } }

-- the warnings are the same whatever the keys of the routes' roles are
abbrev pub WarnsOfNoKey : Type 0
WarnsOfNoKey =
    (table : Members) (status : Option BindAddress) (routes : List Terms) (publish request : List ℕ) →
    warnings_of table status (map (with_keys publish request) routes) ≡ warnings_of table status routes
