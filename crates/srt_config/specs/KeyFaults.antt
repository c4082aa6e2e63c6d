-- The faults of a configuration, key by key: stated without the functions that read it (our choice).
use Rattle.std.specs.Prelude.{◌≡◌, ℕ, ◌+◌, ℤ, pos, negsuc, ◌⊎◌, ◌↔◌, Bool, true, false, ◌&&◌, is_some, codes, List, [], ◌∷◌, ◌++◌, length, Option}
use Rattle.std.specs.Prelude.{Some, None, option_and_then, Ok, Err}
use Rattle.std.specs.Str.{bytes_eq}
use Rattle.toml.specs.Data.{Data, Members, Items, no_items, item, get_member, as_str, as_integer, as_bool, as_array, as_table}
use Rattle.hex.specs.Hex.{decode_sized}
use Rattle.srt_types.specs.declared.shared.KeyLength.{KeyLength}
use Rattle.srt_types.specs.Access.{bytes_in}
use Rattle.srt_types.specs.Entries.{is_between, is_name}
use Rattle.srt_types.specs.Terms.{Terms}
use Rattle.srt_lobby.specs.Opening.{is_taken}
use Rattle.srt_config.specs.declared.config.keys.Key.{Key}
use Rattle.srt_config.specs.declared.config.keys.Key.TheVariants.{Secret, Bind, Workers, Status, Defaults, Route, Name, Mode, LatencyMs, Buffer}
use Rattle.srt_config.specs.declared.config.keys.Key.TheVariants.{Sessions, Inbox, Outbox, OpenRound, CloseRound, Callers}
use Rattle.srt_config.specs.declared.config.keys.Key.TheVariants.{PublishFrom, RequestFrom, PublishKey, RequestKey, Reserved}
use Rattle.srt_config.specs.declared.config.keys.Key.TheVariants.{SessionsPerAddress, TakeoverMs, ResendPercent, PublishPassphrase, RequestPassphrase, Pbkeylen}
use Rattle.srt_config.specs.declared.config.keys.Key.TheVariants.{Expect}
use Rattle.srt_config.specs.Access.{network_in, are_texts, member_count, is_key_text}
use Rattle.srt_config.specs.Rules.{most_reserved}
use Rattle.srt_config.specs.Encryption.{has_passphrase}
use Rattle.srt_config.specs.KeyTable.{key_name}
use Rattle.srt_config.specs.FirstFault.{Fault, UnknownKey, Missing, WrongKind, OutOfRange, BadName, RepeatedName, BadSecret, BadAddress}
use Rattle.srt_config.specs.Address.{address_in}
use Rattle.srt_config.specs.Keys.{least_unknown}
use Rattle.srt_config.specs.Routes.{route_keys, Planned, route_at, are_tables, count}
use Rattle.srt_config.specs.Defaults.{default_keys}
use Rattle.srt_config.specs.Config.{top_keys, settings_at}

-- a set of faults
abbrev pub Faulty : Type 1
Faulty = Fault → Type 0

abbrev pub HasNone : Faulty → Type 0
HasNone faulty = (fault : Fault) → faulty fault → ⊥

infixr 10 ◌⊳◌
-- the first part has this fault; or it has none, and the later part has this one
abbrev pub ◌⊳◌ : Faulty → Faulty → Faulty
(first ⊳ later) fault = first fault ⊎ (HasNone first × later fault)

-- the least key of a table, in the order of bytes, that is none of these
abbrev pub Unknown : List Key → Members → Faulty
Unknown keys table fault = (text : List ℕ) × (least_unknown keys table ≡ Some text) × (fault ≡ UnknownKey text)

-- the faults of one key: it is missing, its value has another type, or the value itself has a fault
abbrev pub AtKey : {A : Type 0} → (key : Key) (kind : Data → Option A) (Own : A → Faulty) → Members → Faulty
AtKey {A} key kind Own table fault =
    ((get_member (key_name key) table ≡ None) × (fault ≡ Missing key)) ⊎
    ((value : Data) × (get_member (key_name key) table ≡ Some value) ×
    (((kind value ≡ None) × (fault ≡ WrongKind key)) ⊎ ((x : A) × (kind value ≡ Some x) × Own x fault)))

-- the same of a key that may be missing
abbrev pub AtOptional : {A : Type 0} → (key : Key) (kind : Data → Option A) (Own : A → Faulty) → Members → Faulty
AtOptional {A} key kind Own table fault =
    (value : Data) × (get_member (key_name key) table ≡ Some value) ×
    (((kind value ≡ None) × (fault ≡ WrongKind key)) ⊎ ((x : A) × (kind value ≡ Some x) × Own x fault))

-- not 64 hexadecimal digits
abbrev pub NoSecret : List ℕ → Faulty
NoSecret text fault = (fault ≡ BadSecret) × ((bytes : List ℕ) → decode_sized text 32 ≡ Ok bytes → ⊥)

-- not an address and port
abbrev pub NoAddress : Key → List ℕ → Faulty
NoAddress key text fault = (fault ≡ BadAddress key) × (address_in text ≡ None)

-- a number below or above its limits
abbrev pub Outside : Key → (low high : ℕ) → ℤ → Faulty
Outside key low high n fault = (fault ≡ OutOfRange key) × ((k : ℕ) → n ≡ pos k → is_between low high k ≡ true → ⊥)

-- a name of a wrong form; or one of the right form that an earlier route has
abbrev pub NoName : (before : List Terms) → List ℕ → Faulty
NoName before text fault = ((fault ≡ BadName) × (is_name text ≡ false)) ⊎ ((fault ≡ RepeatedName) × (is_name text ≡ true) × (is_taken text before ≡ true))

-- neither `live` nor `buffer`
abbrev pub NoMode : List ℕ → Faulty
NoMode text fault = (fault ≡ OutOfRange Mode) × (bytes_eq text (codes "live") ≡ false) × (bytes_eq text (codes "buffer") ≡ false)

-- the keys with a route's limits
abbrev pub InNumbers : Members → Faulty
InNumbers table =
    AtKey LatencyMs as_integer (Outside LatencyMs 20 8000) table ⊳
    AtKey Buffer as_integer (Outside Buffer 32 8192) table ⊳
    AtKey Sessions as_integer (Outside Sessions 1 17) table ⊳
    AtKey Inbox as_integer (Outside Inbox 16 4096) table ⊳
    AtKey Outbox as_integer (Outside Outbox 16 4096) table

-- the same keys and those of a schedule, where they may be missing
abbrev pub InOptionalNumbers : Members → Faulty
InOptionalNumbers table =
    AtOptional LatencyMs as_integer (Outside LatencyMs 20 8000) table ⊳
    AtOptional Buffer as_integer (Outside Buffer 32 8192) table ⊳
    AtOptional Sessions as_integer (Outside Sessions 1 17) table ⊳
    AtOptional Inbox as_integer (Outside Inbox 16 4096) table ⊳
    AtOptional Outbox as_integer (Outside Outbox 16 4096) table ⊳
    AtOptional OpenRound as_integer (Outside OpenRound 0 1_000_000_000) table ⊳
    AtOptional CloseRound as_integer (Outside CloseRound 1 1_000_000_000) table

-- a number at a key, 0 if the key is missing
abbrev pub number_or_0 : Option ℤ → ℕ
number_or_0 None = 0
number_or_0 (Some (pos n)) = n
number_or_0 (Some (negsuc n)) = 0

-- the round in which a route opens, 0 if its key is missing
abbrev pub opening_in : Members → ℕ
opening_in table = number_or_0 (option_and_then as_integer (get_member (key_name OpenRound) table))

-- the keys with the rounds in which a route opens and closes: it closes in a later round
abbrev pub InSchedule : Members → Faulty
InSchedule table =
    AtOptional OpenRound as_integer (Outside OpenRound 0 1_000_000_000) table ⊳
    AtOptional CloseRound as_integer (Outside CloseRound (opening_in table + 1) 1_000_000_000) table

-- every item is a text that is a network
abbrev pub is_network : Option (List ℕ) → Bool
is_network (Some text) = is_some (network_in text)
is_network None = false

abbrev pub are_networks : Items → Bool
are_networks no_items = true
are_networks (item value rest) = is_network (as_str value) && are_networks rest

-- too few or too many items; or some that aren't texts; or texts that aren't networks
abbrev pub NoNetworks : Key → Items → Faulty
NoNetworks key items fault =
    ((fault ≡ OutOfRange key) × (is_between 1 16 (member_count items) ≡ false)) ⊎
    ((fault ≡ WrongKind key) × (is_between 1 16 (member_count items) ≡ true) × (are_texts items ≡ false)) ⊎
    ((fault ≡ BadAddress key) × (is_between 1 16 (member_count items) ≡ true) × (are_texts items ≡ true) × (are_networks items ≡ false))

-- a text that is no key of a role
abbrev pub NoKeyText : Key → List ℕ → Faulty
NoKeyText key text fault = (fault ≡ OutOfRange key) × (is_key_text text ≡ false)

-- the keys with the clients allowed on a route
abbrev pub InAccess : Members → Faulty
InAccess table =
    AtOptional PublishFrom as_array (NoNetworks PublishFrom) table ⊳
    AtOptional RequestFrom as_array (NoNetworks RequestFrom) table ⊳
    AtOptional PublishKey as_str (NoKeyText PublishKey) table ⊳
    AtOptional RequestKey as_str (NoKeyText RequestKey) table

-- neither `draft` nor `libsrt`
abbrev pub NoCallers : List ℕ → Faulty
NoCallers text fault = (fault ≡ OutOfRange Callers) × (bytes_eq text (codes "draft") ≡ false) × (bytes_eq text (codes "libsrt") ≡ false)

-- the number of sessions of a route, 0 if its key is missing
abbrev pub sessions_in : Members → ℕ
sessions_in table = number_or_0 (option_and_then as_integer (get_member (key_name Sessions) table))

-- the keys with the limits of what callers may take; fewer slots are kept for publishers than there are sessions
abbrev pub InRules : Members → Faulty
InRules table =
    AtOptional Reserved as_integer (Outside Reserved 0 (most_reserved (sessions_in table))) table ⊳
    AtOptional SessionsPerAddress as_integer (Outside SessionsPerAddress 1 17) table ⊳
    AtOptional TakeoverMs as_integer (Outside TakeoverMs 100 5000) table ⊳
    AtOptional ResendPercent as_integer (Outside ResendPercent 5 1000) table

-- the same keys by themselves
abbrev pub InLimits : Members → Faulty
InLimits table =
    AtOptional Reserved as_integer (Outside Reserved 0 2) table ⊳
    AtOptional SessionsPerAddress as_integer (Outside SessionsPerAddress 1 17) table ⊳
    AtOptional TakeoverMs as_integer (Outside TakeoverMs 100 5000) table ⊳
    AtOptional ResendPercent as_integer (Outside ResendPercent 5 1000) table

-- a text that isn't a passphrase, whatever its characters are
abbrev pub NoPassphrase : Key → List ℕ → Faulty
NoPassphrase key text fault = (fault ≡ OutOfRange key) × (is_between 10 79 (length text) ≡ false)

-- a number that isn't the length of keys of a cipher, or any number where there may be none
abbrev pub NoKeyLength : (allowed : Bool) → ℤ → Faulty
NoKeyLength allowed n fault = (fault ≡ OutOfRange Pbkeylen) × ((size : KeyLength) → n ≡ pos (bytes_in size) → allowed ≡ true → ⊥)

-- the keys with the encryption of a route, whose length of keys is allowed or isn't
abbrev pub InEncryption : (allowed : Bool) → Members → Faulty
InEncryption allowed table =
    AtOptional PublishPassphrase as_str (NoPassphrase PublishPassphrase) table ⊳
    AtOptional RequestPassphrase as_str (NoPassphrase RequestPassphrase) table ⊳
    AtOptional Pbkeylen as_integer (NoKeyLength allowed) table

-- no truth value has a fault
abbrev pub AnyTruth : Bool → Faulty
AnyTruth given fault = ⊥

-- the keys of one route, in their order, after these routes
abbrev pub InRoute : (before : List Terms) → Members → Faulty
InRoute before table =
    Unknown route_keys table ⊳
    AtKey Name as_str (NoName before) table ⊳
    AtKey Mode as_str NoMode table ⊳
    InNumbers table ⊳
    InSchedule table ⊳
    AtOptional Callers as_str NoCallers table ⊳
    InAccess table ⊳
    InRules table ⊳
    InEncryption (has_passphrase table) table ⊳
    AtOptional Expect as_bool AnyTruth table

-- the routes one after the other: the first table has this fault, or it is a route and the others have the fault
abbrev pub InRoutes : (before : List Terms) → Items → Faulty
InRoutes before no_items fault = ⊥
InRoutes before (item value rest) fault =
    (table : Members) × (as_table value ≡ Some table) ×
    (InRoute before table fault ⊎ ((route : Planned) × (route_at before table ≡ Ok route) × InRoutes (before ++ route.terms ∷ []) rest fault))

-- items that aren't tables, or too few or too many
abbrev pub NoRoutes : Items → Faulty
NoRoutes items fault =
    ((fault ≡ WrongKind Route) × (are_tables items ≡ false)) ⊎
    ((fault ≡ OutOfRange Route) × (are_tables items ≡ true) × (is_between 1 511 (count items) ≡ false))

abbrev pub NoRoutesOrIn : Items → Faulty
NoRoutesOrIn items = NoRoutes items ⊳ InRoutes [] items

-- the keys of the table of defaults, in the order of a route's, each by itself
abbrev pub InDefaults : Members → Faulty
InDefaults table =
    Unknown default_keys table ⊳
    AtOptional Mode as_str NoMode table ⊳
    InOptionalNumbers table ⊳
    AtOptional Callers as_str NoCallers table ⊳
    InAccess table ⊳
    InLimits table ⊳
    InEncryption true table ⊳
    AtOptional Expect as_bool AnyTruth table

-- the keys of the whole table, in their order
abbrev pub InTable : Members → Faulty
InTable table =
    Unknown top_keys table ⊳
    AtKey Secret as_str NoSecret table ⊳
    AtKey Bind as_str (NoAddress Bind) table ⊳
    AtKey Workers as_integer (Outside Workers 1 16) table ⊳
    AtOptional Status as_str (NoAddress Status) table ⊳
    AtOptional Defaults as_table InDefaults table ⊳
    AtKey Route as_array NoRoutesOrIn table

-- the fault that is returned is that of the first key that has one
abbrev pub IsFirstFault : Type 0
IsFirstFault = (table : Members) (fault : Fault) → (settings_at table ≡ Err fault) ↔ InTable table fault
