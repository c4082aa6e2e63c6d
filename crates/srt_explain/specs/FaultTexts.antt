-- The texts of faults.
use Rattle.std.specs.Prelude.{ℕ, ◌+◌, ◌-◌, ◌^◌, ◌==◌, Bool, not, ◌&&◌, ◌||◌, min, List, [], ◌∷◌, ◌++◌, length, codes, decimal}
use Rattle.std.specs.Prelude.{Option, None, Some, nat_eq, nat_le, string_bytes, if◌then◌else◌}
use Rattle.std.specs.Fmt.{debug_char, debug_str, ◌++?◌}
use Rattle.std.specs.Fmt.InlineText.{inline_text}
use Rattle.std.specs.List.{list_all, ends_with}
use Rattle.srt_types.specs.Entries.{is_between}
use Rattle.srt_config.specs.declared.config.faults.ConfigFault.{ConfigFault}
use Rattle.srt_config.specs.declared.config.faults.ConfigFault.TheVariants as faults
use Rattle.srt_config.specs.declared.config.keys.Key.{Key}
use Rattle.srt_config.specs.declared.config.keys.Key.TheVariants as keys
use Rattle.srt_config.specs.declared.config.keys.Limits.{Limits}
use Rattle.srt_config.specs.declared.config.keys.ValueKind.{ValueKind}
use Rattle.srt_config.specs.declared.config.keys.ValueKind.TheVariants as kinds
use Rattle.srt_config.specs.KeyTable.{key_name, kind_of, limits_of, choices_of}
use Rattle.srt_explain.specs.declared.explanation.Explanation.{Explanation}
use Rattle.srt_explain.specs.declared.explanation.Faults.{Faults}
use Rattle.srt_explain.specs.declared.explanation.RouteAt.{RouteAt}
use Rattle.srt_explain.specs.declared.explanation.Part.{Part}
use Rattle.srt_explain.specs.declared.explanation.Part.TheVariants as parts
use Rattle.srt_explain.specs.declared.explanation.Hint.{Hint}
use Rattle.srt_explain.specs.declared.explanation.Hint.TheVariants as hints
use Rattle.srt_explain.specs.declared.places.TextPlace.{TextPlace}
use Rattle.srt_explain.specs.Texts.{address_text}

-- a key as it is written: in quotes if it isn't one of letters, digits, `-` and `_` alone
abbrev pub is_plain_byte : ℕ → Bool
is_plain_byte b = is_between 97 122 b || is_between 65 90 b || is_between 48 57 b || b == 45 || b == 95

abbrev pub is_plain : List ℕ → Bool
is_plain key = not (length key == 0) && list_all is_plain_byte key

abbrev pub written_key : List ℕ → Option (List ℕ)
written_key key = if is_plain key then Some key else debug_str key

-- the two texts that a key allows
unfoldable pub choices_text : Option (List ℕ × List ℕ) → List ℕ
choices_text None = []
choices_text (Some (first, second)) = codes "\"" ++ first ++ codes "\" and \"" ++ second ++ codes "\""

unfoldable pub range_text : Limits → List ℕ
range_text limits = decimal limits.least ++ codes " to " ++ decimal limits.most

-- what a list of networks allows
unfoldable pub networks_text : Limits → List ℕ
networks_text limits =
    range_text limits ++ codes " addresses or networks in quotes, as [\"192.0.2.7\", \"198.51.100.0/24\", \"2001:db8::/32\"]"

-- what a key with these limits allows
abbrev pub allowed_with : Key → Limits → List ℕ
allowed_with keys.Secret limits = decimal limits.most ++ codes " hexadecimal digits in quotes"
allowed_with keys.Bind limits = codes "an address and a UDP port in quotes, as \"0.0.0.0:9000\" or \"[::]:9000\""
allowed_with keys.Status limits = codes "an address and a TCP port in quotes, as \"127.0.0.1:9001\" or \"[::1]:9001\""
allowed_with keys.Name limits = range_text limits ++ codes " letters, digits, -, _, . and / in quotes"
allowed_with keys.Mode limits = choices_text (choices_of keys.Mode)
allowed_with keys.Callers limits = choices_text (choices_of keys.Callers)
allowed_with keys.Route limits = range_text limits ++ codes " routes, each begun by a line [[route]]"
allowed_with keys.Defaults limits = codes "keys of a route, below a line [defaults]"
allowed_with keys.Expect limits = codes "true and false"
allowed_with keys.PublishFrom limits = networks_text limits
allowed_with keys.RequestFrom limits = networks_text limits
allowed_with keys.PublishKey limits = range_text limits ++ codes " letters, digits, -, _, . and ~ in quotes"
allowed_with keys.RequestKey limits = range_text limits ++ codes " letters, digits, -, _, . and ~ in quotes"
allowed_with keys.PublishPassphrase limits = range_text limits ++ codes " bytes in quotes"
allowed_with keys.RequestPassphrase limits = range_text limits ++ codes " bytes in quotes"
allowed_with keys.Pbkeylen limits = codes "16, 24 and 32"
allowed_with key limits = range_text limits

unfoldable pub allowed_text : Key → List ℕ
allowed_text key = allowed_with key (limits_of key)

-- the part that has a fault, and the line of its key
unfoldable pub route_text : RouteAt → List ℕ
route_text route =
    if length (inline_text route.name) == 0 then codes "route " ++ decimal route.number
    else codes "route " ++ decimal route.number ++ codes " (" ++ inline_text route.name ++ codes ")"

abbrev pub part_text : Part → List ℕ
part_text parts.Above = []
part_text parts.Defaults = codes "[defaults]: "
part_text (parts.Route route) = route_text route ++ codes ": "

abbrev pub line_text : Option ℕ → List ℕ
line_text None = []
line_text (Some line) = codes "line " ++ decimal line ++ codes ": "

-- a text that isn't TOML: the message of its reader, and the place
unfoldable pub placed_text : TextPlace → (message more : List ℕ) → List ℕ
placed_text place message more = codes "line " ++ decimal place.line ++ codes ", column " ++ decimal place.column ++ codes ": " ++ message ++ more

abbrev pub unread_text : (message : List ℕ) → Hint → List ℕ
unread_text message (hints.Place place) = placed_text place message []
unread_text message (hints.Unquoted place) = placed_text place message (codes "; a text stands in quotes")
unread_text message (hints.OneBracket place) = placed_text place message (codes "; each route begins with a line [[route]]")
unread_text message hint = message

-- an unknown key that is one of another part
abbrev pub displaced_text : (key : List ℕ) → Part → Option (List ℕ)
displaced_text key parts.Above = written_key key ++? Some (codes ": unknown key above the routes; it stands below a line [[route]]")
displaced_text key parts.Defaults = written_key key ++? Some (codes ": each route has its own; it stands below a line [[route]]")
displaced_text key (parts.Route route) = written_key key ++? Some (codes ": unknown key of a route; it stands above the first line [[route]]")

-- the same of a key that stands above the table of defaults
abbrev pub of_table_text : (key : List ℕ) → Part → Option (List ℕ)
of_table_text key parts.Above = displaced_text key parts.Above
of_table_text key parts.Defaults = written_key key ++? Some (codes ": unknown key of a route; it stands above the line [defaults]")
of_table_text key (parts.Route route) = displaced_text key (parts.Route route)

-- a key that isn't known in its table
abbrev pub is_passphrase : List ℕ → Bool
is_passphrase key = ends_with nat_eq key (codes "passphrase")

abbrev pub passphrase_text : List ℕ → Option (List ℕ)
passphrase_text key =
    written_key key ++? Some (codes ": unknown key; a route has publish_passphrase for encoders and request_passphrase for players")

abbrev pub unlike_text : (key : List ℕ) → Option (List ℕ)
unlike_text key = if is_passphrase key then passphrase_text key else None

abbrev pub unknown_text : (key : List ℕ) → Part → Hint → Option (List ℕ)
unknown_text key part (hints.Resembles meant) =
    written_key key ++? Some (codes ": unknown key; did you mean ") ++? Some (key_name meant) ++? Some (codes "?")
unknown_text key part (hints.OfTable meant) = of_table_text key part
unknown_text key part (hints.OfRoute meant) = displaced_text key part
unknown_text key part hint = unlike_text key

abbrev pub missing_text : Key → List ℕ
missing_text key = key_name key ++ (codes " is missing; allowed are " ++ allowed_text key)

-- a value of the wrong kind
abbrev pub other_routes_text : (value : List ℕ) → Hint → List ℕ
other_routes_text value hints.OneTable = codes "route: each route begins with a line [[route]], in two brackets"
other_routes_text value (hints.NoTable number) =
    codes "route: value " ++ decimal number ++ codes " of the list isn't a table; each route begins with a line [[route]]"
other_routes_text value hint = codes "route = " ++ value ++ codes ": each route begins with a line [[route]]"

abbrev pub no_list_text : Key → (value : List ℕ) → Hint → List ℕ
no_list_text key value (hints.NoText number) =
    key_name key ++ (codes " = " ++ (value ++ (codes ": value " ++ (decimal number ++ (codes " of the list isn't a text; allowed are " ++ allowed_text key)))))
no_list_text key value hint = key_name key ++ (codes " = " ++ (value ++ (codes ": not a list; allowed are " ++ allowed_text key)))

abbrev pub no_text_text : Key → (value : List ℕ) → List ℕ
no_text_text key value =
    if length value == 0 then key_name key ++ (codes ": not a text; allowed are " ++ allowed_text key)
    else key_name key ++ (codes " = " ++ (value ++ (codes ": not a text; allowed are " ++ allowed_text key)))

abbrev pub quotes_text : Hint → List ℕ
quotes_text hints.Quoted = codes "; take the quotes away"
quotes_text hint = []

abbrev pub wrong_kind_of : ValueKind → Key → (value : List ℕ) → Hint → List ℕ
wrong_kind_of kinds.Table key value hint = key_name key ++ (codes ": they begin with a line [" ++ (key_name key ++ codes "], in one bracket"))
wrong_kind_of kinds.Tables key value hint = other_routes_text value hint
wrong_kind_of kinds.Networks key value hint = no_list_text key value hint
wrong_kind_of kinds.Text key value hint = no_text_text key value
wrong_kind_of kinds.Boolean key value hint =
    key_name key ++ (codes " = " ++ (value ++ (codes ": allowed are " ++ (allowed_text key ++ quotes_text hint))))
wrong_kind_of kinds.Number key value hint =
    key_name key ++ (codes " = " ++ (value ++ (codes ": not a whole number; allowed are " ++ (allowed_text key ++ quotes_text hint))))

abbrev pub wrong_kind_text : Key → (value : List ℕ) → Hint → List ℕ
wrong_kind_text key value hint = wrong_kind_of (kind_of key) key value hint

-- a value outside its limits
unfoldable pub few_slots_text : (sessions : ℕ) → List ℕ
few_slots_text sessions = if nat_le sessions 1 then codes "allowed is 0" else codes "allowed are 0 to " ++ decimal (sessions - 1)

unfoldable pub reserved_text : (value : List ℕ) → (sessions : ℕ) → List ℕ
reserved_text value sessions =
    codes "reserved = " ++ (value ++ (codes ": " ++ (few_slots_text sessions ++ (codes ", fewer than sessions = " ++ decimal sessions))))

abbrev pub limited_text : Key → (value : List ℕ) → List ℕ
limited_text key value =
    if length value == 0 then key_name key ++ (codes ": allowed are " ++ allowed_text key)
    else key_name key ++ (codes " = " ++ (value ++ (codes ": allowed are " ++ allowed_text key)))

abbrev pub meant_text : Key → (value meant : List ℕ) → List ℕ
meant_text key value meant =
    key_name key ++ (codes " = " ++ (value ++ (codes ": allowed are " ++ (allowed_text key ++ (codes "; did you mean \"" ++ (meant ++ codes "\"?"))))))

abbrev pub long_text : Key → (count : ℕ) → List ℕ
long_text key count = key_name key ++ (codes ": allowed are " ++ (allowed_text key ++ (codes "; it has " ++ decimal count)))

abbrev pub no_passphrase_text : Key → (value : List ℕ) → List ℕ
no_passphrase_text key value =
    key_name key ++ (codes " = " ++ (value ++ codes ": it is of a route with a passphrase; write publish_passphrase or request_passphrase, or leave it out"))

abbrev pub out_of_range_text : Key → (value : List ℕ) → Hint → Option (List ℕ)
out_of_range_text key value (hints.Routes count) = Some (codes "route: there are " ++ (decimal count ++ (codes "; allowed are " ++ allowed_text key)))
out_of_range_text key value (hints.Opens opens) = None
out_of_range_text key value (hints.Sessions sessions) = Some (reserved_text value sessions)
out_of_range_text key value (hints.Choice meant) = Some (meant_text key value meant.now)
out_of_range_text key value (hints.Members count) =
    Some (key_name key ++ (codes ": it has " ++ (decimal count ++ (codes " values; allowed are " ++ allowed_text key))))
out_of_range_text key value (hints.Bytes count) = Some (long_text key count)
out_of_range_text key value hints.NoPassphrase = Some (no_passphrase_text key value)
out_of_range_text key value hint = Some (limited_text key value)

-- a name of the wrong form
abbrev pub name_hint_text : Hint → Option (List ℕ)
name_hint_text hints.EmptyName = Some (codes "; it is empty")
name_hint_text (hints.LongName count) = Some (codes "; it has " ++ decimal count ++ codes " bytes")
name_hint_text (hints.Character it) = Some (codes "; ") ++? debug_char it ++? Some (codes " is none of these")
name_hint_text hint = Some []

abbrev pub bad_name_text : (value : List ℕ) → Hint → Option (List ℕ)
bad_name_text value hint =
    Some (codes "name = ") ++? Some value ++? Some (codes ": allowed are ") ++? Some (allowed_text keys.Name) ++? name_hint_text hint

-- a name that another route has
abbrev pub repeated_name_text : (value : List ℕ) → Hint → List ℕ
repeated_name_text value (hints.SameName number) = codes "name = " ++ value ++ codes ": route " ++ decimal number ++ codes " has this name"
repeated_name_text value hint = codes "name = " ++ value ++ codes ": another route has this name"

-- a wrong secret
abbrev pub secret_hint_text : Hint → List ℕ
secret_hint_text (hints.Characters count) = codes "; it has " ++ decimal count
secret_hint_text (hints.NoDigit number) = codes "; its character " ++ decimal number ++ codes " is none"
secret_hint_text hint = []

abbrev pub bad_secret_text : Hint → List ℕ
bad_secret_text hint =
    codes "secret: allowed are " ++ allowed_text keys.Secret ++ secret_hint_text hint ++ codes "; openssl rand -hex 32 makes one"

-- an address or a network of the wrong form
abbrev pub in_network_text : Key → (value : List ℕ) → (number : ℕ) → List ℕ
in_network_text key value number =
    key_name key ++ (codes " = " ++ (value ++ (codes ": value " ++ (decimal number ++ codes " of the list is an address with a network's length; "))))

unfoldable pub network_text : (first : List ℕ) → (prefix : ℕ) → (address : List ℕ) → List ℕ
network_text first prefix address =
    codes "the network is \"" ++ address_text first ++ codes "/" ++ decimal prefix ++ codes "\", the address alone \"" ++ address_text address
    ++ codes "\""

abbrev pub bad_network_text : Key → (value : List ℕ) → Hint → List ℕ
bad_network_text key value (hints.AddressInNetwork number address first prefix) = in_network_text key value number ++ network_text first prefix address
bad_network_text key value (hints.NoNetwork number) =
    key_name key ++ (codes " = " ++ (value ++ (codes ": value " ++ (decimal number
    ++ (codes " of the list isn't a network; allowed are " ++ allowed_text key)))))
bad_network_text key value hint = key_name key ++ (codes " = " ++ (value ++ (codes ": allowed are " ++ allowed_text key)))

-- an address to put before a port without one
abbrev pub address_before_port : Key → List ℕ
address_before_port keys.Status = codes "127.0.0.1 for this machine alone"
address_before_port key = codes "0.0.0.0 for all of this machine"

unfoldable pub address_hint_text : Key → Hint → List ℕ
address_hint_text key hints.NoPort = codes "; the port is missing"
address_hint_text key hints.PortAlone = codes "; the address is missing, " ++ address_before_port key
address_hint_text key hints.Ipv6 = codes "; an IPv6 address stands in brackets, without a zone"
address_hint_text key hint = []

unfoldable pub allowed_address_text : Key → (value : List ℕ) → List ℕ
allowed_address_text key value = key_name key ++ (codes " = " ++ (value ++ (codes ": allowed is " ++ allowed_text key)))

abbrev pub socket_address_text : Key → (value : List ℕ) → Hint → List ℕ
socket_address_text key value hint = allowed_address_text key value ++ address_hint_text key hint

abbrev pub bad_address_of : ValueKind → Key → (value : List ℕ) → Hint → List ℕ
bad_address_of kinds.Networks key value hint = bad_network_text key value hint
bad_address_of kind key value hint = socket_address_text key value hint

abbrev pub bad_address_text : Key → (value : List ℕ) → Hint → List ℕ
bad_address_text key value hint = bad_address_of (kind_of key) key value hint

-- a fault with its value and its hint
abbrev pub fault_text : ConfigFault → Part → (value : List ℕ) → Hint → Option (List ℕ)
fault_text faults.Toml part value hint = Some (unread_text value hint)
fault_text (faults.UnknownKey key) part value hint = unknown_text (string_bytes key) part hint
fault_text (faults.Missing key) part value hint = Some (missing_text key)
fault_text (faults.WrongKind key) part value hint = Some (wrong_kind_text key value hint)
fault_text (faults.OutOfRange key) part value hint = out_of_range_text key value hint
fault_text faults.BadName part value hint = bad_name_text value hint
fault_text faults.RepeatedName part value hint = Some (repeated_name_text value hint)
fault_text faults.BadSecret part value hint = Some (bad_secret_text hint)
fault_text (faults.BadAddress key) part value hint = Some (bad_address_text key value hint)
fault_text faults.OutOfMemory part value hint = Some (codes "out of memory")

abbrev pub explained_text : Explanation → Option (List ℕ)
explained_text explanation = fault_text explanation.fault explanation.part (inline_text explanation.value) explanation.hint

-- an explanation: the line of the fault, its part and itself. It says nothing where the text of the fault says nothing
abbrev pub explanation_text : Explanation → Option (List ℕ)
explanation_text explanation = Some (line_text explanation.line) ++? Some (part_text explanation.part) ++? explained_text explanation

-- the first of several faults, and how many others there are
abbrev pub others_text : (count : ℕ) → List ℕ
others_text count =
    if count == 0 then [] else if count == 1 then codes "; 1 more fault" else codes "; " ++ decimal count ++ codes " more faults"

abbrev pub faults_text : Faults → Option (List ℕ)
faults_text faults = explanation_text faults.first ++? Some (others_text (min (length faults.others.items + faults.more) (2 ^ 64 - 1)))
