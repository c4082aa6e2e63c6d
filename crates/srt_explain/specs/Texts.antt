-- The texts of warnings.
use Rattle.std.specs.Prelude.{◌≡◌, ℕ, List, [], ◌∷◌, ◌++◌, map, codes, decimal, slice_index, Option, None, Some, if◌then◌else◌}
use Rattle.std.specs.Net.Addr.{segments_of}
use Rattle.std.specs.Net.Text.{hex_groups_text}
use Rattle.toml.specs.Data.{Members}
use Rattle.srt_types.specs.declared.shared.Role.{Role}
use Rattle.srt_types.specs.declared.shared.Role.TheVariants.{Publish, Request}
use Rattle.srt_types.specs.Access.{is_mapped}
use Rattle.srt_types.specs.Terms.{Terms}
use Rattle.srt_config.specs.declared.config.address.BindAddress.{BindAddress}
use Rattle.srt_config.specs.declared.config.keys.Key.{Key}
use Rattle.srt_config.specs.declared.config.keys.Key.TheVariants.{PublishFrom, RequestFrom, PublishKey, RequestKey, PublishPassphrase, RequestPassphrase}
use Rattle.srt_config.specs.KeyTable.{key_name}
use Rattle.srt_explain.specs.declared.warnings.Warning.{Warning}
use Rattle.srt_explain.specs.declared.warnings.Warning.TheVariants as warnings
use Rattle.srt_explain.specs.declared.grouping.RouteRisk.{RouteRisk}
use Rattle.srt_explain.specs.Grouping.{risk_key, grouped}
use Rattle.srt_explain.specs.Warnings.{route_of, name_for, warnings_of, has_example_secret, lacks, route_table, with_keys}

-- four numbers with dots between them
unfoldable pub octets_text : (ip : List ℕ) → List ℕ
octets_text ip =
    decimal (slice_index ip 0) ++ codes "." ++ decimal (slice_index ip 1) ++ codes "." ++ decimal (slice_index ip 2) ++ codes "."
    ++ decimal (slice_index ip 3)

-- the 16 bytes of an address: those of an IPv4 address as four numbers, others as groups (RFC 5952, section 4)
unfoldable pub address_text : (ip : List ℕ) → List ℕ
address_text ip =
    if is_mapped ip
    then octets_text (slice_index ip 12 ∷ slice_index ip 13 ∷ slice_index ip 14 ∷ slice_index ip 15 ∷ [])
    else hex_groups_text (segments_of ip)

-- the same before a port: groups in brackets
unfoldable pub host_text : (ip : List ℕ) → List ℕ
host_text ip = if is_mapped ip then address_text ip else codes "[" ++ address_text ip ++ codes "]"

unfoldable pub example_secret_text : List ℕ
example_secret_text =
    codes "secret: it is that of examples/gateway.toml, which everybody can " ++ codes "read; put the output of openssl rand -hex 32 in its place"

unfoldable pub exposed_text : BindAddress → List ℕ
exposed_text address =
    codes "status = \"" ++ (host_text address.ip ++ (codes ":" ++ (decimal address.port
    ++ codes "\": others can reach the status page, which tells who is connected and can't ask for a password; ")))

unfoldable pub loopback_text : (port : ℕ) → List ℕ
loopback_text port = codes "write \"127.0.0.1:" ++ decimal port ++ codes "\", with a proxy before it if others are to see it"

abbrev pub exposed_status_text : BindAddress → List ℕ
exposed_status_text address = exposed_text address ++ loopback_text address.port

-- the key and the list of a role
abbrev pub key_of : Role → Key
key_of Publish = PublishKey
key_of Request = RequestKey

abbrev pub list_of : Role → Key
list_of Publish = PublishFrom
list_of Request = RequestFrom

unfoldable pub open_key_text : Role → List ℕ
open_key_text role =
    (key_name (key_of role) ++ codes ": a Stream ID isn't encrypted, so who reads it on its way can use it from anywhere; ")
    ++ (codes "write " ++ key_name (list_of role) ++ codes " too, if the callers' addresses are known")

-- the passphrase of a role
abbrev pub passphrase_of : Role → Key
passphrase_of Publish = PublishPassphrase
passphrase_of Request = RequestPassphrase

unfoldable pub short_passphrase_text : Role → List ℕ
short_passphrase_text role =
    key_name (passphrase_of role) ++ codes ": it has fewer than 16 bytes, so who records the opening of a session can find it by trial; write 16 or more"

unfoldable pub shared_passphrase_text : List ℕ
shared_passphrase_text = codes "request_passphrase: it is publish_passphrase too, so who may receive may also publish; write another one"

unfoldable pub clear_players_text : List ℕ
clear_players_text =
    codes "publish_passphrase: publishers encrypt, and players get the stream in clear; " ++ codes "write request_passphrase too, if it is to stay encrypted"

unfoldable pub small_outbox_text : (outbox replies : ℕ) → List ℕ
small_outbox_text outbox replies =
    (codes "outbox = " ++ decimal outbox ++ codes ": one event can give " ++ decimal replies ++ codes " replies (4 + 66 x sessions), ")
    ++ (codes "and a full outbox holds the route up; write " ++ decimal replies ++ codes " or more")

unfoldable pub brought_text : (buffer packets millis : ℕ) → List ℕ
brought_text buffer packets millis =
    codes "buffer = " ++ decimal buffer ++ codes ": a stream of 1 Mbit/s brings " ++ decimal packets ++ codes " packets in " ++ decimal millis
    ++ codes " ms, "

unfoldable pub enough_text : (packets : ℕ) → List ℕ
enough_text packets =
    codes "and what has no place is lost; write " ++ decimal packets ++ codes " or more, and as many times more as the stream has Mbit/s"

abbrev pub small_window_text : (buffer packets millis : ℕ) → List ℕ
small_window_text buffer packets millis = brought_text buffer packets millis ++ enough_text packets

unfoldable pub one_session_text : List ℕ
one_session_text = codes "sessions = 1: an encoder takes it, and nobody can receive; " ++ codes "write 2 or more, 3 with a backup encoder"

unfoldable pub unused_takeover_text : List ℕ
unused_takeover_text =
    codes "takeover_ms: it has no effect in buffer mode, where the publisher that stands by " ++ codes "waits for the end of the active one; leave it out"

unfoldable pub unused_limit_text : (limit sessions : ℕ) → List ℕ
unused_limit_text limit sessions =
    (codes "sessions_per_address = " ++ decimal limit ++ codes ": it has no effect with sessions = " ++ decimal sessions ++ codes ", ")
    ++ codes "since one address may take all of them; write less, or leave it out"

unfoldable pub one_unreserved_text : (reserved sessions : ℕ) → List ℕ
one_unreserved_text reserved sessions =
    (codes "reserved = " ++ decimal reserved ++ codes ": of sessions = " ++ decimal sessions ++ codes " one alone is left for subscribers; ")
    ++ codes "raise sessions, if more than one is to receive"

unfoldable pub no_callers_text : List ℕ
no_callers_text =
    codes "callers is missing, so the route follows the draft to the byte, and nearly all "
    ++ codes "encoders and players use libsrt; write callers = \"libsrt\""

unfoldable pub no_reserved_text : (slots : ℕ) → List ℕ
no_reserved_text slots =
    codes "reserved is missing, so players can take all sessions, and the encoder gets none; " ++ (codes "write reserved = " ++ decimal slots)

unfoldable pub no_takeover_text : List ℕ
no_takeover_text =
    codes "takeover_ms is missing, so a backup encoder waits for the end of the other " ++ codes "session, five silent seconds; write takeover_ms = 500"

unfoldable pub no_resend_limit_text : List ℕ
no_resend_limit_text =
    codes "resend_percent is missing, so one player that requests packets again and again " ++ codes "can fill the line; write resend_percent = 50"

unfoldable pub public_file_text : List ℕ
public_file_text =
    codes "the configuration's file has keys or passphrases, and others than its owner and " ++ codes "its group may use it; chmod 640 keeps them out"

-- how many more routes have a risk
unfoldable pub more_routes_text : RouteRisk → (count : ℕ) → List ℕ
more_routes_text risk count = risk_key risk ++ codes ": more routes have this warning: " ++ decimal count

-- a warning without its route
abbrev pub warning_text : Warning → List ℕ
warning_text warnings.ExampleSecret = example_secret_text
warning_text (warnings.ExposedStatus address) = exposed_status_text address
warning_text (warnings.SmallOutbox route outbox replies) = small_outbox_text outbox replies
warning_text (warnings.SmallWindow route buffer packets millis) = small_window_text buffer packets millis
warning_text (warnings.OneSession route) = one_session_text
warning_text (warnings.OpenKey route role) = open_key_text role
warning_text (warnings.ShortPassphrase route role) = short_passphrase_text role
warning_text (warnings.SharedPassphrase route) = shared_passphrase_text
warning_text (warnings.ClearPlayers route) = clear_players_text
warning_text (warnings.UnusedTakeover route) = unused_takeover_text
warning_text (warnings.UnusedAddressLimit route limit sessions) = unused_limit_text limit sessions
warning_text (warnings.OneUnreserved route reserved sessions) = one_unreserved_text reserved sessions
warning_text (warnings.NoCallers route) = no_callers_text
warning_text (warnings.NoReserved route slots) = no_reserved_text slots
warning_text (warnings.NoTakeover route) = no_takeover_text
warning_text (warnings.NoResendLimit route) = no_resend_limit_text
warning_text warnings.PublicFile = public_file_text
warning_text (warnings.MoreRoutes risk count) = more_routes_text risk count

-- the route that a warning is about, with its name
unfoldable pub route_text : (route : Option ℕ) → (name : List ℕ) → List ℕ
route_text None name = codes "warning: "
route_text (Some route) name = codes "warning: route " ++ decimal route ++ codes " (" ++ name ++ codes "): "

-- the text of a warning about a route of this name
abbrev pub warning_line : Warning → (name : List ℕ) → List ℕ
warning_line warning name = route_text (route_of warning) name ++ warning_text warning

-- the texts of all warnings about a configuration that was read from this table, in order
abbrev pub line_for : List Terms → Warning → List ℕ
line_for routes warning = warning_line warning (name_for (route_of warning) routes)

abbrev pub warning_lines : Members → (status : Option BindAddress) → List Terms → List (List ℕ)
warning_lines table status routes = map (line_for routes) (grouped (warnings_of table status routes))

-- two tables whose routes have the same keys, whatever the values, and whose secrets are both that of the example or neither is
pub record AreAlike (table other : Members) : Type 0 where
  pub example : has_example_secret table ≡ has_example_secret other
  pub keys : (route : ℕ) (key : Key) → lacks key (route_table table route) ≡ lacks key (route_table other route)

-- the texts of the warnings are the same whatever the secret and the keys of the routes' roles are, but for the secret of the example
abbrev pub TellsNoSecret : Type 0
TellsNoSecret =
    (table other : Members) (status : Option BindAddress) (routes : List Terms) (publish request : List ℕ) → AreAlike table other →
    warning_lines table status routes ≡ warning_lines other status (map (with_keys publish request) routes)
