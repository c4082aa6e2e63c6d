-- The clients allowed on a route: the lists and keys in its table (our choice).
use Rattle.std.specs.Prelude.{ℕ, suc, ◌==◌, Bool, true, not, ◌&&◌, ◌||◌, List, [], ◌∷◌, ◌++◌, length, Option, None, Some, is_some, option_and_then, Result}
use Rattle.std.specs.Prelude.{Ok, Err, if◌then◌else◌}
use Rattle.std.specs.Int.{w32, from_be_bytes}
use Rattle.std.specs.List.{list_all}
use Rattle.toml.specs.Data.{Data, Items, no_items, item, Members, get_member, as_str, as_array}
use Rattle.srt_types.specs.declared.shared.Network.{Network}
use Rattle.srt_types.specs.Access.{AccessTerms, ip_number, network_of, ipv6_network_of}
use Rattle.srt_types.specs.Entries.{is_between}
use Rattle.srt_config.specs.declared.config.keys.Key.{Key}
use Rattle.srt_config.specs.declared.config.keys.Key.TheVariants.{PublishFrom, RequestFrom, PublishKey, RequestKey}
use Rattle.srt_config.specs.Address.{parted, octet_to, has_byte, ipv6_in}
use Rattle.srt_config.specs.KeyTable.{key_name, limits_of}
use Rattle.srt_config.specs.FirstFault.{Fault, WrongKind, OutOfRange, BadAddress, ◌>>=◌}
use Rattle.srt_config.specs.Keys.{of_kind, optional, text_value}
use Rattle.srt_config.specs.Numbers.{number_in}

-- the fourth octet, and the number of first bits after a slash: 32 without one
abbrev pub ending_of : List ℕ → Option (List ℕ × List ℕ) → Option (ℕ × ℕ)
ending_of text (Some parts) = option_and_then (λ octet. option_and_then (λ prefix. Some (octet, prefix)) (number_in 33 parts.1)) (number_in 256 parts.0)
ending_of text None = option_and_then (λ octet. Some (octet, 32)) (number_in 256 text)

unfoldable pub ending_in : List ℕ → Option (ℕ × ℕ)
ending_in text = ending_of text (parted 47 text)

-- `a.b.c.d` or `a.b.c.d/n`, with no bit set after the first n
unfoldable pub ipv4_network_in : List ℕ → Option Network
ipv4_network_in text =
    option_and_then (λ a. option_and_then (λ b. option_and_then (λ c. option_and_then
    (λ d. network_of (from_be_bytes w32 (a.0 ∷ b.0 ∷ c.0 ∷ d.0 ∷ [])) d.1)
    (ending_in c.1)) (octet_to 46 b.1)) (octet_to 46 a.1)) (octet_to 46 text)

-- the IPv6 address, and the number of first bits after a slash: 128 without one
abbrev pub ipv6_network_of_parts : List ℕ → Option (List ℕ × List ℕ) → Option Network
ipv6_network_of_parts text (Some parts) =
    option_and_then (λ ip. option_and_then (λ prefix. ipv6_network_of (ip_number ip) prefix) (number_in 129 parts.1)) (ipv6_in parts.0)
ipv6_network_of_parts text None = option_and_then (λ ip. ipv6_network_of (ip_number ip) 128) (ipv6_in text)

-- `X` or `X/n` with an IPv6 address X, with no bit set after the first n
unfoldable pub ipv6_network_in : List ℕ → Option Network
ipv6_network_in text = ipv6_network_of_parts text (parted 47 text)

-- a network of either family: a colon is in every text of IPv6, and in none of IPv4
unfoldable pub network_in : List ℕ → Option Network
network_in text = if has_byte 58 text then ipv6_network_in text else ipv4_network_in text

-- every item is a text
abbrev pub are_texts : Items → Bool
are_texts no_items = true
are_texts (item value rest) = is_some (as_str value) && are_texts rest

abbrev pub member_count : Items → ℕ
member_count no_items = 0
member_count (item value rest) = suc (member_count rest)

abbrev pub networked : Key → Option Network → Result Network Fault
networked key (Some network) = Ok network
networked key None = Err (BadAddress key)

-- the networks in these texts, after those before
abbrev pub networks_from : Key → (before : List Network) → Items → Result (List Network) Fault
networks_from key before no_items = Ok before
networks_from key before (item value rest) =
    text_value key value >>= λ text. networked key (network_in text) >>= λ network. networks_from key (before ++ network ∷ []) rest

-- 1 to 16 texts, each of them a network; the limits of both roles are the same
unfoldable pub list_in : Key → Items → Result (List Network) Fault
list_in key items =
    if not (is_between (limits_of PublishFrom).least (limits_of PublishFrom).most (member_count items)) then Err (OutOfRange key)
    else if not (are_texts items) then Err (WrongKind key)
    else networks_from key [] items

-- the list that the value of a key is
unfoldable pub list_value : Key → Data → Result (List Network) Fault
list_value key value = of_kind key (as_array value) >>= λ items. list_in key items

-- the list at a key that may be missing
unfoldable pub list_at : Key → Members → Result (Option (List Network)) Fault
list_at key table = optional (list_value key) (get_member (key_name key) table)

-- a lowercase letter, an uppercase letter, a digit, `-` or `.`, `_`, or `~`
abbrev pub is_key_byte : ℕ → Bool
is_key_byte b = is_between 97 122 b || is_between 65 90 b || is_between 48 57 b || is_between 45 46 b || b == 95 || b == 126

-- 1 to 64 such bytes
abbrev pub is_key_text : List ℕ → Bool
is_key_text text = is_between (limits_of PublishKey).least (limits_of PublishKey).most (length text) && list_all is_key_byte text

unfoldable pub key_in : Key → List ℕ → Result (List ℕ) Fault
key_in key text = if is_key_text text then Ok text else Err (OutOfRange key)

-- the key of a role that the value of a key is
unfoldable pub key_value : Key → Data → Result (List ℕ) Fault
key_value key value = text_value key value >>= λ text. key_in key text

-- the key of a role at a key that may be missing
unfoldable pub key_at : Key → Members → Result (Option (List ℕ)) Fault
key_at key table = optional (key_value key) (get_member (key_name key) table)

abbrev pub callers_of : (publish_from request_from : Option (List Network)) → (publish_key request_key : Option (List ℕ)) → AccessTerms
callers_of publish_from request_from publish_key request_key =
    record {
      publish = record { from = publish_from; key = publish_key; passphrase = None };
      request = record { from = request_from; key = request_key; passphrase = None };
      key_length = None;
    }

-- the clients allowed on the route of a table
unfoldable pub access_at : Members → Result AccessTerms Fault
access_at table =
    list_at PublishFrom table >>= λ publish_from.
    list_at RequestFrom table >>= λ request_from.
    key_at PublishKey table >>= λ publish_key.
    key_at RequestKey table >>= λ request_key.
    Ok (callers_of publish_from request_from publish_key request_key)
