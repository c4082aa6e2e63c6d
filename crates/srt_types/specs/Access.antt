-- Access control of a route: for each role a list of networks and a key (our choice).
use Rattle.std.specs.Prelude.{ℕ, ◌-◌, ◌/◌, ◌%◌, ◌^◌, ◌==◌, nat_lt, Bool, true, false, not, List, [], ◌∷◌, take, Option, None, Some, string_bytes}
use Rattle.std.specs.Prelude.{is_some, nat_eq, nat_le, ◌&&◌, ◌||◌, if◌then◌else◌}
use Rattle.std.specs.Int.{w128, from_be_bytes}
use Rattle.std.specs.List.{list_any, starts_with}
use Rattle.std.specs.Option.{option_map}
use Rattle.std.specs.Str.{bytes_eq}
use Rattle.srt_types.specs.declared.shared.Access.{Access}
use Rattle.srt_types.specs.declared.shared.KeyLength.{KeyLength}
use Rattle.srt_types.specs.declared.shared.KeyLength.TheVariants.{Aes128, Aes192, Aes256}
use Rattle.srt_types.specs.declared.shared.Network.{Network}
use Rattle.srt_types.specs.declared.shared.Network.TheVariants.{V4, V6}
use Rattle.srt_types.specs.declared.shared.Peer.{Peer}
use Rattle.srt_types.specs.declared.shared.Role.{Role}
use Rattle.srt_types.specs.declared.shared.Role.TheVariants.{Publish, Request}
use Rattle.srt_types.specs.declared.shared.RoleAccess.{RoleAccess}
use Rattle.srt_types.specs.Words.{word_at}

-- the access rules for one role: the allowed networks, or any address if none are given; the required key, or no key;
-- the passphrase of encrypted sessions, or none if they aren't encrypted
pub record RoleTerms : Type 0 where
  pub from : Option (List Network)
  pub key : Option (List ℕ)
  pub passphrase : Option (List ℕ)

-- the access rules of a route, with the length of the keys that callers of secured roles must bring, or any length
pub record AccessTerms : Type 0 where
  pub publish : RoleTerms
  pub request : RoleTerms
  pub key_length : Option KeyLength

-- rules that admit every caller in one role, without encryption
abbrev pub every_caller : RoleTerms
every_caller = record { from = None; key = None; passphrase = None }

-- rules that admit every caller in both roles, without encryption
abbrev pub anyone : AccessTerms
anyone = record { publish = every_caller; request = every_caller; key_length = None }

-- the rules that a value of the code represents, for one role
abbrev pub role_access_of : RoleAccess → RoleTerms
role_access_of access =
    record {
      from = option_map (λ networks. networks.items) access.from;
      key = option_map string_bytes access.key;
      passphrase = option_map string_bytes access.passphrase;
    }

-- the rules that a value of the code represents, for both roles
abbrev pub access_of : Access → AccessTerms
access_of access =
    record { publish = role_access_of access.publish; request = role_access_of access.request; key_length = access.key_length }

-- whether sessions of a role are encrypted: it has a passphrase
abbrev pub is_secured : RoleTerms → Bool
is_secured role = is_some role.passphrase

-- the number of bytes of a key of this length (section 3.2.2, KLen)
abbrev pub bytes_in : KeyLength → ℕ
bytes_in Aes128 = 16
bytes_in Aes192 = 24
bytes_in Aes256 = 32

-- whether keys of this many bytes have the required length; if none is required, true
abbrev pub is_right_length : (required : Option KeyLength) → (bytes : ℕ) → Bool
is_right_length None bytes = true
is_right_length (Some length) bytes = bytes == bytes_in length

-- the rules for this role
abbrev pub in_role : AccessTerms → Role → RoleTerms
in_role access Publish = access.publish
in_role access Request = access.request

-- the first 12 bytes of an IPv4 address in the form ::ffff:a.b.c.d
abbrev pub ipv4_front : List ℕ
ipv4_front = 0 ∷ 0 ∷ 0 ∷ 0 ∷ 0 ∷ 0 ∷ 0 ∷ 0 ∷ 0 ∷ 0 ∷ 255 ∷ 255 ∷ []

-- whether the 16 bytes of an address are those of an IPv4 address: ::ffff:0:0/96
abbrev pub is_mapped : List ℕ → Bool
is_mapped ip = starts_with nat_eq ip ipv4_front

-- the IPv4 address in the 16 bytes of an address; none if they have another form
abbrev pub ipv4_in : List ℕ → Option ℕ
ipv4_in ip = if is_mapped ip then Some (word_at ip 12) else None

-- the 16 bytes of an address as a number, the most significant byte first
abbrev pub ip_number : List ℕ → ℕ
ip_number ip = from_be_bytes w128 ip

-- the IPv4 network of all addresses whose first prefix bits, of 32, are those of this address; none if the address has a
-- bit set after the prefix
abbrev pub network_of : (address : ℕ) → (prefix : ℕ) → Option Network
network_of address prefix =
    let size = 2 ^ (32 - prefix) in
    if address % size == 0 then Some (V4 address size) else None

-- the same for IPv6, of 128 bits
abbrev pub ipv6_network_of : (address : ℕ) → (prefix : ℕ) → Option Network
ipv6_network_of address prefix = if address % 2 ^ (128 - prefix) == 0 then Some (V6 address prefix) else None

-- whether these addresses, from the first on, contain the address; false if there is none
abbrev pub is_within : (first size : ℕ) → (address : Option ℕ) → Bool
is_within first size None = false
is_within first size (Some address) = nat_le first address && nat_lt (address - first) size

-- the first bits of the number of an address, as many as the prefix has
abbrev pub front_bits : (prefix address : ℕ) → ℕ
front_bits prefix address = address / 2 ^ (128 - prefix)

-- whether the network contains the address of these 16 bytes: an IPv4 address is in no IPv6 network, and no other
-- address is in an IPv4 network
abbrev pub contains : (ip : List ℕ) → Network → Bool
contains ip (V4 first size) = is_within first size (ipv4_in ip)
contains ip (V6 first prefix) = not (is_mapped ip) && (front_bits prefix (ip_number ip) == front_bits prefix first)

-- what an address is counted by: all of an IPv4 address, else the first 64 bits, since one subscriber's line has at least
-- as many addresses as have these in common (our choice)
abbrev pub site : (ip : List ℕ) → List ℕ
site ip = if is_mapped ip then ip else take 8 ip

-- whether two addresses are of the same site
abbrev pub is_same_site : (a b : List ℕ) → Bool
is_same_site a b = bytes_eq (site a) (site b)

-- whether the list contains the peer's address; without a list, true
abbrev pub lists : Option (List Network) → Peer → Bool
lists None peer = true
lists (Some networks) peer = list_any (contains peer.ip) networks

-- whether the key in a Stream ID is the right one; if no key is required, true
abbrev pub is_right_key : (given brought : Option (List ℕ)) → Bool
is_right_key None brought = true
is_right_key (Some key) None = false
is_right_key (Some key) (Some text) = bytes_eq text key

-- whether a role admits a caller: its list contains the peer's address, and the Stream ID has its key
abbrev pub admits : RoleTerms → Peer → (brought : Option (List ℕ)) → Bool
admits role peer brought = lists role.from peer && is_right_key role.key brought

-- whether one of the two lists contains the peer's address
abbrev pub knows : AccessTerms → Peer → Bool
knows access peer = lists access.publish.from peer || lists access.request.from peer
