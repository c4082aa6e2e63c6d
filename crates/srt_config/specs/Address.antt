-- An address and a port: of IPv4, four octets in decimal digits, without leading zeros; of IPv6, in brackets (our choice).
use Rattle.std.specs.Prelude.{ℕ, ◌^◌, ◌==◌, Bool, List, [], ◌∷◌, ◌++◌, Option, None, Some, option_and_then, option_map, if◌then◌else◌}
use Rattle.std.specs.List.{list_any}
use Rattle.std.specs.Net.Addr.{octets_of}
use Rattle.std.specs.Net.Reader.{whole_value, read_ipv6}
use Rattle.srt_types.specs.Access.{ipv4_front, is_mapped}
use Rattle.srt_config.specs.Numbers.{number_in}

-- a text split at the first byte of this value
abbrev pub with_front : ℕ → List ℕ × List ℕ → List ℕ × List ℕ
with_front b parts = (b ∷ parts.0, parts.1)

abbrev pub parted : (at : ℕ) → List ℕ → Option (List ℕ × List ℕ)
parted at [] = None
parted at (b ∷ text) = if b == at then Some ([], text) else option_map (with_front b) (parted at text)

infixl 10 ◌>>=◌
abbrev ◌>>=◌ : {A B : Type 0} → Option A → (A → Option B) → Option B
o >>= f = option_and_then f o

-- an octet, and the text after the byte that ends it
unfoldable pub octet_to : (end : ℕ) → List ℕ → Option (ℕ × List ℕ)
octet_to end text = parted end text >>= λ parts. number_in 256 parts.0 >>= λ octet. Some (octet, parts.1)

-- the text after this byte, if the text begins with it
abbrev pub behind : (first : ℕ) → List ℕ → Option (List ℕ)
behind first [] = None
behind first (b ∷ text) = if b == first then Some text else None

-- whether the text has this byte
abbrev pub has_byte : (byte : ℕ) → List ℕ → Bool
has_byte byte text = list_any (λ b. b == byte) text

-- the 16 bytes of an address, unless it is of ::ffff:0:0/96, since an IPv4 address has one spelling
abbrev pub unless_mapped : List ℕ → Option (List ℕ)
unless_mapped ip = if is_mapped ip then None else Some ip

-- the 16 bytes of an IPv6 address (RFC 4291, section 2.2, forms 1 and 2): groups of 1 to 4 hexadecimal digits of either
-- case with colons between them; eight of them, or at most seven and one `::`, which stands for the zeros that are
-- missing. No zone, and no dotted end.
unfoldable pub ipv6_in : List ℕ → Option (List ℕ)
ipv6_in text = if has_byte 46 text then None else (whole_value (read_ipv6 text) >>= λ groups. unless_mapped (octets_of groups))

-- an address, 16 bytes of which an IPv4 address is ::ffff:a.b.c.d, and a port
pub record Address : Type 0 where
  pub ip : List ℕ
  pub port : ℕ

-- `a.b.c.d:port`
unfoldable pub ipv4_address_in : List ℕ → Option Address
ipv4_address_in text =
    octet_to 46 text >>= λ a. octet_to 46 a.1 >>= λ b. octet_to 46 b.1 >>= λ c. octet_to 58 c.1 >>= λ d.
    number_in (2 ^ 16) d.1 >>= λ port. Some (record { ip = ipv4_front ++ a.0 ∷ b.0 ∷ c.0 ∷ d.0 ∷ []; port = port })

-- `X]:port`, with an IPv6 address X
unfoldable pub ipv6_address_in : List ℕ → Option Address
ipv6_address_in text =
    parted 93 text >>= λ parts. ipv6_in parts.0 >>= λ ip. behind 58 parts.1 >>= λ digits.
    number_in (2 ^ 16) digits >>= λ port. Some (record { ip = ip; port = port })

-- the text after a bracket is of IPv6, another one of IPv4
abbrev pub address_by : (bracketed : Option (List ℕ)) → List ℕ → Option Address
address_by None text = ipv4_address_in text
address_by (Some rest) text = ipv6_address_in rest

-- `a.b.c.d:port` or `[X]:port`
unfoldable pub address_in : List ℕ → Option Address
address_in text = address_by (behind 91 text) text
