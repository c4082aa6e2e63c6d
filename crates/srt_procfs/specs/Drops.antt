-- Dropped datagrams in the text of /proc/net/udp or /proc/net/udp6.
use Rattle.std.specs.Prelude.{◌≡◌, ◌⊎◌, ℕ, ◌+◌, ◌-◌, ◌/◌, ◌%◌, Bool, false, nat_lt, List, [], ◌∷◌, ◌++◌, Option, None, Some, codes, slice_index, if◌then◌else◌}
use Rattle.std.specs.Str.{bytes_eq}
use Rattle.srt_types.specs.Access.{is_mapped}
use Rattle.srt_procfs.specs.Parts.{parts_of, word_at}
use Rattle.srt_procfs.specs.Numbers.{number_of}
use Rattle.srt_procfs.specs.Readings.{FileReading, IsTable, IsUnread}

-- the upper-case digit of a number below 16
abbrev pub hex_digit : ℕ → ℕ
hex_digit n = if nat_lt n 10 then 48 + n else 65 + (n - 10)

-- a byte as two digits
abbrev pub hex_of_byte : ℕ → List ℕ
hex_of_byte b = hex_digit (b / 16 % 16) ∷ hex_digit (b % 16) ∷ []

-- four bytes from the last to the first
abbrev pub word_text : (a b c d : ℕ) → List ℕ
word_text a b c d = hex_of_byte d ++ hex_of_byte c ++ hex_of_byte b ++ hex_of_byte a

-- the four bytes of an address from an index on, from the last to the first
abbrev pub word_from : (ip : List ℕ) → (at : ℕ) → List ℕ
word_from ip at = word_text (slice_index ip at) (slice_index ip (at + 1)) (slice_index ip (at + 2)) (slice_index ip (at + 3))

-- a colon and the port's two bytes
abbrev pub port_text : (port : ℕ) → List ℕ
port_text port = 58 ∷ [] ++ hex_of_byte (port / 256) ++ hex_of_byte (port % 256)

-- an IPv4 address and the port, as /proc/net/udp has them; the address is the last word of ::ffff:a.b.c.d
unfoldable pub ipv4_local : (ip : List ℕ) → (port : ℕ) → List ℕ
ipv4_local ip port = word_from ip 12 ++ port_text port

-- an IPv6 address by words of four bytes and the port, as /proc/net/udp6 has them
unfoldable pub ipv6_local : (ip : List ℕ) → (port : ℕ) → List ℕ
ipv6_local ip port = word_from ip 0 ++ word_from ip 4 ++ word_from ip 8 ++ word_from ip 12 ++ port_text port

-- a word is this one
abbrev pub is_word : (word : List ℕ) → Option (List ℕ) → Bool
is_word word None = false
is_word word (Some other) = bytes_eq other word

-- a line whose second word is the local address
unfoldable pub is_at : (local line : List ℕ) → Bool
is_at local line = is_word local (word_at 1 (parts_of 32 line))

-- a line's thirteenth word, the last one
unfoldable pub drops_of : (line : List ℕ) → Option ℕ
drops_of line = number_of (word_at 12 (parts_of 32 line))

-- the number of the first line at the local address
abbrev pub first_drops : (local : List ℕ) → (lines : List (List ℕ)) → Option ℕ
first_drops local [] = None
first_drops local (line ∷ lines) = if is_at local line then drops_of line else first_drops local lines

-- that of the local address of these 16 bytes, in the table of its family
abbrev pub drops_in : (text ip : List ℕ) → (port : ℕ) → Option ℕ
drops_in text ip port =
    if is_mapped ip then first_drops (ipv4_local ip port) (parts_of 10 text) else first_drops (ipv6_local ip port) (parts_of 10 text)

-- the path of the table that has an address
abbrev pub table_of : (ip : List ℕ) → List ℕ
table_of ip = if is_mapped ip then codes "/proc/net/udp" else codes "/proc/net/udp6"

-- the drops at an address and port in the table that has the address, as it was read; none if it couldn't be read
abbrev pub AreDrops : {File : Type 0} → (reading : File → FileReading) → (was_refused : List ℕ → Type 0) → (was_full : Type 0)
    → (ip : List ℕ) → (port : ℕ) → Option ℕ → Type 0
AreDrops reading was_refused was_full ip port drops =
    (IsUnread reading was_refused was_full (table_of ip) × (drops ≡ None))
    ⊎ ((text : List ℕ) × IsTable reading (table_of ip) 4_194_304 text × (drops ≡ drops_in text ip port))
