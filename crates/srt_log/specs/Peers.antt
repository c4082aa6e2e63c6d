-- A caller's address and port in a line.
use Rattle.std.specs.Prelude.{ℕ, ◌+◌, List, [], ◌∷◌, ◌++◌, slice_index, codes, decimal, if◌then◌else◌}
use Rattle.std.specs.List.{flat_map}
use Rattle.std.specs.Net.Addr.{segments_of}
use Rattle.std.specs.Net.Text.{hex, hex_groups_text}
use Rattle.srt_types.specs.declared.shared.Peer.{Peer}
use Rattle.srt_types.specs.Access.{is_mapped}

-- the bytes from an index on
abbrev pub four_from : (at : ℕ) → (ip : List ℕ) → List ℕ
four_from at ip = slice_index ip at ∷ slice_index ip (at + 1) ∷ slice_index ip (at + 2) ∷ slice_index ip (at + 3) ∷ []

-- four numbers with dots between them
abbrev pub ipv4_text : (ip : List ℕ) → List ℕ
ipv4_text ip =
    decimal (slice_index ip 0) ++ codes "." ++ decimal (slice_index ip 1) ++ codes "." ++ decimal (slice_index ip 2) ++ codes "." ++ decimal (slice_index ip 3)

-- a group behind a colon
abbrev pub next_group : (group : ℕ) → List ℕ
next_group group = codes ":" ++ hex group

abbrev pub next_groups : (groups : List ℕ) → List ℕ
next_groups groups = flat_map next_group groups

-- hexadecimal groups in brackets, with `::` in place of the longest run of zeros (RFC 5952, section 4)
abbrev pub ipv6_text : (ip : List ℕ) → List ℕ
ipv6_text ip = codes "[" ++ hex_groups_text (segments_of ip) ++ codes "]"

-- an address: IPv4 in its own form
abbrev pub ip_text : (ip : List ℕ) → List ℕ
ip_text ip = if is_mapped ip then ipv4_text (four_from 12 ip) else ipv6_text ip

abbrev pub socket_text : (ip : List ℕ) → (port : ℕ) → List ℕ
socket_text ip port = ip_text ip ++ codes ":" ++ decimal port

abbrev pub peer_text : Peer → List ℕ
peer_text peer = socket_text peer.ip peer.port
