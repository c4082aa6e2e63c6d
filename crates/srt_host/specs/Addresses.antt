-- The IP address of a socket that a configuration names.
use Rattle.std.specs.Prelude.{◌≡◌, ℕ, true, false, List, [], ◌∷◌, slice_index, Option, None, Some}
use Rattle.std.specs.Net.Addr.{ipv4_octets, ipv6_segments, segments_of}
use Rattle.std.specs.Net.Socket.{socket_ip, socket_port, socket_flowinfo, socket_scope_id}
use Rattle.std.specs.declared.net.socket_addr.SocketAddr.{SocketAddr}
use Rattle.std.specs.declared.net.ip_addr.IpAddr.{IpAddr}
use Rattle.std.specs.declared.net.ip_addr.IpAddr.TheVariants.{V4, V6}
use Rattle.srt_types.specs.Access.{is_mapped}
use Rattle.srt_config.specs.declared.config.address.BindAddress.{BindAddress}

-- these 16 bytes are ::ffff:a.b.c.d, and it is that IPv4 address; or they aren't, and its eight groups are they
abbrev pub IsSocketIp : (ip : List ℕ) → IpAddr → Type 0
IsSocketIp ip (V4 a) = (is_mapped ip ≡ true) × (ipv4_octets a ≡ slice_index ip 12 ∷ slice_index ip 13 ∷ slice_index ip 14 ∷ slice_index ip 15 ∷ [])
IsSocketIp ip (V6 a) = (is_mapped ip ≡ false) × (ipv6_segments a ≡ segments_of ip)

-- the socket address that the configuration names, without a flow label or a zone
abbrev pub IsAddressOf : BindAddress → SocketAddr → Type 0
IsAddressOf address a =
    IsSocketIp address.ip (socket_ip a) × (socket_port a ≡ address.port) × (socket_flowinfo a ≡ 0) × (socket_scope_id a ≡ 0)

-- the port of a socket: the one that the system chose, if that is known, or else the one that was written
abbrev pub served_port : (written : ℕ) → Option SocketAddr → ℕ
served_port written (Some address) = socket_port address
served_port written None = written
