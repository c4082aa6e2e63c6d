-- Addresses of a socket, and those of peers.
use Rattle.std.specs.Prelude.{◌≡◌, ℕ, List, [], ◌∷◌, ◌++◌, replicate}
use Rattle.std.specs.Int.{w16, to_be_bytes}
use Rattle.std.specs.Net.Addr.{ipv4_octets, ipv6_octets, ipv6_segments, segments_of}
use Rattle.std.specs.Net.Socket.{socket_ip, socket_port, socket_flowinfo, socket_scope_id}
use Rattle.std.specs.declared.net.ipv4_addr.Ipv4Addr.{Ipv4Addr}
use Rattle.std.specs.declared.net.ipv6_addr.Ipv6Addr.{Ipv6Addr}
use Rattle.std.specs.declared.net.ip_addr.IpAddr.{IpAddr}
use Rattle.std.specs.declared.net.ip_addr.IpAddr.TheVariants.{V4, V6}
use Rattle.std.specs.declared.net.socket_addr.SocketAddr.{SocketAddr}
use Rattle.std.specs.declared.net.socket_addr.SocketAddr.TheVariants as own
use Rattle.srt_types.specs.declared.shared.Peer.{Peer}
use Rattle.srt_poller.specs.declared.sockets.Family.{Family}
use Rattle.srt_poller.specs.declared.sockets.Family.TheVariants as families

-- an IPv4 address as the last four bytes of an IPv6 address
abbrev pub mapped : (octets : List ℕ) → List ℕ
mapped octets = 0 ∷ 0 ∷ 0 ∷ 0 ∷ 0 ∷ 0 ∷ 0 ∷ 0 ∷ 0 ∷ 0 ∷ 255 ∷ 255 ∷ octets

-- the bytes of an address, as those of an IPv6 address
abbrev pub ip_of : IpAddr → List ℕ
ip_of (V4 ip) = mapped (ipv4_octets ip)
ip_of (V6 ip) = ipv6_octets ip

-- the peer has this socket address
pub record HasAddress (peer : Peer) (address : SocketAddr) : Type 0 where
  pub ip : peer.ip ≡ ip_of (socket_ip address)
  pub port : peer.port ≡ socket_port address

-- it is one of IPv6, without a flow label or a zone, and its eight groups are the peer's 16 bytes
pub record HasIpv6 (peer : Peer) (address : SocketAddr) : Type 0 where
  pub ip : Ipv6Addr
  pub is_ipv6 : socket_ip address ≡ V6 ip
  pub groups : ipv6_segments ip ≡ segments_of peer.ip
  pub port : socket_port address ≡ peer.port
  pub label : socket_flowinfo address ≡ 0
  pub zone : socket_scope_id address ≡ 0

-- the peer has this socket address, and it is one of IPv4
pub record HasIpv4 (peer : Peer) (address : SocketAddr) : Type 0 where
  pub ip : Ipv4Addr
  pub is_ipv4 : socket_ip address ≡ V4 ip
  pub has : HasAddress peer address

-- the family of a socket's own address
abbrev pub family_of : SocketAddr → Family
family_of (own.V4 address) = families.V4
family_of (own.V6 address) = families.V6

-- the address that a socket of this family sends to, for this peer
abbrev pub IsTarget : Family → Peer → SocketAddr → Type 0
IsTarget families.V4 peer address = HasIpv4 peer address
IsTarget families.V6 peer address = HasIpv6 peer address

-- C's sockaddr_in6 in 128 bytes: its family, the port, no flow label, the address, no zone
abbrev pub ipv6_name : (port : ℕ) → (ip : List ℕ) → List ℕ
ipv6_name port ip = (10 ∷ 0 ∷ []) ++ to_be_bytes w16 port ++ replicate 4 0 ++ ip ++ replicate 104 0
