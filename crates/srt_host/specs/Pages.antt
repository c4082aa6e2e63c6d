-- The address of the status page.
use Rattle.std.specs.Prelude.{◌≡◌, ℕ, Bool, true, false, is_some, List, [], ◌∷◌, Option, None, Some}
use Rattle.std.specs.Net.Addr.{ipv4_octets, ipv6_octets}
use Rattle.std.specs.Net.Socket.{socket_ip, socket_port}
use Rattle.std.specs.declared.net.ip_addr.IpAddr.{IpAddr}
use Rattle.std.specs.declared.net.ip_addr.IpAddr.TheVariants.{V4, V6}
use Rattle.std.specs.declared.net.socket_addr.SocketAddr.{SocketAddr}
use Rattle.srt_config.specs.declared.config.address.BindAddress.{BindAddress}
use Rattle.srt_procfs.specs.Notes.{Note}
use Rattle.srt_host.specs.Addresses.{IsAddressOf}
use Rattle.srt_host.specs.declared.status_page.StatusPage.{StatusPage}

-- the bytes of an IP address, four or sixteen
abbrev pub octets_of : IpAddr → List ℕ
octets_of (V4 a) = ipv4_octets a
octets_of (V6 a) = ipv6_octets a

-- a socket was bound at this address, and listens
abbrev pub listen_note : SocketAddr → Note
listen_note a = (socket_port a ∷ [], octets_of (socket_ip a), [])

-- the sockets that the page bound, the newest first
abbrev pub bound_by : StatusPage → List Note
bound_by page = page.journal.notes

-- the page has a socket
abbrev pub listens : StatusPage → Bool
listens page = is_some page.listener

-- The page bound one socket, at this address of the configuration, and has it; or none, without an address
abbrev pub IsPageAt : Option BindAddress → StatusPage → Type 0
IsPageAt None page = (bound_by page ≡ []) × (listens page ≡ false)
IsPageAt (Some address) page =
    (a : SocketAddr) × IsAddressOf address a × (bound_by page ≡ listen_note a ∷ []) × (listens page ≡ true)
