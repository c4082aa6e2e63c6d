-- The inputs of routes, and datagrams as bytes (section 3).
use Rattle.std.specs.Prelude.{ℕ, List, ◌++◌}
use Rattle.srt_types.specs.declared.shared.Peer.{Peer}
use Rattle.srt_types.specs.declared.shared.Item.{Item as TheItem}
use Rattle.srt_types.specs.declared.shared.Item.TheVariants.{Datagram as TheDatagram, Tick as TheTick, Close as TheClose}

-- a datagram: its bytes, and the peer that sent it or that it is sent to
pub record Datagram : Type 0 where
  pub peer : Peer
  pub bytes : List ℕ

-- an input of a route, with its time in microseconds; after Close no session is open, and none opens
pub data Item : Type 0 where
  Received : (datagram : Datagram) (moment : ℕ) → Item
  Tick : (moment : ℕ) → Item
  Close : (moment : ℕ) → Item

-- the input that a value of the code represents: head and body are the bytes of one datagram
abbrev pub input_of : TheItem → Item
input_of (TheDatagram peer moment head body) = Received (record { peer = peer; bytes = head ++ body.items }) moment
input_of (TheTick moment) = Tick moment
input_of (TheClose moment) = Close moment

-- the time of an input, in microseconds
abbrev pub moment_of : Item → ℕ
moment_of (Received datagram moment) = moment
moment_of (Tick moment) = moment
moment_of (Close moment) = moment
