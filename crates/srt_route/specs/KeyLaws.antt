-- What a KMREQ during a session leaves as it is (section 3.2.2; our choice).
use Rattle.std.specs.Prelude.{◌≡◌, ℕ, false, Option, None, Some, List, Result, Ok, Err, find, ◌==◌}
use Rattle.srt_types.specs.declared.shared.Peer.{Peer}
use Rattle.srt_types.specs.Terms.{Terms}
use Rattle.srt_types.specs.Items.{Item, Received, Tick, Close}
use Rattle.srt_packet.specs.declared.reading.PacketFault.{PacketFault}
use Rattle.srt_packet.specs.Grammar.{Packet}
use Rattle.srt_packet.specs.Reading.{packet_in}
use Rattle.srt_route.specs.Sessions.{Session, advanced}
use Rattle.srt_route.specs.RouteKeys.{RouteKeys, SlotKeys, Clear, OfPublisher, OfSubscriber}
use Rattle.srt_route.specs.Route.{Answered, Judged, Reply, Route, clock_after, heard_by, is_for, judgement, keys_kept}

-- if a judged item is answered, no key is derived for it, and no own key is made
abbrev pub DerivesNothing : RouteKeys → Judged → Type 0
DerivesNothing keys j = (answer : Reply) → j.verdict ≡ Answered answer → (j.keys.moments ≡ keys.moments) × (j.keys.pool ≡ keys.pool)

-- the open session that an item is for, if it is a packet with the ID of a session of its sender
abbrev pub receiver_of : (index : ℕ) → Peer → List Session → Result Packet PacketFault → Option Session
receiver_of index peer sessions (Ok packet) = find (is_for index peer packet.dest) sessions
receiver_of index peer sessions (Err fault) = None

abbrev pub receiver : (index : ℕ) → Item → List Session → Option Session
receiver index (Received datagram moment) sessions = receiver_of index datagram.peer sessions (packet_in datagram.bytes)
receiver index (Tick moment) sessions = None
receiver index (Close moment) sessions = None

-- what a publisher's session keeps: the contents of its conclusion's KMREQ block, the key that wraps its keys, and the salt
pub record Lasting : Type 0 where
  pub request : List ℕ
  pub kek : List ℕ
  pub salt : List ℕ

abbrev pub lasting_of : SlotKeys → Option Lasting
lasting_of Clear = None
lasting_of (OfPublisher request keys) = Some (record { request = request; kek = keys.kek; salt = keys.salt })
lasting_of (OfSubscriber request keys) = None

-- a publisher's session in this slot keeps this, and no other slot's keys change
pub record RenewsSlot (slot : ℕ) (before after : RouteKeys) : Type 0 where
  pub lasting : Lasting
  pub had : lasting_of (before.held slot) ≡ Some lasting
  pub has : lasting_of (after.held slot) ≡ Some lasting
  pub others : (other : ℕ) → (other == slot) ≡ false → after.held other ≡ before.held other
  pub moments : after.moments ≡ before.moments
  pub pool : after.pool ≡ before.pool

-- the keys of a session are renewed by an item with this answer
pub record Renews (receiver : Option Session) (before after : RouteKeys) (answer : Reply) : Type 0 where
  pub session : Session
  pub receives : receiver ≡ Some session
  pub slot : RenewsSlot session.slot before after
  pub to_its_peer : answer.peer ≡ session.peer

-- if a judged item is answered, it is for an open session, to whose peer the answer goes, and at most that session's even
-- and odd key change
abbrev pub RenewsItsSession : (receiver : Option Session) → RouteKeys → Judged → Type 0
RenewsItsSession receiver keys j = (answer : Reply) → j.verdict ≡ Answered answer → Renews receiver keys j.keys answer

-- a KMREQ that is answered derives no key and makes none, changes the even and the odd key of its own session alone, and the
-- sessions process it as it came
pub record RenewalsAreFree : Type 0 where
  pub free : (e : Terms) (index : ℕ) (item : Item) (m : Route) → DerivesNothing m.keys (judgement e index item m)
  pub own : (e : Terms) (index : ℕ) (item : Item) (m : Route)
      → RenewsItsSession (receiver index item (advanced e (clock_after item m) m.sessions))
      (keys_kept (advanced e (clock_after item m) m.sessions) m.keys) (judgement e index item m)
  pub heard : (e : Terms) (index : ℕ) (item : Item) (m : Route) (answer : Reply)
      → (judgement e index item m).verdict ≡ Answered answer → heard_by e index item m ≡ item
