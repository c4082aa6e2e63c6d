-- Where subscribers are encrypted, each payload is sent under the own key of its receiver that is the payload's, and not before the
-- receiver has confirmed that key (sections 3.1 and 3.2.2; our choice).
use Rattle.std.specs.Prelude.{◌≡◌, ℕ, true, Option, Some, List, All, find, ⊤}
use Rattle.srt_types.specs.declared.shared.Peer.{Peer}
use Rattle.srt_types.specs.declared.shared.Role.TheVariants.{Request}
use Rattle.srt_types.specs.Terms.{Terms}
use Rattle.srt_types.specs.Items.{Item}
use Rattle.srt_session_keys.specs.Subscriber.{Subscriber as Keys, may_send}
use Rattle.srt_sub.specs.Subscribing as subscriber
use Rattle.srt_route.specs.Covered.{BringsNone, IsCovered}
use Rattle.srt_route.specs.EncryptedOutput as keyed
use Rattle.srt_route.specs.EncryptedOutput.{KeyedOutput, PacketKey, payload_key}
use Rattle.srt_route.specs.RouteKeys.{secures}
use Rattle.srt_route.specs.Sessions.{Session, is_open_in}
use Rattle.srt_route.specs.Route.{Output, Answers, AnswersWithKeys, Says, Ends, Responds, SaysWithKeys, own_by, passed_by, replies_to, route_before}

-- a packet under a key: a payload under its own key, which is confirmed
abbrev pub IsUnderItsKey : Keys → PacketKey → subscriber.Report → Type 0
IsUnderItsKey keys key (subscriber.Acked mark) = ⊥
IsUnderItsKey keys key (subscriber.Dropped run) = ⊥
IsUnderItsKey keys key (subscriber.Media number again origin payload) = (key ≡ payload_key keys number) × (may_send keys number ≡ true)
IsUnderItsKey keys key subscriber.KeepAlive = ⊥

-- what a session with these keys sends
abbrev pub IsConfirmedOutput : Keys → KeyedOutput → Type 0
IsConfirmedOutput keys (keyed.Says caller initial time report) = BringsNone report
IsConfirmedOutput keys (keyed.SaysUnder key caller initial time report) = IsUnderItsKey keys key report
IsConfirmedOutput keys (keyed.Announces caller time contents) = ⊤

-- it goes to an open session with these keys
pub record IsConfirmedFor (own : (slot : ℕ) → Option Keys) (sessions : List Session) (peer : Peer) (output : KeyedOutput) : Type 0 where
  pub session : Session
  pub keys : Keys
  pub is_open : find (is_open_in session.slot) sessions ≡ Some session
  pub to_its_peer : peer ≡ session.peer
  pub has_them : own session.slot ≡ Some keys
  pub output_is : IsConfirmedOutput keys output

-- a reply, which has no payload in clear either
abbrev pub IsConfirmed : (own : (slot : ℕ) → Option Keys) → List Session → Peer → Output → Type 0
IsConfirmed own sessions peer (Answers caller answer) = ⊤
IsConfirmed own sessions peer (AnswersWithKeys caller request answer) = ⊤
IsConfirmed own sessions peer (Says caller initial time report) = IsCovered (Says caller initial time report)
IsConfirmed own sessions peer (Ends caller time) = ⊤
IsConfirmed own sessions peer (Responds caller time contents) = ⊤
IsConfirmed own sessions peer (SaysWithKeys output) = IsConfirmedFor own sessions peer output

-- the replies to each item, whatever came before it
abbrev pub PayloadsAreConfirmed : Type 0
PayloadsAreConfirmed =
    (e : Terms) (index : ℕ) (items : List Item) (item : Item)
    → secures e Request ≡ true
    → let m = route_before e index item items in
    All (λ reply. IsConfirmed (own_by e index item m) (passed_by e index item m) reply.peer reply.packet) (replies_to e index item m)
