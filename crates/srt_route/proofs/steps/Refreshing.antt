-- KMREQs during a session: what the code makes of one is what the definitions state.
use Rattle.std.proofs.Common.{◌≡◌, ◌≢◌, ℕ, ◌-◌, Option, None, Some, List, [], ◌∷◌, Ok, find, refl, sym, ap, subst, ◌∙◌}
use Rattle.srt_types.specs.declared.shared.Peer.{Peer}
use Rattle.srt_types.specs.Terms.{Terms}
use Rattle.srt_types.specs.Items.{Datagram}
use Rattle.srt_packet.specs.Grammar.{Packet}
use Rattle.srt_packet.specs.Reading.{packet_in}
use Rattle.srt_hs.specs.KeyMessage.{message_in}
use Rattle.srt_session_keys.specs.Publisher.{answer_to, response_to}
use Rattle.srt_session_keys.specs.declared.publisher.KeyAnswer.{KeyAnswer}
use Rattle.srt_route.specs.declared.ledger.Ledger.{Ledger}
use Rattle.srt_route.specs.declared.route_keys.RouteKeys.{RouteKeys as TheRouteKeys}
use Rattle.srt_route.specs.declared.seat.Session.{Session as TheSession}
use Rattle.srt_route.specs.declared.table.Table.{Table}
use Rattle.srt_route.specs.KeyRefresh.{answer_by, refreshed}
use Rattle.srt_route.specs.RouteKeys.{RouteKeys, SlotKeys, Clear, OfPublisher, OfSubscriber, held_with, with_slot}
use Rattle.srt_route.specs.StoredKeys.{AreKeys}
use Rattle.srt_route.specs.Sessions.{Session, time_in}
use Rattle.srt_route.specs.Ends.{EndsAre, destined_ending, kept_of}
use Rattle.srt_route.specs.Tallies.{packet_tally, tally_of}
use Rattle.srt_route.specs.Tables.{AreAlone, IsSession, IsTable}
use Rattle.srt_route.specs.Route.{Answered, Judged, Reply, Responds, Verdict, answered_judged, is_for, packet_judged, packet_taken, responded, sent}
use Rattle.srt_route.specs.inside.Secured.{IsAnswered, IsHeard, heard_bytes}
use Rattle.srt_route.proofs.stored.Stored.{IsForNone, none_found_for}
use Rattle.srt_route.proofs.steps.Securing.{for_session, heard_plainly, same_keys, same_slot, secured_by}

-- one for no session, and for a session that answers none
pub asks_no_session : (e : Terms) (index clock : ℕ) (peer : Peer) (contents : List ℕ) (p : Packet) (bytes : List ℕ) (ss : List Session) (keys : RouteKeys)
    (stored : TheRouteKeys) → p.dest ≡ 0 → AreKeys e stored keys
    → IsAnswered e keys (packet_judged e index clock peer (Some contents) p bytes ss keys) (packet_judged e index clock peer None p bytes ss keys) stored
    contents None
asks_no_session e index clock peer contents p bytes ss keys stored zero are = (rw (zero) refl, are)

pub asks_nobody : (e : Terms) (index clock : ℕ) (peer : Peer) (contents : List ℕ) (p : Packet) (bytes : List ℕ) (ss : List Session) (keys : RouteKeys)
    (stored : TheRouteKeys) → p.dest ≢ 0 → AreAlone e.sessions ss → IsForNone index peer p.dest e.sessions ss → AreKeys e stored keys
    → IsAnswered e keys (packet_judged e index clock peer (Some contents) p bytes ss keys) (packet_judged e index clock peer None p bytes ss keys) stored
    contents None
asks_nobody e index clock peer contents p bytes ss keys stored other alone none are =
    let found = none_found_for index peer p.dest e.sessions ss alone none (find (is_for index peer p.dest) ss) refl in (
      for_session e index clock peer (Some contents) p bytes ss keys None other found
          ∙ sym (for_session e index clock peer None p bytes ss keys None other found),
      are,
    )

nothing_refreshed : (contents : List ℕ) (k : SlotKeys) → None ≡ answer_by contents k → refreshed contents k ≡ k
nothing_refreshed contents Clear h = refl
nothing_refreshed contents (OfPublisher request keys) h = absurd (let bad : None ≡ Some (answer_to keys (message_in contents)) = h in cc)
nothing_refreshed contents (OfSubscriber request keys) h = refl

pub asks_in_vain : (e : Terms) (index clock : ℕ) (peer : Peer) (contents : List ℕ) (p : Packet) (bytes : List ℕ) (ss : List Session) (keys : RouteKeys)
    (stored : TheRouteKeys) (s : Session) → p.dest ≢ 0 → find (is_for index peer p.dest) ss ≡ Some s → None ≡ answer_by contents (keys.held s.slot)
    → AreKeys e stored (with_slot s.slot (refreshed contents (keys.held s.slot)) keys)
    → IsAnswered e keys (packet_judged e index clock peer (Some contents) p bytes ss keys) (packet_judged e index clock peer None p bytes ss keys) stored
    contents None
asks_in_vain e index clock peer contents p bytes ss keys stored s other found given are = (
  for_session e index clock peer (Some contents) p bytes ss keys (Some s) other found
      ∙ ap (λ (a : Option KeyAnswer). answered_judged a contents clock p bytes keys s) (sym given)
      ∙ sym (for_session e index clock peer None p bytes ss keys (Some s) other found),
  same_keys e stored (with_slot s.slot (refreshed contents (keys.held s.slot)) keys) keys refl refl
      (λ k below. sym (ap (λ (x : SlotKeys). held_with s.slot x keys.held k) (nothing_refreshed contents (keys.held s.slot) given)
      ∙ same_slot s.slot keys.held k))
      are,
)

-- one for a publisher's session with keys
same_response : (e : Terms) (index clock time : ℕ) (t : TheSession) (s : Session) (contents : List ℕ) → IsSession e index t s → time ≡ clock - t.opened
    → responded clock s contents ≡ record { peer = t.peer; packet = Responds t.caller time contents }
same_response e index clock time t s contents is same =
    ap (λ (q : Peer). record { peer = q; packet = Responds s.conclusion.caller (time_in s clock) contents }) (sym is.peer_is)
    ∙ ap (λ (n : ℕ). record { peer = t.peer; packet = Responds n (time_in s clock) contents }) (sym is.caller_is)
    ∙ ap (λ (n : ℕ). record { peer = t.peer; packet = Responds t.caller (clock - n) contents }) (sym is.opened_is)
    ∙ ap (λ (n : ℕ). record { peer = t.peer; packet = Responds t.caller n contents }) (sym same)

pub asks_publisher : (e : Terms) (index clock : ℕ) (peer : Peer) (contents : List ℕ) (p : Packet) (bytes : List ℕ) (ss : List Session) (keys : RouteKeys)
    (stored : TheRouteKeys) (s : Session) (t : TheSession) (time : ℕ) (a : KeyAnswer) → p.dest ≢ 0 → find (is_for index peer p.dest) ss ≡ Some s
    → Some a ≡ answer_by contents (keys.held s.slot) → IsSession e index t s → time ≡ clock - t.opened
    → AreKeys e stored (with_slot s.slot (refreshed contents (keys.held s.slot)) keys)
    → IsAnswered e keys (packet_judged e index clock peer (Some contents) p bytes ss keys) (packet_judged e index clock peer None p bytes ss keys) stored
    contents (Some (record { peer = t.peer; caller = t.caller; time = time; answer = a }))
asks_publisher e index clock peer contents p bytes ss keys stored s t time a other found given is same are =
    let here : packet_judged e index clock peer (Some contents) p bytes ss keys ≡ answered_judged (Some a) contents clock p bytes keys s =
    for_session e index clock peer (Some contents) p bytes ss keys (Some s) other found
    ∙ ap (λ (x : Option KeyAnswer). answered_judged x contents clock p bytes keys s) (sym given) in (
      ap (λ (j : Judged). j.verdict) here ∙ ap Answered (same_response e index clock time t s (response_to a contents) is same),
      subst (λ (j : Judged). AreKeys e stored j.keys) (sym here) are,
    )

-- one that is answered
pub request_heard : (e : Terms) (index clock : ℕ) (peer : Peer) (contents : List ℕ) (p : Packet) (bytes : List ℕ) (ss : List Session) (keys : RouteKeys)
    (stored : TheRouteKeys) (table : Table) (replies : List Datagram) (old new : Ledger) (a : Reply) → packet_in bytes ≡ Ok p
    → (packet_judged e index clock peer (Some contents) p bytes ss keys).verdict ≡ Answered a
    → AreKeys e stored (packet_judged e index clock peer (Some contents) p bytes ss keys).keys
    → IsTable e index clock table (packet_taken e index clock peer p ss).sessions → replies ≡ sent a ∷ []
    → EndsAre e index (destined_ending e index clock peer p ss) clock ss (kept_of old) (kept_of new)
    → tally_of new ≡ packet_tally e peer p ss (tally_of old)
    → IsHeard e index clock peer bytes ss (packet_judged e index clock peer (Some contents) p bytes ss keys) table stored replies old new
request_heard e index clock peer contents p bytes ss keys stored table replies old new a reads is are table_is replies_are ends tally =
    let j = packet_judged e index clock peer (Some contents) p bytes ss keys in
    heard_plainly e index clock peer p bytes ss j table stored replies old new reads (ap (λ (v : Verdict). heard_bytes v bytes) is)
    (secured_by e index clock ss j (Answered a) (packet_taken e index clock peer p ss) (destined_ending e index clock peer p ss) (packet_tally e peer p ss)
    table stored replies old new is table_is replies_are are ends tally)
