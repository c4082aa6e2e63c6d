-- A KMREQ that is answered derives no key, and changes the keys of its own session alone.
use Rattle.std.proofs.Common.{◌≡◌, ℕ, Bool, true, false, cond, Option, None, Some, List, Result, Ok, Err, find, refl, sym, ap, ◌∙◌}
use Rattle.std.specs.Prelude.{◌==◌}
use Rattle.std.proofs.lemmas.Bool.{eq-eqb}
use Rattle.srt_types.specs.declared.shared.Peer.{Peer}
use Rattle.srt_types.specs.Terms.{Terms}
use Rattle.srt_types.specs.Items.{Item, Received, Tick, Close}
use Rattle.srt_packet.specs.declared.reading.PacketFault.{PacketFault}
use Rattle.srt_packet.specs.Grammar.{Packet}
use Rattle.srt_packet.specs.Reading.{packet_in}
use Rattle.srt_packet.specs.KeyPacket.{KeyPacket, key_packet_in}
use Rattle.srt_packet.specs.declared.key_packet.KeyPacketKind.{KeyPacketKind}
use Rattle.srt_packet.specs.declared.key_packet.KeyPacketKind.TheVariants as messages
use Rattle.srt_session_keys.specs.Publisher.{response_to}
use Rattle.srt_session_keys.specs.declared.publisher.KeyAnswer.{KeyAnswer}
use Rattle.srt_route.specs.declared.conclusion_reading.Conclusion.{Conclusion}
use Rattle.srt_route.specs.declared.refusals.RefusalCause.{RefusalCause}
use Rattle.srt_route.specs.declared.slot_keys.KeyVerdict.{KeyVerdict}
use Rattle.srt_route.specs.declared.slot_keys.KeyVerdict.TheVariants.{TooMany, WrongSecret, Opened}
use Rattle.srt_route.specs.Decryption.{clear_bytes}
use Rattle.srt_route.specs.RouteKeys.{Brought, RouteKeys, SlotKeys, Clear, OfPublisher, OfSubscriber, brought_in, cookie_in, has_secured_role, opening}
use Rattle.srt_route.specs.RouteKeys.{passphrase_of, request_of}
use Rattle.srt_route.specs.KeyLaws.{Lasting, RenewalsAreFree, Renews, RenewsItsSession, lasting_of, receiver, receiver_of}
use Rattle.srt_route.specs.KeyRefresh.{answer_by, confirmation_read, confirmation_with, refreshed, request_read, request_with}
use Rattle.srt_route.specs.Sessions.{Session, advanced, generation_of}
use Rattle.srt_route.specs.Route.{Answered, Decrypted, Ignored, Judged, Passes, Refused, Repeats, Reply, Route, Verdict, answered_judged, as_before, asked}
use Rattle.srt_route.specs.Route.{clock_after, concludes, conclusion_judged, responded}
use Rattle.srt_route.specs.Route.{decision, heard_as, info_judged, info_of, is_for, is_of, item_judged, judged_if, judgement, key_opening, keys_kept}
use Rattle.srt_route.specs.Route.{confirmed_for, keys_confirmed, packet_judged, read_judged, session_judged, verdict_of}

-- what isn't a KMREQ is answered by no KMRSP
abbrev NeverAnswers : Judged → Type 0
NeverAnswers j = (answer : Reply) → j.verdict ≡ Answered answer → ⊥

passes : (keys : RouteKeys) → NeverAnswers (as_before keys)
passes keys a h = let bad : Passes ≡ Answered a = h in cc

repeats : (request : Option (List ℕ)) (a : Reply) → Repeats request ≡ Answered a → ⊥
repeats request a h = cc

ignored : (a : Reply) → Ignored ≡ Answered a → ⊥
ignored a h = cc

decrypted : (bytes : List ℕ) (a : Reply) → Decrypted bytes ≡ Answered a → ⊥
decrypted bytes a h = cc

opening_never : (peer : Peer) (c : Conclusion) (b : Brought) (v : KeyVerdict) (a : Reply) → verdict_of peer c b v ≡ Answered a → ⊥
opening_never peer c b TooMany a h = let bad : Ignored ≡ Answered a = h in cc
opening_never peer c b WrongSecret a h = let bad : Refused peer c ≡ Answered a = h in cc
opening_never peer c b Opened a h = let bad : Repeats (Some b.contents) ≡ Answered a = h in cc

asked_never : (d : Result ℕ RefusalCause) (passphrase : List ℕ) (b : Brought) (index clock : ℕ) (peer : Peer) (cookie : ℕ) (c : Conclusion)
    (ss : List Session) (keys : RouteKeys) → NeverAnswers (asked passphrase b index clock peer cookie c ss keys d)
asked_never (Err cause) passphrase b index clock peer cookie c ss keys = passes keys
asked_never (Ok slot) passphrase b index clock peer cookie c ss keys =
    opening_never peer c b (opening passphrase b (key_opening index clock peer cookie c.role slot (generation_of ss slot)) keys).verdict

conclusion_never : (passphrase : Option (List ℕ)) (b : Option Brought) (o : Option Session) (e : Terms) (index clock : ℕ) (peer : Peer)
    (cookie : ℕ) (c : Conclusion) (ss : List Session) (keys : RouteKeys)
    → NeverAnswers (conclusion_judged passphrase b e index clock peer cookie c ss keys o)
conclusion_never (Some p) None o e index clock peer cookie c ss keys = ignored
conclusion_never (Some p) (Some b) (Some s) e index clock peer cookie c ss keys = repeats (request_of (keys.held s.slot))
conclusion_never (Some p) (Some b) None e index clock peer cookie c ss keys =
    asked_never (decision e peer c ss) p b index clock peer cookie c ss keys
conclusion_never None b (Some s) e index clock peer cookie c ss keys = repeats (request_of (keys.held s.slot))
conclusion_never None b None e index clock peer cookie c ss keys = passes keys

info_never : (o : Option Conclusion) (e : Terms) (index clock : ℕ) (peer : Peer) (info : List ℕ) (ss : List Session) (keys : RouteKeys)
    → NeverAnswers (info_judged e index clock peer info ss keys o)
info_never None e index clock peer info ss keys = passes keys
info_never (Some c) e index clock peer info ss keys =
    conclusion_never (passphrase_of e c.role) (brought_in info) (find (is_of peer c.caller) ss) e index clock peer (cookie_in info) c ss keys

-- a KMREQ that a session answers
renewed_lasts : (contents : List ℕ) (k : SlotKeys) (answer : KeyAnswer) → answer_by contents k ≡ Some answer
    → (lasting : Lasting) × (lasting_of k ≡ Some lasting) × (lasting_of (refreshed contents k) ≡ Some lasting)
renewed_lasts contents Clear answer h = absurd (let bad : None ≡ Some answer = h in cc)
renewed_lasts contents (OfPublisher request keys) answer h = (record { request = request; kek = keys.kek; salt = keys.salt }, refl, refl)
renewed_lasts contents (OfSubscriber request keys) answer h = absurd (let bad : None ≡ Some answer = h in cc)

same_answer : (x y : Reply) → Answered x ≡ Answered y → x ≡ y
same_answer x y h = cc

answered_renews : (answer : Option KeyAnswer) (contents : List ℕ) (clock : ℕ) (p : Packet) (bytes : List ℕ) (keys : RouteKeys) (s : Session)
    → answer_by contents (keys.held s.slot) ≡ answer → RenewsItsSession (Some s) keys (answered_judged answer contents clock p bytes keys s)
answered_renews None contents clock p bytes keys s is a h = absurd (decrypted (clear_bytes (keys.held s.slot) p bytes) a h)
answered_renews (Some answer) contents clock p bytes keys s is a h =
    let new = refreshed contents (keys.held s.slot) in
    let lasts = renewed_lasts contents (keys.held s.slot) answer is in
    record {
      session = s;
      receives = refl;
      slot = record {
        lasting = lasts.0;
        had = lasts.1;
        has = ap (λ (b : Bool). lasting_of (cond b new (keys.held s.slot))) (eq-eqb s.slot s.slot refl) ∙ lasts.2;
        others = λ other apart. ap (λ (b : Bool). cond b new (keys.held other)) apart;
        moments = refl;
        pool = refl;
      };
      to_its_peer = ap (λ (r : Reply). r.peer) (sym (same_answer (responded clock s (response_to answer contents)) a h));
    }

session_renews : (o : Option Session) (request : Option (List ℕ)) (clock : ℕ) (p : Packet) (bytes : List ℕ) (keys : RouteKeys)
    → RenewsItsSession o keys (session_judged request clock p bytes keys o)
session_renews None request clock p bytes keys a h = absurd (passes keys a h)
session_renews (Some s) None clock p bytes keys a h = absurd (decrypted (clear_bytes (keys.held s.slot) p bytes) a h)
session_renews (Some s) (Some contents) clock p bytes keys a h =
    answered_renews (answer_by contents (keys.held s.slot)) contents clock p bytes keys s refl a h

packet_renews : (zero : Bool) (e : Terms) (index clock : ℕ) (peer : Peer) (request : Option (List ℕ)) (p : Packet) (bytes : List ℕ)
    (ss : List Session) (keys : RouteKeys)
    → RenewsItsSession (find (is_for index peer p.dest) ss) keys
    (cond zero (info_judged e index clock peer (info_of p.body) ss keys (concludes p.body))
    (session_judged request clock p bytes keys (find (is_for index peer p.dest) ss)))
packet_renews true e index clock peer request p bytes ss keys a h =
    absurd (info_never (concludes p.body) e index clock peer (info_of p.body) ss keys a h)
packet_renews false e index clock peer request p bytes ss keys a h =
    session_renews (find (is_for index peer p.dest) ss) request clock p bytes keys a h

-- what isn't a KMREQ isn't answered
unasked_never : (o : Option Session) (clock : ℕ) (p : Packet) (bytes : List ℕ) (keys : RouteKeys) → NeverAnswers (session_judged None clock p bytes keys o)
unasked_never None clock p bytes keys = passes keys
unasked_never (Some s) clock p bytes keys = decrypted (clear_bytes (keys.held s.slot) p bytes)

unasked_packet_never : (zero : Bool) (e : Terms) (index clock : ℕ) (peer : Peer) (p : Packet) (bytes : List ℕ) (ss : List Session) (keys : RouteKeys)
    → NeverAnswers
    (cond zero (info_judged e index clock peer (info_of p.body) ss keys (concludes p.body))
    (session_judged None clock p bytes keys (find (is_for index peer p.dest) ss)))
unasked_packet_never true e index clock peer p bytes ss keys = info_never (concludes p.body) e index clock peer (info_of p.body) ss keys
unasked_packet_never false e index clock peer p bytes ss keys = unasked_never (find (is_for index peer p.dest) ss) clock p bytes keys

-- what is answered confirms nothing
kind_renews : (kind : KeyPacketKind) (dest : ℕ) (info : List ℕ) (e : Terms) (index clock : ℕ) (peer : Peer) (p : Packet) (bytes : List ℕ)
    (ss : List Session) (keys : RouteKeys)
    → RenewsItsSession (find (is_for index peer p.dest) ss) keys
    (packet_judged e index clock peer (request_with kind info) p bytes ss (confirmed_for index peer (confirmation_with kind dest info) ss keys))
kind_renews messages.Request dest info e index clock peer p bytes ss keys a h = packet_renews (p.dest == 0) e index clock peer (Some info) p bytes ss keys a h
kind_renews messages.Response dest info e index clock peer p bytes ss keys a h =
    absurd
    (unasked_packet_never (p.dest == 0) e index clock peer p bytes ss (confirmed_for index peer (confirmation_with messages.Response dest info) ss keys) a h)

message_renews : (read : Option KeyPacket) (e : Terms) (index clock : ℕ) (peer : Peer) (p : Packet) (bytes : List ℕ) (ss : List Session) (keys : RouteKeys)
    → RenewsItsSession (find (is_for index peer p.dest) ss) keys
    (packet_judged e index clock peer (request_read read) p bytes ss (confirmed_for index peer (confirmation_read read) ss keys))
message_renews None e index clock peer p bytes ss keys a h = packet_renews (p.dest == 0) e index clock peer None p bytes ss keys a h
message_renews (Some k) e index clock peer p bytes ss keys a h = kind_renews k.kind k.dest k.info e index clock peer p bytes ss keys a h

read_renews : (read : Result Packet PacketFault) (e : Terms) (index clock : ℕ) (peer : Peer) (bytes : List ℕ) (ss : List Session) (keys : RouteKeys)
    → RenewsItsSession (receiver_of index peer ss read) keys
    (read_judged e index clock peer read bytes ss (confirmed_for index peer (confirmation_read (key_packet_in bytes)) ss keys))
read_renews (Ok p) e index clock peer bytes ss keys a h = message_renews (key_packet_in bytes) e index clock peer p bytes ss keys a h
read_renews (Err fault) e index clock peer bytes ss keys a h =
    absurd (passes (confirmed_for index peer (confirmation_read (key_packet_in bytes)) ss keys) a h)

item_renews : (item : Item) (e : Terms) (index clock : ℕ) (ss : List Session) (keys : RouteKeys)
    → RenewsItsSession (receiver index item ss) keys (item_judged e index clock item ss (keys_confirmed index item ss keys))
item_renews (Received d moment) e index clock ss keys a h = read_renews (packet_in d.bytes) e index clock d.peer d.bytes ss keys a h
item_renews (Tick moment) e index clock ss keys a h = absurd (passes keys a h)
item_renews (Close moment) e index clock ss keys a h = absurd (passes keys a h)

judged_renews : (secured : Bool) (e : Terms) (index clock : ℕ) (item : Item) (ss : List Session) (keys : RouteKeys)
    → RenewsItsSession (receiver index item ss) (keys_kept ss keys) (judged_if secured e index clock item ss keys)
judged_renews false e index clock item ss keys a h = absurd (passes keys a h)
judged_renews true e index clock item ss keys a h = item_renews item e index clock ss (keys_kept ss keys) a h

item_is_own : (e : Terms) (index : ℕ) (item : Item) (m : Route)
    → RenewsItsSession (receiver index item (advanced e (clock_after item m) m.sessions))
    (keys_kept (advanced e (clock_after item m) m.sessions) m.keys) (judgement e index item m)
item_is_own e index item m =
    judged_renews (has_secured_role e) e index (clock_after item m) item (advanced e (clock_after item m) m.sessions) m.keys

pub renewals_are_free : RenewalsAreFree
renewals_are_free = record {
  free = λ e index item m a h. let r : Renews _ _ _ a = item_is_own e index item m a h in (r.slot.moments, r.slot.pool);
  own = item_is_own;
  heard = λ e index item m a h. ap (λ (v : Verdict). heard_as v item) h;
}
