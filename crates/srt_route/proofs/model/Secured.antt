-- The contents of KMREQ blocks that a route repeats are short, and a route without a secured role is as one without keys.
use Rattle.std.proofs.Common.{◌≡◌, ℕ, ◌≤◌, Bool, true, false, cond, Option, None, Some, List, [], ◌∷◌, length, Result, Ok, Err, find}
use Rattle.std.proofs.Common.{◌+◌, refl, sym, ap, subst, inl, inr, arith}
use Rattle.std.specs.Prelude.{⊤, ◌==◌, option_map}
use Rattle.srt_types.specs.declared.shared.Peer.{Peer}
use Rattle.srt_types.specs.declared.shared.Role.{Role}
use Rattle.srt_types.specs.declared.shared.Role.TheVariants.{Publish, Request}
use Rattle.srt_types.specs.Terms.{Terms}
use Rattle.srt_types.specs.Items.{Item, Received, Tick, Close}
use Rattle.srt_packet.specs.declared.reading.PacketFault.{PacketFault}
use Rattle.srt_packet.specs.Grammar.{Packet}
use Rattle.srt_session_keys.specs.Publisher.{response_to}
use Rattle.srt_session_keys.specs.declared.publisher.KeyAnswer.{KeyAnswer}
use Rattle.srt_session_keys.specs.declared.publisher.KeyAnswer.TheVariants.{NoSecret}
use Rattle.srt_packet.specs.Reading.{packet_in}
use Rattle.srt_hs.specs.declared.key_message.KeyFault.{KeyFault}
use Rattle.srt_hs.specs.KeyMessage.{KeyMessage, message_in}
use Rattle.srt_hs.specs.KeyRequest.{Asked, nothing, one, several, key_request_in}
use Rattle.srt_hs.proofs.Answered.{messages_are_answered}
use Rattle.srt_hs.proofs.Keys.{key_reading_is_spelling}
use Rattle.srt_session_keys.specs.Publisher.{Publisher, answer_to, opened_by}
use Rattle.srt_session_keys.specs.Publisher.{answer_by as answer_with_keys}
use Rattle.srt_session_keys.specs.Wrapping.{StreamKeys, brings, fits}
use Rattle.srt_session_keys.specs.Limiter.{is_admitted}
use Rattle.srt_route.specs.declared.conclusion_reading.Conclusion.{Conclusion}
use Rattle.srt_route.specs.declared.refusals.RefusalCause.{RefusalCause}
use Rattle.srt_route.specs.declared.slot_keys.KeyOpening.{KeyOpening}
use Rattle.srt_route.specs.RouteKeys.{Brought, RouteKeys, SlotKeys, Clear, OfPublisher, OfSubscriber, brought_as, brought_by, brought_in, cookie_in}
use Rattle.srt_route.specs.RouteKeys.{has_secured_role, kek_for, keys_opened, opened_with, opening_if, passphrase_of, request_of, subscriber_by}
use Rattle.srt_hs.specs.KeyMessage.{IsKeyLength}
use Rattle.srt_session_keys.specs.Subscriber.{Subscriber as Keys, confirms, with_response}
use Rattle.srt_route.specs.EncryptedOutput.{is_announced, keys_with}
use Rattle.srt_route.specs.Past.{Past, Publishes, Subscribes}
use Rattle.srt_route.specs.RouteKeys.{derivation_of, own_if, own_keys, secures}
use Rattle.srt_route.specs.Sessions.{Session, advanced, generation_of, is_open_in, time_in}
use Rattle.srt_route.specs.KeyRefresh.{answer_by, refreshed, request_in}
use Rattle.srt_route.specs.KeyRefresh.{Confirmation, confirmation_in, confirmed_by}
use Rattle.srt_route.specs.Sendable.{IsResponse}
use Rattle.srt_route.specs.Route.{Decrypted, Answered, Output, Answers, AnswersWithKeys, Says, Ends, Responds, SaysWithKeys, answered_judged}
use Rattle.srt_route.specs.Route.{Judged, Route, Verdict, Passes, Ignored, Refused, Repeats, is_for, session_judged, after, asked, clock_after}
use Rattle.srt_route.specs.Route.{concludes, conclusion_judged, decision}
use Rattle.srt_route.specs.Route.{heard_as, heard_by, info_judged, info_of, is_of, item_judged, judged_by, judged_if, judgement, kept_at, key_opening}
use Rattle.srt_route.specs.Route.{keys_at, keys_kept}
use Rattle.srt_route.specs.Route.{keys_finished_if, keys_in_slot, keys_said, own_by, passed_by}
use Rattle.srt_route.proofs.model.KeyLengths.{IsWholeMessage, IsWholeSource, kek_long, message_whole}
use Rattle.srt_route.specs.Route.{confirmed_at, confirmed_for, keys_confirmed}
use Rattle.srt_route.specs.Route.{read_judged, taken, taken_as, taken_by}
use Rattle.srt_route.specs.Route.{route_before}

abbrev pub IsShort : Option (List ℕ) → Type 0
IsShort None = ⊤
IsShort (Some request) = length request ≤ 104

-- a slot's contents of a KMREQ block are short, and its own keys are made of a valid key and salt
abbrev pub IsWholeOwn : Option Keys → Type 0
IsWholeOwn None = ⊤
IsWholeOwn (Some k) = IsWholeSource k.source

record IsShortSlot (k : SlotKeys) : Type 0 where
  request : IsShort (request_of k)
  own : IsWholeOwn (own_keys k)

abbrev AreShort : RouteKeys → Type 0
AreShort keys = (slot : ℕ) → IsShortSlot (keys.held slot)

-- a KMRSP with a message or with a word that states why there is none
abbrev pub IsResponseOutput : Output → Type 0
IsResponseOutput (Answers caller answer) = ⊥
IsResponseOutput (AnswersWithKeys caller request answer) = ⊥
IsResponseOutput (Says caller initial time report) = ⊥
IsResponseOutput (Ends caller time) = ⊥
IsResponseOutput (Responds caller time contents) = IsResponse contents
IsResponseOutput (SaysWithKeys output) = ⊥

abbrev pub IsShortVerdict : Verdict → Type 0
IsShortVerdict Passes = ⊤
IsShortVerdict Ignored = ⊤
IsShortVerdict (Refused peer c) = ⊤
IsShortVerdict (Repeats request) = IsShort request
IsShortVerdict (Decrypted bytes) = ⊤
IsShortVerdict (Answered answer) = IsResponseOutput answer.packet

record IsShortJudged (j : Judged) : Type 0 where
  verdict : IsShortVerdict j.verdict
  keys : AreShort j.keys

record IsShortMessage (b : Brought) : Type 0 where
  short : length b.contents ≤ 104
  whole : IsWholeMessage b.message

abbrev IsShortBrought : Option Brought → Type 0
IsShortBrought None = ⊤
IsShortBrought (Some b) = IsShortMessage b

message_short : (contents : List ℕ) (m : KeyMessage) → message_in contents ≡ Ok m → length contents ≤ 104
message_short contents m is = (messages_are_answered.length contents m ((key_reading_is_spelling contents m).0 is)).1

read_short : (contents : List ℕ) (read : Result KeyMessage KeyFault) → message_in contents ≡ read → IsShortBrought (brought_as contents read)
read_short contents (Ok m) is = record { short = message_short contents m is; whole = message_whole contents m is }
read_short contents (Err fault) is = tt

asked_short : (a : Asked) → IsShortBrought (brought_by a)
asked_short nothing = tt
asked_short (one contents) = read_short contents (message_in contents) refl
asked_short several = tt

-- an opening
abbrev IsShortKeys : Option SlotKeys → Type 0
IsShortKeys None = ⊤
IsShortKeys (Some k) = IsShortSlot k

publisher_short : (b : Brought) (o : Option Publisher) → IsShortMessage b → IsShortKeys (option_map (λ p. OfPublisher b.contents p) o)
publisher_short b None h = tt
publisher_short b (Some p) h = record { request = h.short; own = tt }

subscriber_short : (brought : Option StreamKeys) (kek : List ℕ) (b : Brought) (o : KeyOpening) (keys : RouteKeys) → IsShortMessage b
    → length kek ≡ b.message.key_length
    → IsShortKeys (subscriber_by brought kek b.contents b.message o keys.pool)
subscriber_short None kek b o keys h long = tt
subscriber_short (Some brought) kek b o keys h long =
    record { request = h.short; own = record { long = subst IsKeyLength (sym long) h.whole.long; salt = h.whole.salt } }

opened_short : (role : Role) (kek : List ℕ) (b : Brought) (o : KeyOpening) (keys : RouteKeys) → IsShortMessage b
    → length kek ≡ b.message.key_length
    → IsShortKeys (keys_opened role kek b o keys.pool)
opened_short Publish kek b o keys h long = publisher_short b (opened_by kek b.message.salt b.message) h
opened_short Request kek b o keys h long = subscriber_short (brings kek b.message) kek b o keys h long

held_short : (same : Bool) (new old : SlotKeys) → IsShortSlot new → IsShortSlot old → IsShortSlot (cond same new old)
held_short true new old h k = h
held_short false new old h k = k

with_short : (peer : Peer) (c : Conclusion) (b : Brought) (o : KeyOpening) (keys : RouteKeys) (new : Option SlotKeys) → IsShortMessage b
    → AreShort keys → IsShortKeys new → IsShortJudged (judged_by peer c b (opened_with o keys new))
with_short peer c b o keys None few short is = record { verdict = tt; keys = short }
with_short peer c b o keys (Some new) few short is =
    record { verdict = few.short; keys = λ slot. held_short (slot == o.slot) new (keys.held slot) is (short slot) }

opening_short : (admitted : Bool) (passphrase : List ℕ) (peer : Peer) (c : Conclusion) (b : Brought) (o : KeyOpening) (keys : RouteKeys)
    → IsShortMessage b → AreShort keys → IsShortJudged (judged_by peer c b (opening_if admitted passphrase b o keys))
opening_short true passphrase peer c b o keys few short =
    with_short peer c b o _ (keys_opened o.role (kek_for passphrase b.message) b o keys.pool) few short
    (opened_short o.role (kek_for passphrase b.message) b o keys few (kek_long passphrase b.message.salt b.message.key_length few.whole.long))
opening_short false passphrase peer c b o keys few short = record { verdict = tt; keys = short }

decided_short : (d : Result ℕ RefusalCause) (passphrase : List ℕ) (b : Brought) (index clock : ℕ) (peer : Peer) (cookie : ℕ) (c : Conclusion)
    (ss : List Session) (keys : RouteKeys) → IsShortMessage b → AreShort keys
    → IsShortJudged (asked passphrase b index clock peer cookie c ss keys d)
decided_short (Err cause) passphrase b index clock peer cookie c ss keys few short = record { verdict = tt; keys = short }
decided_short (Ok slot) passphrase b index clock peer cookie c ss keys few short =
    let o = key_opening index clock peer cookie c.role slot (generation_of ss slot) in
    opening_short (is_admitted keys.moments (derivation_of o)) passphrase peer c b o keys few short

-- an item
conclusion_short : (passphrase : Option (List ℕ)) (b : Option Brought) (o : Option Session) (e : Terms) (index clock : ℕ) (peer : Peer)
    (cookie : ℕ) (c : Conclusion) (ss : List Session) (keys : RouteKeys) → IsShortBrought b → AreShort keys
    → IsShortJudged (conclusion_judged passphrase b e index clock peer cookie c ss keys o)
conclusion_short (Some p) None o e index clock peer cookie c ss keys few short = record { verdict = tt; keys = short }
conclusion_short (Some p) (Some b) (Some s) e index clock peer cookie c ss keys few short = record { verdict = (short s.slot).request; keys = short }
conclusion_short (Some p) (Some b) None e index clock peer cookie c ss keys few short =
    decided_short (decision e peer c ss) p b index clock peer cookie c ss keys few short
conclusion_short None b (Some s) e index clock peer cookie c ss keys few short = record { verdict = (short s.slot).request; keys = short }
conclusion_short None b None e index clock peer cookie c ss keys few short = record { verdict = tt; keys = short }

info_short : (o : Option Conclusion) (e : Terms) (index clock : ℕ) (peer : Peer) (info : List ℕ) (ss : List Session) (keys : RouteKeys)
    → AreShort keys → IsShortJudged (info_judged e index clock peer info ss keys o)
info_short None e index clock peer info ss keys short = record { verdict = tt; keys = short }
info_short (Some c) e index clock peer info ss keys short =
    conclusion_short (passphrase_of e c.role) (brought_in info) (find (is_of peer c.caller) ss) e index clock peer (cookie_in info) c ss keys
    (asked_short (key_request_in info)) short

-- a KMREQ
refreshed_short : (contents : List ℕ) (k : SlotKeys) → IsShortSlot k → IsShortSlot (refreshed contents k)
refreshed_short contents Clear h = h
refreshed_short contents (OfPublisher request keys) h = record { request = h.request; own = tt }
refreshed_short contents (OfSubscriber request keys) h = h

pub response_fits : (contents : List ℕ) → IsResponse contents → length contents ≤ 1456
response_fits contents (inl message) = omega (arith, message_short contents message.0 message.1)
response_fits contents (inr (inl is)) = omega (arith, ap length is)
response_fits contents (inr (inr is)) = omega (arith, ap length is)

publisher_responds : (p : Publisher) (contents : List ℕ) (read : Result KeyMessage KeyFault) → message_in contents ≡ read
    → IsResponse (response_to (answer_to p read) contents)
publisher_responds p contents (Err fault) is = inr (inl refl)
publisher_responds p contents (Ok m) is = by (fits p.kek p.salt (length p.kek) m)
  where
    taken_by : (brought : Option StreamKeys) → IsResponse (response_to (answer_with_keys brought) contents)
    taken_by None = inr (inr refl)
    taken_by (Some keys) = inl (m, is)

    by : (b : Bool) → IsResponse (response_to (cond b (answer_with_keys (brings p.kek m)) NoSecret) contents)
    by true = taken_by (brings p.kek m)
    by false = inr (inl refl)

abbrev IsAnswer : (contents : List ℕ) → Option KeyAnswer → Type 0
IsAnswer contents None = ⊤
IsAnswer contents (Some answer) = IsResponse (response_to answer contents)

slot_responds : (contents : List ℕ) (k : SlotKeys) → IsAnswer contents (answer_by contents k)
slot_responds contents Clear = tt
slot_responds contents (OfPublisher request keys) = publisher_responds keys contents (message_in contents) refl
slot_responds contents (OfSubscriber request keys) = tt

answered_short : (a : Option KeyAnswer) (contents : List ℕ) (clock : ℕ) (p : Packet) (bytes : List ℕ) (keys : RouteKeys) (s : Session)
    → IsAnswer contents a → AreShort keys → IsShortJudged (answered_judged a contents clock p bytes keys s)
answered_short None contents clock p bytes keys s is short = record { verdict = tt; keys = short }
answered_short (Some a) contents clock p bytes keys s is short =
    record {
      verdict = is;
      keys = λ slot. held_short (slot == s.slot) (refreshed contents (keys.held s.slot)) (keys.held slot)
          (refreshed_short contents (keys.held s.slot) (short s.slot)) (short slot);
    }

session_short : (o : Option Session) (request : Option (List ℕ)) (clock : ℕ) (p : Packet) (bytes : List ℕ) (keys : RouteKeys)
    → AreShort keys → IsShortJudged (session_judged request clock p bytes keys o)
session_short None request clock p bytes keys short = record { verdict = tt; keys = short }
session_short (Some s) None clock p bytes keys short = record { verdict = tt; keys = short }
session_short (Some s) (Some contents) clock p bytes keys short =
    answered_short (answer_by contents (keys.held s.slot)) contents clock p bytes keys s (slot_responds contents (keys.held s.slot)) short

packet_short : (zero : Bool) (e : Terms) (index clock : ℕ) (peer : Peer) (request : Option (List ℕ)) (p : Packet) (bytes : List ℕ) (ss : List Session)
    (keys : RouteKeys) → AreShort keys
    → IsShortJudged (cond zero (info_judged e index clock peer (info_of p.body) ss keys (concludes p.body))
    (session_judged request clock p bytes keys (find (is_for index peer p.dest) ss)))
packet_short true e index clock peer request p bytes ss keys short = info_short (concludes p.body) e index clock peer (info_of p.body) ss keys short
packet_short false e index clock peer request p bytes ss keys short =
    session_short (find (is_for index peer p.dest) ss) request clock p bytes keys short

packet_read_short : (read : Result Packet PacketFault) (e : Terms) (index clock : ℕ) (peer : Peer) (bytes : List ℕ) (ss : List Session)
    (keys : RouteKeys) → AreShort keys → IsShortJudged (read_judged e index clock peer read bytes ss keys)
packet_read_short (Ok p) e index clock peer bytes ss keys short =
    packet_short (p.dest == 0) e index clock peer (request_in bytes) p bytes ss keys short
packet_read_short (Err fault) e index clock peer bytes ss keys short = record { verdict = tt; keys = short }

item_short : (e : Terms) (index clock : ℕ) (item : Item) (ss : List Session) (keys : RouteKeys) → AreShort keys
    → IsShortJudged (item_judged e index clock item ss keys)
item_short e index clock (Received d moment) ss keys short = packet_read_short (packet_in d.bytes) e index clock d.peer d.bytes ss keys short
item_short e index clock (Tick moment) ss keys short = record { verdict = tt; keys = short }
item_short e index clock (Close moment) ss keys short = record { verdict = tt; keys = short }

kept_short : (o : Option Session) (k : SlotKeys) → IsShortSlot k → IsShortSlot (kept_at o k)
kept_short None k h = record { request = tt; own = tt }
kept_short (Some s) k h = h

-- a KMRSP
response_whole : (contents : List ℕ) (keys : Keys) → IsWholeSource keys.source → IsWholeSource (with_response contents keys).source
response_whole contents keys h = by (confirms contents keys)
  where
    by : (b : Bool) → IsWholeSource (cond b (record { source = keys.source; confirmed = keys.confirmed + 1; announced = None }) keys).source
    by true = h
    by false = h

confirmed_short : (contents : List ℕ) (k : SlotKeys) → IsShortSlot k → IsShortSlot (confirmed_by contents k)
confirmed_short contents Clear h = h
confirmed_short contents (OfPublisher request keys) h = h
confirmed_short contents (OfSubscriber request keys) h = record { request = h.request; own = response_whole contents keys h.own }

session_confirmed_short : (contents : List ℕ) (o : Option Session) (keys : RouteKeys) → AreShort keys → AreShort (confirmed_at contents o keys)
session_confirmed_short contents None keys short = short
session_confirmed_short contents (Some s) keys short =
    λ slot. held_short (slot == s.slot) (confirmed_by contents (keys.held s.slot)) (keys.held slot)
    (confirmed_short contents (keys.held s.slot) (short s.slot)) (short slot)

response_confirmed_short : (index : ℕ) (peer : Peer) (o : Option Confirmation) (ss : List Session) (keys : RouteKeys)
    → AreShort keys → AreShort (confirmed_for index peer o ss keys)
response_confirmed_short index peer None ss keys short = short
response_confirmed_short index peer (Some c) ss keys short = session_confirmed_short c.contents (find (is_for index peer c.dest) ss) keys short

item_confirmed_short : (index : ℕ) (item : Item) (ss : List Session) (keys : RouteKeys) → AreShort keys → AreShort (keys_confirmed index item ss keys)
item_confirmed_short index (Received d moment) ss keys short = response_confirmed_short index d.peer (confirmation_in d.bytes) ss keys short
item_confirmed_short index (Tick moment) ss keys short = short
item_confirmed_short index (Close moment) ss keys short = short

judged_short : (secured : Bool) (e : Terms) (index clock : ℕ) (item : Item) (ss : List Session) (keys : RouteKeys) → AreShort keys
    → IsShortJudged (judged_if secured e index clock item ss keys)
judged_short false e index clock item ss keys short = record { verdict = tt; keys = short }
judged_short true e index clock item ss keys short =
    item_short e index clock item ss (keys_confirmed index item ss (keys_kept ss keys))
    (item_confirmed_short index item ss (keys_kept ss keys) (λ slot. kept_short (find (is_open_in slot) ss) (keys.held slot) (short slot)))

judgement_short : (e : Terms) (index : ℕ) (item : Item) (m : Route) → AreShort m.keys → IsShortJudged (judgement e index item m)
judgement_short e index item m short =
    judged_short (has_secured_role e) e index (clock_after item m) item (advanced e (clock_after item m) m.sessions) m.keys short

-- the end of an event
announced_whole : (announced : Bool) (time : ℕ) (keys : Keys) → IsWholeSource keys.source → IsWholeSource (keys_with announced time keys).source
announced_whole true time keys h = h
announced_whole false time keys h = h

said_short : (time : ℕ) (past : Past) (k : SlotKeys) → IsShortSlot k → IsShortSlot (keys_said time past k)
said_short time (Publishes p) k h = h
said_short time (Subscribes s) Clear h = h
said_short time (Subscribes s) (OfPublisher request keys) h = h
said_short time (Subscribes s) (OfSubscriber request keys) h =
    record { request = h.request; own = announced_whole (is_announced keys time s) time keys h.own }

in_slot_short : (clock : ℕ) (o : Option Session) (k : SlotKeys) → IsShortSlot k → IsShortSlot (keys_in_slot clock o k)
in_slot_short clock None k h = h
in_slot_short clock (Some s) k h = said_short (time_in s clock) s.past k h

finished_short : (secured : Bool) (clock : ℕ) (ss : List Session) (keys : RouteKeys) → AreShort keys
    → AreShort (keys_finished_if secured clock ss keys)
finished_short true clock ss keys short =
    λ slot. in_slot_short clock (find (is_open_in slot) ss) (keys.held slot) (short slot)
finished_short false clock ss keys short = short

keys_short : (is_closed : Bool) (e : Terms) (index : ℕ) (item : Item) (m : Route) → AreShort m.keys → AreShort (keys_at is_closed e index item m)
keys_short true e index item m short = short
keys_short false e index item m short =
    let ss = passed_by e index item m in
    finished_short (secures e Request) (clock_after item m) ss (judgement e index item m).keys (judgement_short e index item m short).keys

all_short : (e : Terms) (index : ℕ) (items : List Item) → AreShort (after e index items).keys
all_short e index [] = λ slot. record { request = tt; own = tt }
all_short e index (item ∷ items) =
    let m = route_before e index item items in keys_short m.is_closed e index item m (all_short e index items)

pub verdict_short : (e : Terms) (index : ℕ) (items : List Item) (item : Item)
    → IsShortVerdict (judgement e index item (route_before e index item items)).verdict
verdict_short e index items item = (judgement_short e index item (route_before e index item items) (all_short e index items)).verdict

-- the keys of their own under which the sessions of slots are sent payloads
pub own_whole : (e : Terms) (index : ℕ) (items : List Item) (item : Item) (slot : ℕ) → IsWholeOwn (own_by e index item (route_before e index item items) slot)
own_whole e index items item slot = by (secures e Request)
  where
    by : (b : Bool) → IsWholeOwn (own_if b (judgement e index item (route_before e index item items)).keys.held slot)
    by true = ((judgement_short e index item (route_before e index item items) (all_short e index items)).keys slot).own
    by false = tt

-- without a secured role an item is processed as it is
pub clear_passes : (e : Terms) (index : ℕ) (item : Item) (m : Route) → has_secured_role e ≡ false → (judgement e index item m).verdict ≡ Passes
clear_passes e index item m clear =
    ap (λ (b : Bool). (judged_if b e index (clock_after item m) item (advanced e (clock_after item m) m.sessions) m.keys).verdict) clear

pub clear_taken : (e : Terms) (index : ℕ) (item : Item) (m : Route) → has_secured_role e ≡ false
    → taken_by e index item m ≡ taken_as Passes (taken e index (clock_after item m) item (advanced e (clock_after item m) m.sessions))
clear_taken e index item m clear =
    ap (λ (v : Verdict). taken_as v (taken e index (clock_after item m) (heard_as v item) (advanced e (clock_after item m) m.sessions)))
    (clear_passes e index item m clear)

-- keys change nothing about a Close
pub closing_is_heard : (e : Terms) (index moment : ℕ) (m : Route) → heard_by e index (Close moment) m ≡ Close moment
closing_is_heard e index moment m = by (has_secured_role e)
  where
    clock : ℕ
    clock = clock_after (Close moment) m

    by : (b : Bool) → heard_as (judged_if b e index clock (Close moment) (advanced e clock m.sessions) m.keys).verdict (Close moment) ≡ Close moment
    by true = refl
    by false = refl
