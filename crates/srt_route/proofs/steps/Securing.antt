-- Keys of secured roles: what the code's calls make of a route's keys is what the definitions state.
use Rattle.std.proofs.Common.{◌≡◌, ◌≢◌, ℕ, ◌<◌, ◌≤◌, ◌+◌, ◌==◌, nat_lt, Bool, true, false, cond, Option, None, Some, List, [], ◌∷◌, map, length, Result, Ok}
use Rattle.std.proofs.Common.{Err, find, get_or}
use Rattle.std.proofs.Common.{refl, sym, ap, subst, ◌∙◌, arith}
use Rattle.std.specs.Prelude.{option_map}
use Rattle.std.specs.List.{position}
use Rattle.std.specs.Option.{is_none, is_some}
use Rattle.std.proofs.lemmas.List.{get_or_default}
use Rattle.std.proofs.lemmas.List.Quantifiers.{position-Some}
use Rattle.std.proofs.lemmas.Bool.{eqb-true, eq-eqb}
use Rattle.std.proofs.lemmas.Bool.Decides.{nat_tests}
use Rattle.srt_types.specs.declared.shared.Peer.{Peer}
use Rattle.srt_types.specs.declared.shared.Role.{Role}
use Rattle.srt_types.specs.declared.shared.Role.TheVariants.{Publish, Request}
use Rattle.srt_types.specs.Given.{given}
use Rattle.srt_types.specs.Items.{Datagram, Item, Received}
use Rattle.srt_packet.specs.Reading.{packet_in}
use Rattle.srt_types.specs.Terms.{Terms}
use Rattle.srt_packet.specs.Grammar.{Packet, Handshake}
use Rattle.srt_session_keys.specs.Limiter.{is_admitted}
use Rattle.srt_session_keys.specs.Publisher.{Publisher, opened_by}
use Rattle.srt_session_keys.specs.Wrapping.{StreamKeys, brings}
use Rattle.srt_session_keys.specs.Source.{Pool}
use Rattle.srt_route.specs.declared.arrival.Arrival.{Arrival}
use Rattle.srt_route.specs.declared.conclusion_reading.Conclusion.{Conclusion}
use Rattle.srt_route.specs.Conclusions.{conclusion_in}
use Rattle.srt_route.specs.declared.ledger.EndedSession.{EndedSession}
use Rattle.srt_route.specs.declared.ledger.Ledger.{Ledger}
use Rattle.srt_route.specs.declared.secured.Verdict.{Verdict as TheVerdict}
use Rattle.srt_route.specs.declared.refusals.RefusalCause.{RefusalCause}
use Rattle.srt_route.specs.declared.reply_queue.ReplyQueue.{ReplyQueue}
use Rattle.srt_route.specs.inside.Reports.{Queues}
use Rattle.srt_route.specs.declared.replies.Reply.{Reply as TheReply}
use Rattle.srt_route.specs.declared.slot_keys.KeyOpening.{KeyOpening}
use Rattle.srt_route.specs.declared.slot_keys.KeyVerdict.{KeyVerdict}
use Rattle.srt_route.specs.declared.slot_keys.KeyVerdict.TheVariants.{TooMany, WrongSecret, Opened}
use Rattle.srt_route.specs.declared.secured.Verdict.TheVariants as code
use Rattle.srt_route.specs.declared.route_keys.RouteKeys.{RouteKeys as TheRouteKeys}
use Rattle.srt_route.specs.declared.seat.Seat.{Seat}
use Rattle.srt_route.specs.declared.seat.Session.{Session as TheSession}
use Rattle.srt_route.specs.declared.table.Table.{Table}
use Rattle.srt_route.specs.RouteKeys.{Brought, KeysOpened, RouteKeys, SlotKeys, Clear, OfPublisher, OfSubscriber, cookie_in, derivation_of, held_with, kek_for}
use Rattle.srt_route.specs.RouteKeys.{has_secured_role}
use Rattle.srt_route.specs.RouteKeys.{keys_opened, opened_with, opening, opening_if, request_of, subscriber_by, subscriber_of, with_slot}
use Rattle.srt_route.specs.StoredKeys.{AreKeys, IsOpened}
use Rattle.srt_route.specs.Sessions.{Session, answer_of, generation_of, is_open_in}
use Rattle.srt_hs.specs.declared.writing.HsAnswer.{HsAnswer}
use Rattle.srt_packet.specs.declared.reading.PacketFault.{PacketFault}
use Rattle.srt_route.specs.Decryption.{clear_bytes, in_clear}
use Rattle.srt_route.specs.Route.{Answered, Decrypted, is_for, session_judged}
use Rattle.srt_route.specs.Route.{as_before, concludes, info_of, item_judged, judged, judged_if}
use Rattle.srt_route.specs.Route.{Judged, Verdict, Passes, Ignored, Refused, heard_as, info_judged, packet_judged, packet_taken, read_taken, taken, taken_as}
use Rattle.srt_route.specs.Ends.{Ending, EndsAre, destined_ending, item_ending, kept_of, read_ending}
use Rattle.srt_route.specs.Tallies.{Tally, conclusion_tally, item_tally, packet_tally, read_tally, tally_of, verdict_tally}
use Rattle.srt_route.specs.Route.{Answers, Reply, Taken, Repeats, answers_as, asked, concluded, conclusion_judged, considered, decision, heard_if, judged_by}
use Rattle.srt_route.specs.Route.{kept_at, key_opening, keys_confirmed, keys_kept, verdict_of, is_of, session_opened, sent}
use Rattle.srt_route.specs.Admission.{admitted_by, agreement_of}
use Rattle.srt_route.specs.Tables.{AreAlone, IsSession, IsStored, IsTable, IsTaken, holds, written_of}
use Rattle.srt_route.specs.Written.{written}
use Rattle.srt_route.specs.inside.Secured.{IsDispatched, IsHeard, IsPlain, IsSecured, heard_bytes, RepeatsRequest, heard_ending, heard_taken, heard_tally}
use Rattle.srt_route.specs.inside.Secured.{none_ends}
use Rattle.srt_route.specs.inside.Secured.{IsInside, IsJudged, IsRepeated, RepeatsIn, kept_stored, kept_to, repeated, verdict_in, verdict_with}
use Rattle.srt_route.proofs.model.Lists.{find_through}
use Rattle.srt_route.proofs.model.Found.{found_passes, of_parts, open_parts}
use Rattle.srt_route.proofs.stored.HeldKeys.{not_equal}
use Rattle.srt_route.proofs.stored.Kept.{seat_at, some_buffers}
use Rattle.srt_route.proofs.stored.Stored.{IsForNone, caller_at, none_found_for, some_found}
use Rattle.srt_route.proofs.model.Decrypting.{clear_read}
use Rattle.srt_route.proofs.steps.Notified.{none_notified}
use Rattle.srt_route.proofs.steps.Saying.{same_said}
use Rattle.srt_route.proofs.steps.Tallied.{has_destination}

-- keys of which each part is the same
pub same_keys : (e : Terms) (stored : TheRouteKeys) (m n : RouteKeys) → n.moments ≡ m.moments → n.pool ≡ m.pool
    → ((slot : ℕ) → slot < e.sessions → n.held slot ≡ m.held slot) → AreKeys e stored m → AreKeys e stored n
same_keys e stored m n moments pool held are = record {
  publish_is = are.publish_is;
  request_is = are.request_is;
  moments_are = are.moments_are ∙ sym moments;
  pool_is = are.pool_is ∙ sym pool;
  places_are = are.places_are;
  held_are = λ secured slot d below. are.held_are secured slot d below ∙ sym (held slot below);
}

-- a repeated answer is that of the slot's session
pub record IsAnswerOf (e : Terms) (index : ℕ) (slot : ℕ) (peer : Peer) (t : Taken) : Type 0 where
  pub session : Session
  pub found : find (is_open_in slot) t.sessions ≡ Some session
  pub answers_are : t.answers ≡ record { peer = peer; packet = Answers session.conclusion.caller (answer_of e index session) } ∷ []

here_found : (s : Session) (ss : List Session) (slot : ℕ) (b : Bool) → b ≡ true → cond b (Some s) (find (is_open_in slot) ss) ≡ Some s
here_found s ss slot true is = refl
here_found s ss slot false is = absurd (let bad : false ≡ true = is in cc)

opened_answer : (e : Terms) (index clock : ℕ) (peer : Peer) (stamp : ℕ) (c : Conclusion) (ss : List Session) (slot : ℕ) (d : Result ℕ RefusalCause)
    → d ≡ Ok slot → IsAnswerOf e index slot peer (considered e index clock peer stamp c ss d)
opened_answer e index clock peer stamp c ss slot d is =
    let s : Session = session_opened clock peer stamp c slot (generation_of ss slot) in
    subst (λ (r : Result ℕ RefusalCause). IsAnswerOf e index slot peer (considered e index clock peer stamp c ss r)) (sym is)
    (record { session = s; found = here_found s ss slot (slot == slot) (eq-eqb slot slot refl); answers_are = refl })

same_open : (slot clock : ℕ) (s : Session) (b : Bool) → is_open_in slot (heard_if b clock s) ≡ is_open_in slot s
same_open slot clock s true = refl
same_open slot clock s false = refl

-- the answer of a session
abbrev answer_here : Terms → (index : ℕ) → Peer → Session → List Reply
answer_here e index peer s = record { peer = peer; packet = Answers s.conclusion.caller (answer_of e index s) } ∷ []

same_answer : (e : Terms) (index clock : ℕ) (peer : Peer) (s : Session) (b : Bool)
    → answer_here e index peer s ≡ answer_here e index peer (heard_if b clock s)
same_answer e index clock peer s true = refl
same_answer e index clock peer s false = refl

again_answer : (e : Terms) (index clock : ℕ) (peer : Peer) (stamp : ℕ) (c : Conclusion) (ss : List Session) (slot : ℕ) (s : Session)
    → find (is_of peer c.caller) ss ≡ Some s → find (is_open_in slot) ss ≡ Some s
    → IsAnswerOf e index slot peer (concluded e index clock peer stamp c ss (Some s))
again_answer e index clock peer stamp c ss slot s mine there =
    let f : Session → Session = λ t. heard_if (is_of peer c.caller t) clock t in
    record {
      session = f s;
      found = find_through f (is_open_in slot) (is_open_in slot) (λ t. same_open slot clock t (is_of peer c.caller t)) ss ∙ ap (option_map f) there;
      answers_are = ap (λ (n : ℕ). record { peer = peer; packet = Answers n (answer_of e index s) } ∷ [])
          (sym (of_parts peer c.caller s (found_passes (is_of peer c.caller) ss s mine)).2)
          ∙ same_answer e index clock peer s (is_of peer c.caller s);
    }

pub concluded_answer : (e : Terms) (index clock : ℕ) (peer : Peer) (stamp : ℕ) (c : Conclusion) (ss : List Session) (slot : ℕ) (o : Option Session)
    → find (is_of peer c.caller) ss ≡ o → IsRepeated e peer c ss slot o
    → IsAnswerOf e index slot peer (concluded e index clock peer stamp c ss o)
concluded_answer e index clock peer stamp c ss slot None is h = opened_answer e index clock peer stamp c ss slot (decision e peer c ss) h
concluded_answer e index clock peer stamp c ss slot (Some s) is h = again_answer e index clock peer stamp c ss slot s is h

-- the answer with the contents of a KMREQ block, in the place of the one without
with_request : (request : Option (List ℕ)) (answered : Bool) (old new : TheReply) (a : Reply) → written_of (given answered old) ≡ sent a ∷ []
    → (written old ≡ sent a → written new ≡ sent (repeated request a))
    → written_of (given answered new) ≡ map sent (answers_as (Repeats request) (a ∷ []))
with_request None true old new a h again = ap (λ (d : Datagram). d ∷ []) (again (ap (λ (ds : List Datagram). get_or ds 0 (written old)) h))
with_request (Some request) true old new a h again = ap (λ (d : Datagram). d ∷ []) (again (ap (λ (ds : List Datagram). get_or ds 0 (written old)) h))
with_request request false old new a h again = absurd (let bad : [] ≡ sent a ∷ [] = h in cc)

pub repeated_replies : (request : Option (List ℕ)) (answered : Bool) (old new : TheReply) (a : Reply) (answers : List Reply) → answers ≡ a ∷ []
    → written_of (given answered old) ≡ map sent answers → (written old ≡ sent a → written new ≡ sent (repeated request a))
    → written_of (given answered new) ≡ map sent (answers_as (Repeats request) answers)
repeated_replies request answered old new a answers is h again =
    with_request request answered old new a (h ∙ ap (λ (rs : List Reply). map sent rs) is) again
    ∙ ap (λ (rs : List Reply). map sent (answers_as (Repeats request) rs)) (sym is)

-- the keys of ended sessions are removed slot by slot
pub same_slot : (at : ℕ) (held : ℕ → SlotKeys) (k : ℕ) → held_with at (held at) held k ≡ held k
same_slot at held k = by (k == at) refl
  where
    by : (b : Bool) → (k == at) ≡ b → cond b (held at) (held k) ≡ held k
    by true is = ap held (sym (eqb-true k at is))
    by false is = refl

same_less : (k at : ℕ) → k ≢ at → nat_lt k (at + 1) ≡ nat_lt k at
same_less k at apart = by (nat_lt k (at + 1)) (nat_lt k at) refl refl
  where
    by : (x y : Bool) → nat_lt k (at + 1) ≡ x → nat_lt k at ≡ y → x ≡ y
    by true true h l = refl
    by false false h l = refl
    by true false h l = absurd (let a : k < at + 1 = grind (arith, nat_tests, h) in
        let b : k < at = omega (arith, a, apart) in
        let c : nat_lt k at ≡ true = grind (arith, nat_tests, b) in
        cc)
    by false true h l = absurd (let a : k < at = grind (arith, nat_tests, l) in
        let b : k < at + 1 = omega (arith, a) in
        let c : nat_lt k (at + 1) ≡ true = grind (arith, nat_tests, b) in
        cc)

less_next : (at : ℕ) → nat_lt at (at + 1) ≡ true
less_next at = let a : at < at + 1 = omega arith in grind (arith, nat_tests, a)

not_less : (at : ℕ) → nat_lt at at ≡ false
not_less at = by (nat_lt at at) refl
  where
    by : (x : Bool) → nat_lt at at ≡ x → x ≡ false
    by false h = refl
    by true h = absurd (let a : at < at = grind (arith, nat_tests, h) in omega (arith, a))

none_less : (at : ℕ) → nat_lt at 0 ≡ false
none_less at = by (nat_lt at 0) refl
  where
    by : (x : Bool) → nat_lt at 0 ≡ x → x ≡ false
    by false h = refl
    by true h = absurd (let a : at < 0 = grind (arith, nat_tests, h) in omega (arith, a))

kept_same : (e : Terms) (index : ℕ) (stored : Option TheSession) (o : Option Session) (k : SlotKeys) → IsStored e index stored o
    → kept_stored stored k ≡ kept_at o k
kept_same e index None None k is = refl
kept_same e index (Some t) (Some s) k is = refl
kept_same e index None (Some s) k is = absurd is
kept_same e index (Some t) None k is = absurd is

kept_next : (e : Terms) (index at : ℕ) (ss : List Session) (m : RouteKeys) (stored : Option TheSession) (slot : ℕ)
    → IsStored e index stored (find (is_open_in at) ss)
    → (kept_to (at + 1) ss m).held slot ≡ held_with at (kept_stored stored ((kept_to at ss m).held at)) (kept_to at ss m).held slot
kept_next e index at ss m stored slot is = by (slot == at) refl
  where
    there : ℕ → SlotKeys
    there k = kept_at (find (is_open_in k) ss) (m.held k)

    by : (b : Bool) → (slot == at) ≡ b
        → cond (nat_lt slot (at + 1)) (there slot) (m.held slot)
        ≡ cond b (kept_stored stored (cond (nat_lt at at) (there at) (m.held at))) (cond (nat_lt slot at) (there slot) (m.held slot))
    by true same =
        ap (λ (n : ℕ). cond (nat_lt n (at + 1)) (there n) (m.held n)) (eqb-true slot at same)
        ∙ ap (λ (b : Bool). cond b (there at) (m.held at)) (less_next at)
        ∙ sym (kept_same e index stored (find (is_open_in at) ss) (m.held at) is)
        ∙ ap (λ (b : Bool). kept_stored stored (cond b (there at) (m.held at))) (sym (not_less at))
    by false apart = ap (λ (b : Bool). cond b (there slot) (m.held slot)) (same_less slot at (not_equal slot at apart))

pub kept_first : (e : Terms) (stored : TheRouteKeys) (ss : List Session) (m : RouteKeys) → AreKeys e stored m → AreKeys e stored (kept_to 0 ss m)
kept_first e stored ss m are =
    same_keys e stored m (kept_to 0 ss m) refl refl
    (λ slot below. ap (λ (b : Bool). cond b (kept_at (find (is_open_in slot) ss) (m.held slot)) (m.held slot)) (none_less slot)) are

pub kept_more : (e : Terms) (index clock at : ℕ) (table : Table) (ss : List Session) (old new : TheRouteKeys) (m : RouteKeys) (x : Seat)
    → IsTable e index clock table ss → at < length table.seats.items → x ≡ get_or table.seats.items at x → AreKeys e old (kept_to at ss m)
    → ((d : Terms) (n : RouteKeys) → AreKeys d old n → AreKeys d new (with_slot at (kept_stored x.session (n.held at)) n))
    → AreKeys e new (kept_to (at + 1) ss m)
kept_more e index clock at table ss old new m x is inside there are keeps =
    same_keys e new (with_slot at (kept_stored x.session ((kept_to at ss m).held at)) (kept_to at ss m)) (kept_to (at + 1) ss m) refl refl
    (λ slot below. kept_next e index at ss m x.session slot (seat_at e index clock table ss at x (some_buffers table) is inside there).session_is)
    (keeps e (kept_to at ss m) are)

pub kept_all : (e : Terms) (index clock at : ℕ) (table : Table) (ss : List Session) (stored : TheRouteKeys) (m : RouteKeys)
    → IsTable e index clock table ss → length table.seats.items ≤ at → AreKeys e stored (kept_to at ss m) → AreKeys e stored (keys_kept ss m)
kept_all e index clock at table ss stored m is past are =
    same_keys e stored (kept_to at ss m) (keys_kept ss m) refl refl
    (λ slot below. let less : slot < at = omega (arith, below, past, is.places_are) in
    let so : nat_lt slot at ≡ true = grind (arith, nat_tests, less) in
    ap (λ (b : Bool). cond b (kept_at (find (is_open_in slot) ss) (m.held slot)) (m.held slot)) (sym so))
    are

-- the verdict on a conclusion of which a session would open
request_opened : (role : Role) (kek : List ℕ) (b : Brought) (o : KeyOpening) (pool : Pool) (new : SlotKeys)
    → keys_opened role kek b o pool ≡ Some new → request_of new ≡ Some b.contents
request_opened Publish kek b o pool new is = by (opened_by kek b.message.salt b.message) is
  where
    by : (p : Option Publisher) → option_map (λ q. OfPublisher b.contents q) p ≡ Some new → request_of new ≡ Some b.contents
    by None h = absurd (let bad : None ≡ Some new = h in cc)
    by (Some p) h = let same : OfPublisher b.contents p ≡ new = cc in ap request_of (sym same)
request_opened Request kek b o pool new is = by (brings kek b.message) is
  where
    by : (x : Option StreamKeys) → subscriber_by x kek b.contents b.message o pool ≡ Some new → request_of new ≡ Some b.contents
    by None h = absurd (let bad : None ≡ Some new = h in cc)
    by (Some x) h =
        let same : OfSubscriber b.contents (subscriber_of kek b.message o pool) ≡ new = cc in ap request_of (sym same)

abbrev IsVerdictOf : Peer → Conclusion → Brought → (slot : ℕ) → KeysOpened → Type 0
IsVerdictOf peer c b slot k = verdict_of peer c b k.verdict ≡ verdict_in peer c k.keys.held (verdict_with k.verdict slot)

held_here : (slot : ℕ) (new : SlotKeys) (held : ℕ → SlotKeys) → new ≡ held_with slot new held slot
held_here slot new held = ap (λ (b : Bool). cond b new (held slot)) (sym (eq-eqb slot slot refl))

with_verdict : (peer : Peer) (c : Conclusion) (b : Brought) (o : KeyOpening) (keys : RouteKeys) (found : Option SlotKeys)
    → ((new : SlotKeys) → found ≡ Some new → request_of new ≡ Some b.contents) → IsVerdictOf peer c b o.slot (opened_with o keys found)
with_verdict peer c b o keys None h = refl
with_verdict peer c b o keys (Some new) h =
    ap Repeats (sym (h new refl) ∙ ap request_of (held_here o.slot new keys.held))

opening_verdict : (admitted : Bool) (peer : Peer) (c : Conclusion) (passphrase : List ℕ) (b : Brought) (o : KeyOpening) (keys : RouteKeys)
    → IsVerdictOf peer c b o.slot (opening_if admitted passphrase b o keys)
opening_verdict true peer c passphrase b o keys =
    with_verdict peer c b o _ (keys_opened o.role (kek_for passphrase b.message) b o keys.pool)
    (request_opened o.role (kek_for passphrase b.message) b o keys.pool)
opening_verdict false peer c passphrase b o keys = refl

pub first_judged : (e : Terms) (index clock : ℕ) (peer : Peer) (cookie : ℕ) (c : Conclusion) (passphrase : List ℕ) (b : Brought) (ss : List Session)
    (keys : RouteKeys) (new : TheRouteKeys) (verdict : KeyVerdict) (o : KeyOpening) (slot : ℕ) (d : Result ℕ RefusalCause)
    → d ≡ Ok slot → o ≡ key_opening index clock peer cookie c.role slot (generation_of ss slot)
    → IsOpened e new verdict (opening passphrase b o keys)
    → IsJudged e peer c (verdict_with verdict slot) new (asked passphrase b index clock peer cookie c ss keys d)
first_judged e index clock peer cookie c passphrase b ss keys new verdict o slot d is o_is opened =
    let k = opening passphrase b o keys in
    let all : IsJudged e peer c (verdict_with verdict slot) new (judged_by peer c b k) =
    record {
      verdict_is = opening_verdict (is_admitted keys.moments (derivation_of o)) peer c passphrase b o keys
          ∙ ap (λ (n : ℕ). verdict_in peer c k.keys.held (verdict_with k.verdict n)) (ap (λ (p : KeyOpening). p.slot) o_is)
          ∙ ap (λ (v : KeyVerdict). verdict_in peer c k.keys.held (verdict_with v slot)) (sym opened.verdict_is);
      keys_are = opened.keys_are;
    } in
    subst (λ (r : Result ℕ RefusalCause). IsJudged e peer c (verdict_with verdict slot) new (asked passphrase b index clock peer cookie c ss keys r)) (sym is)
    (subst (λ (p : KeyOpening). IsJudged e peer c (verdict_with verdict slot) new (judged_by peer c b (opening passphrase b p keys))) o_is all)

pub first_refused : (e : Terms) (index clock : ℕ) (peer : Peer) (cookie : ℕ) (c : Conclusion) (passphrase : List ℕ) (b : Brought) (ss : List Session)
    (keys : RouteKeys) (new : TheRouteKeys) (cause : RefusalCause) (d : Result ℕ RefusalCause) → admitted_by e c d ≡ Err cause → AreKeys e new keys
    → IsJudged e peer c code.Passes new (asked passphrase b index clock peer cookie c ss keys d)
first_refused e index clock peer cookie c passphrase b ss keys new cause (Err other) is are = record { verdict_is = refl; keys_are = are }
first_refused e index clock peer cookie c passphrase b ss keys new cause (Ok slot) is are =
    absurd (let bad : Ok (record { at = slot; agreement = agreement_of e c }) ≡ Err cause = is in cc)

pub first_repeats : (e : Terms) (peer : Peer) (c : Conclusion) (ss : List Session) (slot : ℕ) (verdict : KeyVerdict) → decision e peer c ss ≡ Ok slot
    → RepeatsIn e peer c ss (verdict_with verdict slot) None
first_repeats e peer c ss slot TooMany h = tt
first_repeats e peer c ss slot WrongSecret h = tt
first_repeats e peer c ss slot Opened h = h

pub first_inside : (places slot : ℕ) (verdict : KeyVerdict) → slot < places → IsInside places (verdict_with verdict slot)
first_inside places slot TooMany h = tt
first_inside places slot WrongSecret h = tt
first_inside places slot Opened h = h

-- the verdict on a conclusion of a caller with an open session, and on one of another caller
pub again_judged : (e : Terms) (index clock : ℕ) (peer : Peer) (info : List ℕ) (c : Conclusion) (ss : List Session) (keys : RouteKeys)
    (stored : TheRouteKeys) (at : ℕ) (s : Session) (p : Option (List ℕ)) (b : Brought) (o : Option Session) → o ≡ Some s → s.slot ≡ at
    → AreKeys e stored keys
    → IsJudged e peer c (code.Repeats at) stored (conclusion_judged p (Some b) e index clock peer (cookie_in info) c ss keys o)
again_judged e index clock peer info c ss keys stored at s (Some p) b o is here are =
    rw (is) (record { verdict_is = ap (λ (n : ℕ). Repeats (request_of (keys.held n))) here; keys_are = are })
again_judged e index clock peer info c ss keys stored at s None b o is here are =
    rw (is) (record { verdict_is = ap (λ (n : ℕ). Repeats (request_of (keys.held n))) here; keys_are = are })

pub clear_judged : (e : Terms) (index clock : ℕ) (peer : Peer) (info : List ℕ) (c : Conclusion) (ss : List Session) (keys : RouteKeys)
    (stored : TheRouteKeys) (at : ℕ) (s : Session) (p : Option (List ℕ)) (b : Option Brought) (o : Option Session) → p ≡ None → o ≡ Some s
    → s.slot ≡ at → AreKeys e stored keys
    → IsJudged e peer c (code.Repeats at) stored (conclusion_judged p b e index clock peer (cookie_in info) c ss keys o)
clear_judged e index clock peer info c ss keys stored at s p b o none is here are =
    rw (none, is) (record { verdict_is = ap (λ (n : ℕ). Repeats (request_of (keys.held n))) here; keys_are = are })

pub clear_passed : (e : Terms) (index clock : ℕ) (peer : Peer) (info : List ℕ) (c : Conclusion) (ss : List Session) (keys : RouteKeys)
    (stored : TheRouteKeys) (p : Option (List ℕ)) (b : Option Brought) (o : Option Session) → p ≡ None → o ≡ None → AreKeys e stored keys
    → IsJudged e peer c code.Passes stored (conclusion_judged p b e index clock peer (cookie_in info) c ss keys o)
clear_passed e index clock peer info c ss keys stored p b o none is are = rw (none, is) (record { verdict_is = refl; keys_are = are })

-- what keys make of a packet, from the verdict on it
pub secured_by : (e : Terms) (index clock : ℕ) (ss : List Session) (j : Judged) (v : Verdict) (t : Taken) (ending : Ending) (later : Tally → Tally)
    (table : Table) (keys : TheRouteKeys) (replies : List Datagram) (old new : Ledger) → j.verdict ≡ v
    → IsTable e index clock table (heard_taken v ss t).sessions → replies ≡ map sent (answers_as v (heard_taken v ss t).answers)
    → AreKeys e keys j.keys → EndsAre e index (heard_ending v ending) clock ss (kept_of old) (kept_of new)
    → tally_of new ≡ verdict_tally v (heard_tally v (tally_of old) (later (tally_of old)))
    → IsSecured e index clock ss j t ending later table keys replies old new
secured_by e index clock ss j v t ending later table keys replies old new is table_is replies_are keys_are ends tally = record {
  table_is = subst (λ (x : Verdict). IsTable e index clock table (heard_taken x ss t).sessions) (sym is) table_is;
  replies_are = replies_are ∙ ap (λ (x : Verdict). map sent (answers_as x (heard_taken x ss t).answers)) (sym is);
  keys_are = keys_are;
  ends = subst (λ (x : Verdict). EndsAre e index (heard_ending x ending) clock ss (kept_of old) (kept_of new)) (sym is) ends;
  tally = tally ∙ ap (λ (x : Verdict). verdict_tally x (heard_tally x (tally_of old) (later (tally_of old)))) (sym is);
}

-- a packet that is a conclusion
pub judged_here : (e : Terms) (index clock : ℕ) (peer : Peer) (p : Packet) (bytes info : List ℕ) (c : Conclusion) (ss : List Session) (keys : RouteKeys)
    → p.dest ≡ 0 → p.body ≡ Handshake info → conclusion_in info ≡ Some c
    → packet_judged e index clock peer None p bytes ss keys ≡ info_judged e index clock peer info ss keys (Some c)
judged_here e index clock peer p bytes info c ss keys zero is reads = rw (zero, is, reads) refl

pub taken_here : (e : Terms) (index clock : ℕ) (peer : Peer) (p : Packet) (info : List ℕ) (c : Conclusion) (ss : List Session)
    → p.dest ≡ 0 → p.body ≡ Handshake info → conclusion_in info ≡ Some c
    → packet_taken e index clock peer p ss ≡ concluded e index clock peer p.stamp c ss (find (is_of peer c.caller) ss)
taken_here e index clock peer p info c ss zero is reads = rw (zero, is, reads) refl

pub counted_here : (e : Terms) (peer : Peer) (p : Packet) (info : List ℕ) (c : Conclusion) (ss : List Session) (t : Tally)
    → p.dest ≡ 0 → p.body ≡ Handshake info → conclusion_in info ≡ Some c → packet_tally e peer p ss t ≡ conclusion_tally e peer ss (Some c) t
counted_here e peer p info c ss t zero is reads = rw (zero, is, reads) refl

-- it ends no session, whatever the verdict is
pub none_end : (v : Verdict) (e : Terms) (index clock : ℕ) (peer : Peer) (p : Packet) (ss : List Session) (old new : Ledger) → p.dest ≡ 0
    → (new.ended ≡ old.ended) × (new.totals ≡ old.totals)
    → EndsAre e index (heard_ending v (destined_ending e index clock peer p ss)) clock ss (kept_of old) (kept_of new)
none_end Passes e index clock peer p ss old new zero stays =
    none_notified e index (destined_ending e index clock peer p ss) clock ss (kept_of old) (kept_of new)
    (λ at s found. rw (zero) refl) (λ at. ap (λ (xs : List (Option EndedSession)). get_or xs at None) stays.0) stays.1
none_end Ignored e index clock peer p ss old new zero stays =
    none_notified e index none_ends clock ss (kept_of old) (kept_of new) (λ at s found. refl)
    (λ at. ap (λ (xs : List (Option EndedSession)). get_or xs at None) stays.0) stays.1
none_end (Refused q d) e index clock peer p ss old new zero stays =
    none_notified e index none_ends clock ss (kept_of old) (kept_of new) (λ at s found. refl)
    (λ at. ap (λ (xs : List (Option EndedSession)). get_or xs at None) stays.0) stays.1
none_end (Answered answer) e index clock peer p ss old new zero stays =
    none_notified e index (destined_ending e index clock peer p ss) clock ss (kept_of old) (kept_of new)
    (λ at s found. rw (zero) refl) (λ at. ap (λ (xs : List (Option EndedSession)). get_or xs at None) stays.0) stays.1
none_end (Decrypted bytes) e index clock peer p ss old new zero stays =
    none_notified e index (destined_ending e index clock peer p ss) clock ss (kept_of old) (kept_of new)
    (λ at s found. rw (zero) refl) (λ at. ap (λ (xs : List (Option EndedSession)). get_or xs at None) stays.0) stays.1
none_end (Repeats request) e index clock peer p ss old new zero stays =
    none_notified e index (destined_ending e index clock peer p ss) clock ss (kept_of old) (kept_of new)
    (λ at s found. rw (zero) refl) (λ at. ap (λ (xs : List (Option EndedSession)). get_or xs at None) stays.0) stays.1

-- a conclusion whose answer stays as it was written
pub plain_secured : (e : Terms) (index : ℕ) (arrival : Arrival) (p : Packet) (bytes info : List ℕ) (c : Conclusion) (ss : List Session) (keys : RouteKeys)
    (verdict : TheVerdict) (table : Table) (stored : TheRouteKeys) (replies : List Datagram) (old new : Ledger)
    → p.dest ≡ 0 → p.body ≡ Handshake info → conclusion_in info ≡ Some c → arrival.stamp ≡ p.stamp
    → IsJudged e arrival.peer c verdict stored (info_judged e index arrival.clock arrival.peer info ss keys (Some c))
    → (let v = verdict_in arrival.peer c (λ slot. Clear) verdict in
    IsTaken e index arrival.clock table replies
    (taken_as v (heard_taken v ss
    (concluded e index arrival.clock arrival.peer arrival.stamp c ss (find (is_of arrival.peer c.caller) ss)))))
    → (new.ended ≡ old.ended) × (new.totals ≡ old.totals)
    → (let v = verdict_in arrival.peer c (λ slot. Clear) verdict in
    tally_of new ≡ verdict_tally v (heard_tally v (tally_of old) (conclusion_tally e arrival.peer ss (Some c) (tally_of old))))
    → IsPlain verdict
    → IsSecured e index arrival.clock ss (packet_judged e index arrival.clock arrival.peer None p bytes ss keys)
    (packet_taken e index arrival.clock arrival.peer p ss) (destined_ending e index arrival.clock arrival.peer p ss) (packet_tally e arrival.peer p ss)
    table stored replies old new
plain_secured e index arrival p bytes info c ss keys verdict table stored replies old new zero is reads stamp judged taken stays counts plain =
    let v = verdict_in arrival.peer c (λ slot. Clear) verdict in
    let clock = arrival.clock in
    let peer = arrival.peer in
    let here = judged_here e index clock peer p bytes info c ss keys zero is reads in
    let took : concluded e index clock peer arrival.stamp c ss (find (is_of peer c.caller) ss) ≡ packet_taken e index clock peer p ss =
    ap (λ (n : ℕ). concluded e index clock peer n c ss (find (is_of peer c.caller) ss)) stamp ∙ sym (taken_here e index clock peer p info c ss zero is reads) in
    secured_by e index clock ss (packet_judged e index clock peer None p bytes ss keys) v (packet_taken e index clock peer p ss)
    (destined_ending e index clock peer p ss) (packet_tally e peer p ss) table stored replies old new
    (ap (λ (j : Judged). j.verdict) here ∙ judged.verdict_is
    ∙ same_verdict peer c (info_judged e index clock peer info ss keys (Some c)).keys.held verdict plain)
    (subst (λ (t : Taken). IsTable e index clock table (heard_taken v ss t).sessions) took taken.table_is)
    (taken.replies_are ∙ ap (λ (t : Taken). map sent (answers_as v (heard_taken v ss t).answers)) took)
    (subst (λ (j : Judged). AreKeys e stored j.keys) (sym here) judged.keys_are)
    (none_end v e index clock peer p ss old new zero stays)
    (counts ∙ ap (λ (t : Tally). verdict_tally v (heard_tally v (tally_of old) t)) (sym (counted_here e peer p info c ss (tally_of old) zero is reads)))
  where
    same_verdict : (peer : Peer) (d : Conclusion) (held : ℕ → SlotKeys) (x : TheVerdict) → IsPlain x
        → verdict_in peer d held x ≡ verdict_in peer d (λ slot. Clear) x
    same_verdict peer d held code.Passes h = refl
    same_verdict peer d held code.Ignored h = refl
    same_verdict peer d held code.Refused h = refl
    same_verdict peer d held (code.Repeats slot) h = absurd h

-- one whose answer repeats the contents of a KMREQ block
pub repeat_secured : (e : Terms) (index : ℕ) (arrival : Arrival) (p : Packet) (bytes info : List ℕ) (c : Conclusion) (ss : List Session) (keys : RouteKeys)
    (slot : ℕ) (first table : Table) (stored : TheRouteKeys) (answered : Bool) (before after : TheReply) (old new : Ledger)
    → p.dest ≡ 0 → p.body ≡ Handshake info → conclusion_in info ≡ Some c → arrival.stamp ≡ p.stamp → has_secured_role e ≡ true
    → IsTable e index arrival.clock first ss → slot < length first.seats.items
    → IsJudged e arrival.peer c (code.Repeats slot) stored (info_judged e index arrival.clock arrival.peer info ss keys (Some c))
    → IsRepeated e arrival.peer c ss slot (find (is_of arrival.peer c.caller) ss)
    → IsTaken e index arrival.clock table (written_of (given answered before))
    (taken_as (Repeats None) (concluded e index arrival.clock arrival.peer arrival.stamp c ss (find (is_of arrival.peer c.caller) ss)))
    → (new.ended ≡ old.ended) × (new.totals ≡ old.totals)
    → tally_of new ≡ conclusion_tally e arrival.peer ss (Some c) (tally_of old)
    → RepeatsRequest table stored slot arrival.peer before after
    → IsSecured e index arrival.clock ss (packet_judged e index arrival.clock arrival.peer None p bytes ss keys)
    (packet_taken e index arrival.clock arrival.peer p ss) (destined_ending e index arrival.clock arrival.peer p ss) (packet_tally e arrival.peer p ss)
    table stored (written_of (given answered after)) old new
repeat_secured e index arrival p bytes info c ss keys slot first table stored answered before after old new zero is reads stamp secured first_is inside
    judged repeats taken stays counts again =
    let clock = arrival.clock in
    let peer = arrival.peer in
    let j = info_judged e index clock peer info ss keys (Some c) in
    let request = request_of (j.keys.held slot) in
    let here = judged_here e index clock peer p bytes info c ss keys zero is reads in
    let t = concluded e index clock peer arrival.stamp c ss (find (is_of peer c.caller) ss) in
    let took : t ≡ packet_taken e index clock peer p ss =
    ap (λ (n : ℕ). concluded e index clock peer n c ss (find (is_of peer c.caller) ss)) stamp ∙ sym (taken_here e index clock peer p info c ss zero is reads) in
    let answer = concluded_answer e index clock peer arrival.stamp c ss slot (find (is_of peer c.caller) ss) refl repeats in
    let s = answer.session in
    let a : Reply = record { peer = peer; packet = Answers s.conclusion.caller (answer_of e index s) } in
    secured_by e index clock ss (packet_judged e index clock peer None p bytes ss keys) (Repeats request) (packet_taken e index clock peer p ss)
    (destined_ending e index clock peer p ss) (packet_tally e peer p ss) table stored (written_of (given answered after)) old new
    (ap (λ (x : Judged). x.verdict) here ∙ judged.verdict_is)
    (subst (λ (x : Taken). IsTable e index clock table x.sessions) took taken.table_is)
    (repeated_replies request answered before after a t.answers answer.answers_are taken.replies_are
    (again e index clock t.sessions j.keys s taken.table_is judged.keys_are secured (omega (arith, inside, first_is.places_are)) answer.found)
    ∙ ap (λ (x : Taken). map sent (answers_as (Repeats request) x.answers)) took)
    (subst (λ (x : Judged). AreKeys e stored x.keys) (sym here) judged.keys_are)
    (none_end (Repeats request) e index clock peer p ss old new zero stays)
    (counts ∙ sym (counted_here e peer p info c ss (tally_of old) zero is reads))

-- an item that passes
pub passes_dispatched : (e : Terms) (index clock : ℕ) (ss : List Session) (item : Item) (j : Judged) (table : Table) (keys : TheRouteKeys)
    (before later : ReplyQueue) (old new : Ledger) → j.verdict ≡ Passes → IsTable e index clock table (taken e index clock item ss).sessions
    → Queues before later (map sent (taken e index clock item ss).answers) → AreKeys e keys j.keys
    → EndsAre e index (item_ending e index clock item ss) clock ss (kept_of old) (kept_of new)
    → tally_of new ≡ item_tally e item ss (tally_of old)
    → IsDispatched e index clock ss item j table keys before later old new
passes_dispatched e index clock ss item j table keys before later old new passes table_is said keys_are ends tally = record {
  table_is = subst (λ (v : Verdict). IsTable e index clock table (taken e index clock (heard_as v item) ss).sessions) (sym passes) table_is;
  said = subst (λ (v : Verdict). Queues before later (map sent (answers_as v (taken e index clock (heard_as v item) ss).answers))) (sym passes) said;
  keys_are = keys_are;
  ends = subst (λ (v : Verdict). EndsAre e index (item_ending e index clock (heard_as v item) ss) clock ss (kept_of old) (kept_of new)) (sym passes) ends;
  tally = tally ∙ ap (λ (v : Verdict). verdict_tally v (item_tally e (heard_as v item) ss (tally_of old))) (sym passes);
}

-- a datagram
heard_is : (v : Verdict) (e : Terms) (index clock : ℕ) (d : Datagram) (moment : ℕ) (ss : List Session)
    → heard_taken v ss (read_taken e index clock d.peer (packet_in (heard_bytes v d.bytes)) ss) ≡ taken e index clock (heard_as v (Received d moment)) ss
heard_is Passes e index clock d moment ss = refl
heard_is Ignored e index clock d moment ss = refl
heard_is (Refused peer c) e index clock d moment ss = refl
heard_is (Repeats request) e index clock d moment ss = refl
heard_is (Decrypted bytes) e index clock d moment ss = refl
heard_is (Answered answer) e index clock d moment ss = refl

ending_is : (v : Verdict) (e : Terms) (index clock : ℕ) (d : Datagram) (moment : ℕ) (ss : List Session)
    → heard_ending v (read_ending e index clock d.peer (packet_in (heard_bytes v d.bytes)) ss) ≡ item_ending e index clock (heard_as v (Received d moment)) ss
ending_is Passes e index clock d moment ss = refl
ending_is Ignored e index clock d moment ss = refl
ending_is (Refused peer c) e index clock d moment ss = refl
ending_is (Repeats request) e index clock d moment ss = refl
ending_is (Decrypted bytes) e index clock d moment ss = refl
ending_is (Answered answer) e index clock d moment ss = refl

tally_is : (v : Verdict) (e : Terms) (d : Datagram) (moment : ℕ) (ss : List Session) (t : Tally)
    → heard_tally v t (read_tally e d.peer (packet_in (heard_bytes v d.bytes)) ss t) ≡ item_tally e (heard_as v (Received d moment)) ss t
tally_is Passes e d moment ss t = refl
tally_is Ignored e d moment ss t = refl
tally_is (Refused peer c) e d moment ss t = refl
tally_is (Repeats request) e d moment ss t = refl
tally_is (Decrypted bytes) e d moment ss t = refl
tally_is (Answered answer) e d moment ss t = refl

pub datagram_dispatched : (e : Terms) (index clock : ℕ) (ss : List Session) (d : Datagram) (moment : ℕ) (j : Judged) (table : Table)
    (keys : TheRouteKeys) (before later : ReplyQueue) (replies : List Datagram) (old new : Ledger)
    → IsHeard e index clock d.peer d.bytes ss j table keys replies old new
    → Queues before later replies
    → IsDispatched e index clock ss (Received d moment) j table keys before later old new
datagram_dispatched e index clock ss d moment j table keys before later replies old new h queued =
    let v = j.verdict in
    let same = heard_is v e index clock d moment ss in
    record {
      table_is = subst (λ (t : Taken). IsTable e index clock table t.sessions) same h.table_is;
      said = same_said (h.replies_are ∙ ap (λ (t : Taken). map sent (answers_as v t.answers)) same) queued;
      keys_are = h.keys_are;
      ends = subst (λ (x : Ending). EndsAre e index x clock ss (kept_of old) (kept_of new)) (ending_is v e index clock d moment ss) h.ends;
      tally = h.tally ∙ ap (λ (t : Tally). verdict_tally v t) (tally_is v e d moment ss (tally_of old));
    }

-- the slot of a session that is found there
pub slot_is : (at : ℕ) (ss : List Session) (s : Session) → find (is_open_in at) ss ≡ Some s → s.slot ≡ at
slot_is at ss s found = (open_parts at s (found_passes (is_open_in at) ss s found)).1

-- the session of a caller that has one
pub caller_found : (e : Terms) (index clock : ℕ) (table : Table) (ss : List Session) (peer : Peer) (caller at : ℕ)
    → IsTable e index clock table ss → position (holds peer caller) table.seats.items ≡ Some at
    → (s : Session) × (find (is_open_in at) ss ≡ Some s) × (find (is_of peer caller) ss ≡ Some s) × (at < length table.seats.items)
caller_found e index clock table ss peer caller at are first =
    let d = some_found (holds peer caller) table.seats.items at first in
    let inside = (position-Some (holds peer caller) table.seats.items at d first).0 in
    let x = get_or table.seats.items at d in
    let it = caller_at e index clock table ss peer caller at x are first (get_or_default table.seats.items at d x inside) in
    (it.1, it.3, it.6, inside)

-- a conclusion for a role that is secured, and for one that isn't
pub some_passphrase : (p : Option (List ℕ)) (Is : Option (List ℕ) → Type 0) → is_some p ≡ true → ((x : List ℕ) → p ≡ Some x → Is (Some x)) → Is p
some_passphrase None Is secured h = absurd (let bad : false ≡ true = secured in cc)
some_passphrase (Some x) Is secured h = h x refl

pub no_passphrase : (p : Option (List ℕ)) → is_some p ≡ false → p ≡ None
no_passphrase None clear = refl
no_passphrase (Some x) clear = absurd (let bad : true ≡ false = clear in cc)

-- the keys of a slot without a session
pub none_stored : (o : Option TheSession) (k : SlotKeys) → is_none o ≡ true → Clear ≡ kept_stored o k
none_stored None k is = refl
none_stored (Some t) k is = absurd (let bad : false ≡ true = is in cc)

pub some_stored : (o : Option TheSession) (k : SlotKeys) → is_some o ≡ true → k ≡ kept_stored o k
some_stored None k is = absurd (let bad : false ≡ true = is in cc)
some_stored (Some t) k is = refl

-- a stored session is the open one of its slot
pub stored_is : (e : Terms) (index slot : ℕ) (o : Option TheSession) (ss : List Session) (t : TheSession) (s : Session)
    → IsStored e index o (find (is_open_in slot) ss) → o ≡ Some t → find (is_open_in slot) ss ≡ Some s → IsSession e index t s
stored_is e index slot o ss t s is there found =
    subst (λ (f : Option Session). IsStored e index (Some t) f) found
    (subst (λ (x : Option TheSession). IsStored e index x (find (is_open_in slot) ss)) there is)

pub none_is_stored : (e : Terms) (index slot : ℕ) (o : Option TheSession) (ss : List Session) (s : Session)
    → IsStored e index o (find (is_open_in slot) ss) → o ≡ None → find (is_open_in slot) ss ≡ Some s → ⊥
none_is_stored e index slot o ss s is none found =
    subst (λ (f : Option Session). IsStored e index None f) found
    (subst (λ (x : Option TheSession). IsStored e index x (find (is_open_in slot) ss)) none is)

pub answer_is : (e : Terms) (index : ℕ) (t : TheSession) (s : Session) → IsSession e index t s
    → Answers t.caller t.answer ≡ Answers s.conclusion.caller (answer_of e index s)
answer_is e index t s is = ap (λ (n : ℕ). Answers n t.answer) is.caller_is ∙ ap (λ (a : HsAnswer). Answers s.conclusion.caller a) is.answer_is

-- a packet that is processed with its own bytes
pub heard_plainly : (e : Terms) (index clock : ℕ) (peer : Peer) (p : Packet) (bytes : List ℕ) (ss : List Session) (j : Judged) (table : Table)
    (stored : TheRouteKeys) (replies : List Datagram) (old new : Ledger) → packet_in bytes ≡ Ok p → heard_bytes j.verdict bytes ≡ bytes
    → IsSecured e index clock ss j (packet_taken e index clock peer p ss) (destined_ending e index clock peer p ss) (packet_tally e peer p ss) table stored
    replies old new
    → IsHeard e index clock peer bytes ss j table stored replies old new
heard_plainly e index clock peer p bytes ss j table stored replies old new reads same secured =
    subst
    (λ (r : Result Packet PacketFault). IsSecured e index clock ss j (read_taken e index clock peer r ss) (read_ending e index clock peer r ss)
    (read_tally e peer r ss) table stored replies old new)
    (sym (ap packet_in same ∙ reads)) secured

-- a packet about which keys change nothing
pub passes_packet : (e : Terms) (index clock : ℕ) (peer : Peer) (p : Packet) (bytes : List ℕ) (ss : List Session) (keys : RouteKeys)
    (stored : TheRouteKeys) (table : Table) (replies : List Datagram) (old new : Ledger) → packet_in bytes ≡ Ok p
    → packet_judged e index clock peer None p bytes ss keys ≡ as_before keys
    → AreKeys e stored keys → IsTable e index clock table (packet_taken e index clock peer p ss).sessions
    → replies ≡ map sent (packet_taken e index clock peer p ss).answers
    → EndsAre e index (destined_ending e index clock peer p ss) clock ss (kept_of old) (kept_of new)
    → tally_of new ≡ packet_tally e peer p ss (tally_of old)
    → IsHeard e index clock peer bytes ss (packet_judged e index clock peer None p bytes ss keys) table stored replies old new
passes_packet e index clock peer p bytes ss keys stored table replies old new reads is are table_is replies_are ends tally =
    heard_plainly e index clock peer p bytes ss (packet_judged e index clock peer None p bytes ss keys) table stored replies old new reads
    (ap (λ (j : Judged). heard_bytes j.verdict bytes) is)
    (secured_by e index clock ss (packet_judged e index clock peer None p bytes ss keys) Passes (packet_taken e index clock peer p ss)
    (destined_ending e index clock peer p ss) (packet_tally e peer p ss) table stored replies old new (ap (λ (j : Judged). j.verdict) is)
    table_is replies_are (subst (λ (j : Judged). AreKeys e stored j.keys) (sym is) are) ends tally)

-- one for no session, and one for a session
pub for_session : (e : Terms) (index clock : ℕ) (peer : Peer) (request : Option (List ℕ)) (p : Packet) (bytes : List ℕ) (ss : List Session) (keys : RouteKeys)
    (o : Option Session) → p.dest ≢ 0 → find (is_for index peer p.dest) ss ≡ o
    → packet_judged e index clock peer request p bytes ss keys ≡ session_judged request clock p bytes keys o
for_session e index clock peer request p bytes ss keys o other found =
    ap (λ (b : Bool). cond b (info_judged e index clock peer (info_of p.body) ss keys (concludes p.body))
    (session_judged request clock p bytes keys (find (is_for index peer p.dest) ss)))
    (sym (has_destination p other))
    ∙ ap (session_judged request clock p bytes keys) found

pub none_passes : (e : Terms) (index clock : ℕ) (peer : Peer) (p : Packet) (bytes : List ℕ) (ss : List Session) (keys : RouteKeys) → p.dest ≢ 0
    → AreAlone e.sessions ss → IsForNone index peer p.dest e.sessions ss → packet_judged e index clock peer None p bytes ss keys ≡ as_before keys
none_passes e index clock peer p bytes ss keys other alone none =
    for_session e index clock peer None p bytes ss keys None other
    (none_found_for index peer p.dest e.sessions ss alone none (find (is_for index peer p.dest) ss) refl)

pub session_heard : (e : Terms) (index clock : ℕ) (peer : Peer) (p clear : Packet) (bytes : List ℕ) (ss : List Session) (keys : RouteKeys) (s : Session)
    (stored : TheRouteKeys) (table : Table) (replies : List Datagram) (old new : Ledger) → packet_in bytes ≡ Ok p → p.dest ≢ 0
    → find (is_for index peer p.dest) ss ≡ Some s → clear ≡ in_clear (keys.held s.slot) p
    → AreKeys e stored keys → IsTable e index clock table (packet_taken e index clock peer clear ss).sessions
    → replies ≡ map sent (packet_taken e index clock peer clear ss).answers
    → EndsAre e index (destined_ending e index clock peer clear ss) clock ss (kept_of old) (kept_of new)
    → tally_of new ≡ packet_tally e peer clear ss (tally_of old)
    → IsHeard e index clock peer bytes ss (packet_judged e index clock peer None p bytes ss keys) table stored replies old new
session_heard e index clock peer p clear bytes ss keys s stored table replies old new reads other found clear_is are table_is replies_are ends tally =
    let other_bytes = clear_bytes (keys.held s.slot) p bytes in
    let j : Judged = record { verdict = Decrypted other_bytes; keys = keys } in
    let read : Ok clear ≡ packet_in other_bytes = ap Ok clear_is ∙ sym (clear_read (keys.held s.slot) p bytes reads) in
    subst (λ (x : Judged). IsHeard e index clock peer bytes ss x table stored replies old new)
    (sym (for_session e index clock peer None p bytes ss keys (Some s) other found))
    (subst
    (λ (r : Result Packet PacketFault). IsSecured e index clock ss j (read_taken e index clock peer r ss) (read_ending e index clock peer r ss)
    (read_tally e peer r ss) table stored replies old new)
    read
    (record { table_is = table_is; replies_are = replies_are; keys_are = are; ends = ends; tally = tally }))

-- a conclusion
plain_bytes : (peer : Peer) (c : Conclusion) (held : ℕ → SlotKeys) (v : TheVerdict) (bytes : List ℕ) → heard_bytes (verdict_in peer c held v) bytes ≡ bytes
plain_bytes peer c held code.Passes bytes = refl
plain_bytes peer c held code.Ignored bytes = refl
plain_bytes peer c held code.Refused bytes = refl
plain_bytes peer c held (code.Repeats slot) bytes = refl

pub conclusion_heard : (e : Terms) (index : ℕ) (arrival : Arrival) (p : Packet) (bytes info : List ℕ) (c : Conclusion) (ss : List Session)
    (keys : RouteKeys) (verdict : TheVerdict) (table : Table) (stored : TheRouteKeys) (replies : List Datagram) (old new : Ledger)
    → packet_in bytes ≡ Ok p → p.dest ≡ 0 → p.body ≡ Handshake info → conclusion_in info ≡ Some c
    → IsJudged e arrival.peer c verdict stored (info_judged e index arrival.clock arrival.peer info ss keys (Some c))
    → IsSecured e index arrival.clock ss (packet_judged e index arrival.clock arrival.peer None p bytes ss keys)
    (packet_taken e index arrival.clock arrival.peer p ss) (destined_ending e index arrival.clock arrival.peer p ss) (packet_tally e arrival.peer p ss)
    table stored replies old new
    → IsHeard e index arrival.clock arrival.peer bytes ss (packet_judged e index arrival.clock arrival.peer None p bytes ss keys) table stored replies old new
conclusion_heard e index arrival p bytes info c ss keys verdict table stored replies old new here zero is reads judged secured =
    heard_plainly e index arrival.clock arrival.peer p bytes ss (packet_judged e index arrival.clock arrival.peer None p bytes ss keys) table stored replies
    old new here
    (ap (λ (j : Judged). heard_bytes j.verdict bytes) (judged_here e index arrival.clock arrival.peer p bytes info c ss keys zero is reads)
    ∙ ap (λ (v : Verdict). heard_bytes v bytes) judged.verdict_is
    ∙ plain_bytes arrival.peer c (info_judged e index arrival.clock arrival.peer info ss keys (Some c)).keys.held verdict bytes)
    secured

-- one without a destination that is no conclusion
pub ignored_packet : (e : Terms) (index clock : ℕ) (peer : Peer) (p : Packet) (bytes : List ℕ) (ss : List Session) (keys : RouteKeys)
    (stored : TheRouteKeys) (table : Table) (ledger : Ledger) → packet_in bytes ≡ Ok p → p.dest ≡ 0 → concludes p.body ≡ None
    → IsTable e index clock table ss → AreKeys e stored keys
    → IsHeard e index clock peer bytes ss (packet_judged e index clock peer None p bytes ss keys) table stored [] ledger ledger
ignored_packet e index clock peer p bytes ss keys stored table ledger reads zero none is are =
    passes_packet e index clock peer p bytes ss keys stored table [] ledger ledger reads (rw (zero, none) refl) are (rw (zero, none) is)
    (rw (zero, none) refl) (none_end Passes e index clock peer p ss ledger ledger zero (refl, refl)) (rw (zero, none) refl)

-- the keys of the open sessions, on a route with a secured role
pub secured_judged : (e : Terms) (index clock : ℕ) (item : Item) (ss : List Session) (keys : RouteKeys) → has_secured_role e ≡ true
    → item_judged e index clock item ss (keys_confirmed index item ss (keys_kept ss keys)) ≡ judged e index clock item ss keys
secured_judged e index clock item ss keys secured = ap (λ (b : Bool). judged_if b e index clock item ss keys) (sym secured)

pub clear_judgement : (e : Terms) (index clock : ℕ) (item : Item) (ss : List Session) (keys : RouteKeys) → has_secured_role e ≡ false
    → as_before keys ≡ judged e index clock item ss keys
clear_judgement e index clock item ss keys clear = ap (λ (b : Bool). judged_if b e index clock item ss keys) (sym clear)

-- a verdict of which no answer is repeated
pub plain_is : (v : TheVerdict) → ((slot : ℕ) → v ≡ code.Repeats slot → ⊥) → IsPlain v
plain_is code.Passes other = tt
plain_is code.Ignored other = tt
plain_is code.Refused other = tt
plain_is (code.Repeats slot) other = other slot refl
