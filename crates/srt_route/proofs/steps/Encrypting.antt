-- The packets of a subscriber's session with keys.
use Rattle.std.proofs.Common.{◌≡◌, ℕ, ◌+◌, ◌-◌, ◌^◌, ◌<◌, ◌≤◌, Bool, true, false, cond, Option, None, Some}
use Rattle.std.proofs.Common.{List, [], ◌∷◌, ◌++◌, length, map, refl, sym, ap, subst, ◌∙◌, append_assoc, arith}
use Rattle.std.specs.Prelude.{◌%◌, IfSome}
use Rattle.std.specs.Option.{is_some}
use Rattle.std.proofs.lemmas.Bool.Decides.{nat_tests}
use Rattle.std.proofs.lemmas.List.{map-append}
use Rattle.srt_types.specs.Capped.{capped}
use Rattle.srt_packet.specs.declared.encoded.EncodedPacket.{EncodedPacket}
use Rattle.srt_packet.specs.Encoded.{bytes_of}
use Rattle.srt_packet.specs.KeyPacket.{key_packet_text}
use Rattle.srt_packet.specs.declared.key_packet.KeyPacketKind.TheVariants.{Request}
use Rattle.srt_sub.specs.Says as subscriber_text
use Rattle.srt_sub.specs.Stands as subscribers
use Rattle.srt_sub.specs.Subscribing as subscribing
use Rattle.srt_sub.specs.Subscribing.{Report, Acked, Dropped, Media, KeepAlive, Subscribing, flow_window, reported, reports}
use Rattle.srt_sub.specs.Held.{held, released}
use Rattle.srt_sub.specs.Emission.{Emitting, IsNext}
use Rattle.srt_sub.specs.Payloads.{emitted_as}
use Rattle.srt_sub.specs.declared.payloads.Emitted.{Emitted}
use Rattle.srt_sub.specs.declared.payloads.Emitted.TheVariants as emitted
use Rattle.srt_sub.specs.declared.session.Subscriber.{Subscriber}
use Rattle.srt_sub.proofs.Sound.{begins}
use Rattle.srt_session_keys.specs.Source.{own_message}
use Rattle.srt_session_keys.specs.Subscriber.{Subscriber as Keys, has_key, is_due, with_announcement}
use Rattle.srt_route.specs.declared.encrypted_transmit.KeyReceiver.{KeyReceiver}
use Rattle.srt_route.specs.declared.replies.Reply.{Reply}
use Rattle.srt_route.specs.declared.reply_queue.ReplyQueue.{ReplyQueue}
use Rattle.srt_route.specs.Waits.{places_of, replies_of}
use Rattle.srt_route.specs.Buffers.{datagrams_to}
use Rattle.srt_route.specs.EncryptedOutput.{KeyedOutput, PacketKey, keyed_text}
use Rattle.srt_route.specs.EncryptedOutput.{all_said_with, announced_if, announcement_if, has_few, keys_with, outputs_if, payload_key, reported_if}
use Rattle.srt_route.specs.EncryptedOutput.{is_announced, keys_reported, payloads_confirmed, said_under_if, said_with}
use Rattle.srt_route.specs.inside.Encrypting.{IsAnnouncedWith, QueuesAll}
use Rattle.srt_route.specs.inside.Encrypting.{IsEmittedWith, IsMade, IsReportedWith, emitted_texts, encrypted_if, pending_after, texts_before}
use Rattle.srt_route.specs.inside.Reports.{AreSaid}
use Rattle.srt_sub.proofs.Counted.{sends_at_most_66}
use Rattle.srt_route.proofs.steps.Saying.{nothing_said, said_then, same_said, some_same}

-- the bytes of a packet are those of what is said
under : (b : Bool) (key : PacketKey) (caller initial time : ℕ) (r : Report)
    → encrypted_if b key (subscriber_text.says caller initial time r) ≡ map keyed_text (said_under_if b key caller initial time r)
under true key caller initial time r = refl
under false key caller initial time r = refl

texts_are : (keys : Keys) (caller initial time : ℕ) (kind : Emitted) (r : Report) → Some kind ≡ emitted_as r
    → emitted_texts keys kind (subscriber_text.says caller initial time r) ≡ map keyed_text (said_with keys caller initial time r)
texts_are keys caller initial time kind (Acked mark) told = absurd (let bad : Some kind ≡ None = told in cc)
texts_are keys caller initial time kind (Dropped run) told =
    subst
    (λ (k : Emitted). emitted_texts keys k (subscriber_text.says caller initial time (Dropped run))
    ≡ map keyed_text (said_with keys caller initial time (Dropped run)))
    (sym (some_same kind emitted.DropRequest told)) refl
texts_are keys caller initial time kind (Media number again origin payload) told =
    subst
    (λ (k : Emitted). emitted_texts keys k (subscriber_text.says caller initial time (Media number again origin payload))
    ≡ map keyed_text (said_with keys caller initial time (Media number again origin payload)))
    (sym (some_same kind (emitted.Data number) told))
    (under (has_key keys number) (payload_key keys number) caller initial time (Media number again origin payload))
texts_are keys caller initial time kind KeepAlive told =
    subst
    (λ (k : Emitted). emitted_texts keys k (subscriber_text.says caller initial time KeepAlive)
    ≡ map keyed_text (said_with keys caller initial time KeepAlive))
    (sym (some_same kind emitted.KeepAlive told)) refl

-- what is said before a packet
abbrev outputs_before : Emitted → (pending : List KeyedOutput) → List KeyedOutput
outputs_before emitted.DropRequest pending = []
outputs_before (emitted.Data payload) pending = pending
outputs_before emitted.KeepAlive pending = pending

before_are : (kind : Emitted) (pending : List KeyedOutput) → texts_before kind (map keyed_text pending) ≡ map keyed_text (outputs_before kind pending)
before_are emitted.DropRequest pending = refl
before_are (emitted.Data payload) pending = refl
before_are emitted.KeepAlive pending = refl

-- the first packet, and the others
abbrev first_is : (to : KeyReceiver) (keys : Keys) (caller initial time : ℕ) (pending : Bool) (rs : List Report) (r : Report) (kind : Emitted) → Type 0
first_is to keys caller initial time pending rs r kind =
    all_said_with keys caller initial time (announcement_if pending keys to.caller to.time) (r ∷ rs)
    ≡ (outputs_before kind (announcement_if pending keys to.caller to.time) ++ said_with keys caller initial time r)
    ++ all_said_with keys caller initial time (announcement_if (pending_after kind pending) keys to.caller to.time) rs

first : (to : KeyReceiver) (keys : Keys) (caller initial time : ℕ) (pending : Bool) (kind : Emitted) (r : Report) (rs : List Report)
    → Some kind ≡ emitted_as r → first_is to keys caller initial time pending rs r kind
first to keys caller initial time pending kind (Acked mark) rs told = absurd (let bad : Some kind ≡ None = told in cc)
first to keys caller initial time pending kind (Dropped run) rs told =
    subst (λ (k : Emitted). first_is to keys caller initial time pending rs (Dropped run) k) (sym (some_same kind emitted.DropRequest told)) refl
first to keys caller initial time pending kind (Media number again origin payload) rs told =
    subst (λ (k : Emitted). first_is to keys caller initial time pending rs (Media number again origin payload) k)
    (sym (some_same kind (emitted.Data number) told)) refl
first to keys caller initial time pending kind KeepAlive rs told =
    subst (λ (k : Emitted). first_is to keys caller initial time pending rs KeepAlive k) (sym (some_same kind emitted.KeepAlive told)) refl

-- a packet of which the KMREQ is queued, and one of a payload
some_then : {A : Type 0} (o : Option A) (P : Type 0) → is_some o ≡ true → IfSome o (λ a. P) → P
some_then None P e h = absurd (let bad : false ≡ true = e in cc)
some_then (Some a) P e h = h

pub announcement_said : (keys : Keys) (pending : Bool) (to : KeyReceiver) (before after : List Reply) (places more : ℕ) (bytes info : List ℕ)
    → AreSaid before after places more (datagrams_to to.peer (bytes ∷ []))
    → pending ≡ true → IsMade pending keys → IfSome keys.announced (λ a. info ≡ own_message keys.source keys.confirmed)
    → bytes ≡ key_packet_text (record { stamp = to.time % 2 ^ 32; dest = to.caller; kind = Request; info = info })
    → AreSaid before after places more (datagrams_to to.peer (map keyed_text (announcement_if pending keys to.caller to.time)))
announcement_said keys true to before after places more bytes info said is made has text_is =
    let contents : info ≡ own_message keys.source keys.confirmed =
    some_then keys.announced (info ≡ own_message keys.source keys.confirmed) (made refl) has in
    same_said
    (ap (λ (bs : List ℕ). datagrams_to to.peer (bs ∷ []))
    (text_is
    ∙ ap (λ (i : List ℕ). key_packet_text (record { stamp = to.time % 2 ^ 32; dest = to.caller; kind = Request; info = i })) contents))
    said
announcement_said keys false to before after places more bytes info said is made has text_is = absurd (let bad : false ≡ true = is in cc)

pub data_said : (keys : Keys) (pending : Bool) (to : KeyReceiver) (kind : Emitted) (payload : ℕ) (bytes : List ℕ) (a b c : List Reply) (p q r : ℕ)
    → kind ≡ emitted.Data payload → AreSaid a b p q (datagrams_to to.peer (map keyed_text (announcement_if pending keys to.caller to.time)))
    → AreSaid b c q r (datagrams_to to.peer (encrypted_if (has_key keys payload) (payload_key keys payload) bytes))
    → AreSaid a c p r
    (datagrams_to to.peer
    (texts_before kind (map keyed_text (announcement_if pending keys to.caller to.time)) ++ emitted_texts keys kind bytes))
data_said keys pending to kind payload bytes a b c p q r is h k =
    let first = map keyed_text (announcement_if pending keys to.caller to.time) in
    let last = encrypted_if (has_key keys payload) (payload_key keys payload) bytes in
    subst (λ (x : Emitted). AreSaid a c p r (datagrams_to to.peer (texts_before x first ++ emitted_texts keys x bytes))) (sym is)
    (same_said (sym (map-append (λ (bytes : List ℕ). record { peer = to.peer; bytes = bytes }) first last))
    (said_then a b c p q r (datagrams_to to.peer first) (datagrams_to to.peer last) h k))

-- a KMREQ that is pending after a packet was pending before
still_made : (kind : Emitted) (pending : Bool) (keys : Keys) → IsMade pending keys → IsMade (pending_after kind pending) keys
still_made emitted.DropRequest pending keys h = h
still_made (emitted.Data payload) pending keys h = λ e. absurd (let bad : false ≡ true = e in cc)
still_made emitted.KeepAlive pending keys h = λ e. absurd (let bad : false ≡ true = e in cc)

-- `turn` packets of a subscriber were written, and these remain
pub record IsEncrypting (to : KeyReceiver) (first pending : Bool) (keys : Keys) (terms : subscribing.Terms) (initial opening caller : ℕ) (x : Subscriber)
    (m : subscribing.Subscribing) (before now : List Reply) (places more turn : ℕ) : Type 0 where
  pub gone : List KeyedOutput
  pub left : List Report
  pub emitting : Emitting terms initial opening caller to.clock to.recent x m left
  pub whole : gone ++ all_said_with keys caller initial (to.clock - opening) (announcement_if pending keys to.caller to.time) left
      ≡ all_said_with keys caller initial (to.clock - opening) (announcement_if first keys to.caller to.time)
      (subscribing.reports terms (to.clock - opening) to.recent m)
  pub count : length left + turn ≡ length (subscribing.reports terms (to.clock - opening) to.recent m)
  pub made : IsMade pending keys
  pub said : AreSaid before now places more (datagrams_to to.peer (map keyed_text gone))

pub encrypting_begins : (to : KeyReceiver) (pending : Bool) (keys : Keys) (terms : subscribing.Terms) (initial opening caller : ℕ) (x : Subscriber)
    (m : subscribing.Subscribing) (waiting : List Reply) (places : ℕ)
    → subscribers.StandsFor terms initial opening caller to.clock x m → subscribing.expired terms (to.clock - opening) m ≡ m → IsMade pending keys
    → IsEncrypting to pending pending keys terms initial opening caller x m waiting waiting places places 0
encrypting_begins to pending keys terms initial opening caller x m waiting places stands fresh made =
    record {
      gone = [];
      left = subscribing.reports terms (to.clock - opening) to.recent m;
      emitting = subst
          (λ (k : subscribing.Subscribing). Emitting terms initial opening caller to.clock to.recent x m
          (subscribing.reports terms (to.clock - opening) to.recent k))
          fresh
          (begins terms initial opening caller to.clock to.clock to.recent x m stands (omega arith));
      whole = refl;
      count = omega arith;
      made = made;
      said = nothing_said waiting places;
    }

pub encrypting_more : (to : KeyReceiver) (first_pending pending : Bool) (keys : Keys) (terms : subscribing.Terms) (initial opening caller : ℕ)
    (x y : Subscriber) (m : subscribing.Subscribing) (before now then_ : List Reply) (places more most turn : ℕ) (kind : Emitted) (packet : EncodedPacket)
    (h : IsEncrypting to first_pending pending keys terms initial opening caller x m before now places more turn)
    (next : IsNext terms initial opening caller to.clock to.recent packet y m h.left)
    → Some kind ≡ emitted_as next.report
    → AreSaid now then_ more most
    (datagrams_to to.peer
    (texts_before kind (map keyed_text (announcement_if pending keys to.caller to.time)) ++ emitted_texts keys kind (bytes_of packet)))
    → IsEncrypting to first_pending (pending_after kind pending) keys terms initial opening caller y m before then_ places most (turn + 1)
encrypting_more to first_pending pending keys terms initial opening caller x y m before now then_ places more most turn kind packet h next told one =
    let time = to.clock - opening in
    let r = next.report in
    let added : List KeyedOutput = outputs_before kind (announcement_if pending keys to.caller to.time) ++ said_with keys caller initial time r in
    let rest : List KeyedOutput =
    all_said_with keys caller initial time (announcement_if (pending_after kind pending) keys to.caller to.time) next.rest in
    let texts : texts_before kind (map keyed_text (announcement_if pending keys to.caller to.time)) ++ emitted_texts keys kind (bytes_of packet)
    ≡ map keyed_text added =
    ap (λ (bytes : List ℕ). texts_before kind (map keyed_text (announcement_if pending keys to.caller to.time)) ++ emitted_texts keys kind bytes)
    next.text_is
    ∙ ap (λ (ts : List (List ℕ)). texts_before kind (map keyed_text (announcement_if pending keys to.caller to.time)) ++ ts)
    (texts_are keys caller initial time kind r told)
    ∙ ap (λ (ts : List (List ℕ)). ts ++ map keyed_text (said_with keys caller initial time r))
    (before_are kind (announcement_if pending keys to.caller to.time))
    ∙ sym (map-append keyed_text (outputs_before kind (announcement_if pending keys to.caller to.time)) (said_with keys caller initial time r)) in
    record {
      gone = h.gone ++ added;
      left = next.rest;
      emitting = next.goes_on;
      whole = append_assoc h.gone added rest
          ∙ (ap (λ (os : List KeyedOutput). h.gone ++ os)
          (sym (ap (all_said_with keys caller initial time (announcement_if pending keys to.caller to.time)) next.left_is
          ∙ first to keys caller initial time pending kind r next.rest told))
          ∙ h.whole);
      count = omega (arith, h.count, ap length next.left_is);
      made = still_made kind pending keys h.made;
      said = same_said
          (sym (map-append (λ (bytes : List ℕ). record { peer = to.peer; bytes = bytes }) (map keyed_text h.gone) (map keyed_text added))
          ∙ ap (datagrams_to to.peer) (sym (map-append keyed_text h.gone added)))
          (said_then before now then_ places more most (datagrams_to to.peer (map keyed_text h.gone)) (datagrams_to to.peer (map keyed_text added)) h.said
          (same_said (ap (datagrams_to to.peer) texts) one));
    }

pub encrypting_ends : (to : KeyReceiver) (first_pending pending : Bool) (keys : Keys) (terms : subscribing.Terms) (initial opening caller : ℕ)
    (x : Subscriber) (m : subscribing.Subscribing) (before now then_ : List Reply) (places more most turn : ℕ)
    (h : IsEncrypting to first_pending pending keys terms initial opening caller x m before now places more turn)
    → h.left ≡ []
    → AreSaid now then_ more most (datagrams_to to.peer (map keyed_text (announcement_if pending keys to.caller to.time)))
    → AreSaid before then_ places most
    (datagrams_to to.peer
    (map keyed_text
    (all_said_with keys caller initial (to.clock - opening) (announcement_if first_pending keys to.caller to.time)
    (subscribing.reports terms (to.clock - opening) to.recent m))))
encrypting_ends to first_pending pending keys terms initial opening caller x m before now then_ places more most turn h none last =
    let time = to.clock - opening in
    let pendings = announcement_if pending keys to.caller to.time in
    same_said
    (sym (map-append (λ (bytes : List ℕ). record { peer = to.peer; bytes = bytes }) (map keyed_text h.gone) (map keyed_text pendings))
    ∙ (ap (datagrams_to to.peer) (sym (map-append keyed_text h.gone pendings))
    ∙ ap (λ (os : List KeyedOutput). datagrams_to to.peer (map keyed_text os))
    (ap (λ (rs : List Report). h.gone ++ all_said_with keys caller initial time pendings rs) (sym none) ∙ h.whole)))
    (said_then before now then_ places more most (datagrams_to to.peer (map keyed_text h.gone)) (datagrams_to to.peer (map keyed_text pendings)) h.said
    last)

pub never_so_many_under : (to : KeyReceiver) (first_pending pending : Bool) (keys : Keys) (terms : subscribing.Terms) (initial opening caller : ℕ)
    (x : Subscriber) (m : subscribing.Subscribing) (before now : List Reply) (places more turn : ℕ)
    → IsEncrypting to first_pending pending keys terms initial opening caller x m before now places more turn → 66 ≤ turn
    → ⊥
never_so_many_under to first_pending pending keys terms initial opening caller x m before now places more turn h many =
    absurd (omega (arith, h.count, sends_at_most_66.reports terms (to.clock - opening) to.recent m, many))

-- a session with too many payloads sends nothing
pub sends_nothing : (to : KeyReceiver) (keys : Keys) (terms : subscribing.Terms) (initial opening : ℕ) (x : Subscriber) (m : subscribing.Subscribing)
    (queue : ReplyQueue) (queued : ℕ)
    → queued ≡ capped (length m.sending.queue) → 2 ^ 61 ≤ queued → subscribers.StandsFor terms initial opening to.caller to.clock x m
    → IsReportedWith to keys keys x queue queue terms initial opening to.caller m
sends_nothing to keys terms initial opening x m queue queued count many stands =
    let few : has_few m ≡ false = grind (arith, nat_tests, count, many) in
    record {
      keys_are = ap (λ (b : Bool). keys_with (announced_if b keys to.time m) to.time keys) (sym few);
      stands = subst (λ (b : Bool). subscribers.StandsFor terms initial opening to.caller to.clock x (reported_if b keys terms to.time to.recent m)) (sym few)
          stands;
      said = same_said
          (ap (λ (b : Bool). datagrams_to to.peer
          (map keyed_text
          (outputs_if b (is_announced keys to.time m) (keys_reported to.time m keys) terms to.caller initial to.time to.recent m)))
          (sym few))
          (nothing_said (replies_of queue) (places_of queue));
    }

-- what was announced is made
pub made_with_it : (announced : Bool) (clock : ℕ) (keys : Keys) → IsMade announced (keys_with announced clock keys)
made_with_it true clock keys = λ e. refl
made_with_it false clock keys = λ e. absurd (let bad : false ≡ true = e in cc)

pub keys_by : (announced : Bool) (clock : ℕ) (keys : Keys) → cond announced (with_announcement clock keys) keys ≡ keys_with announced clock keys
keys_by true clock keys = refl
keys_by false clock keys = refl

bound_stays : (announced : Bool) (time : ℕ) (keys : Keys) → payloads_confirmed (keys_with announced time keys) ≡ payloads_confirmed keys
bound_stays true time keys = refl
bound_stays false time keys = refl

pub sends_encrypted : (to : KeyReceiver) (earlier later : Keys) (terms : subscribing.Terms) (initial opening : ℕ) (x y : Subscriber)
    (m : subscribing.Subscribing) (before after : ReplyQueue) (queued window : ℕ) (announced : Bool)
    → queued ≡ capped (length m.sending.queue) → queued < 2 ^ 61 → announced ≡ is_due earlier queued to.time
    → later ≡ keys_with announced to.time earlier → window ≡ flow_window terms.window m.notes → to.time ≡ to.clock - opening
    → IsEmittedWith to announced later x before after terms initial opening to.caller (held terms (payloads_confirmed later) m)
    → subscribers.Becomes x y (λ initial n. released window n)
    → IsReportedWith to earlier later y before after terms initial opening to.caller m
sends_encrypted to earlier later terms initial opening x y m before after queued window announced count below due keys_are window_is time_is emitted
    released_is =
    let time = to.clock - opening in
    let exact : queued ≡ length m.sending.queue = omega (arith, count, below) in
    let few : has_few m ≡ true = grind (arith, nat_tests, exact, below) in
    let same : is_announced earlier to.time m ≡ announced =
    ap (λ (b : Bool). announced_if b earlier to.time m) few ∙ (ap (λ (n : ℕ). is_due earlier n to.time) (sym exact) ∙ sym due) in
    let after_is : later ≡ keys_reported to.time m earlier =
    keys_are ∙ ap (λ (b : Bool). keys_with b to.time earlier) (sym same) in
    let bound_is : payloads_confirmed later ≡ payloads_confirmed earlier =
    ap payloads_confirmed keys_are ∙ bound_stays announced to.time earlier in
    let sent : Subscribing = held terms (payloads_confirmed later) m in
    record {
      keys_are = after_is;
      stands = subst (λ (b : Bool). subscribers.StandsFor terms initial opening to.caller to.clock y (reported_if b earlier terms to.time to.recent m))
          (sym few)
          (subst
          (λ (t : ℕ). subscribers.StandsFor terms initial opening to.caller to.clock y
          (released (flow_window terms.window m.notes) (reported terms t to.recent (held terms (payloads_confirmed earlier) m))))
          (sym time_is)
          (subst
          (λ (n : ℕ). subscribers.StandsFor terms initial opening to.caller to.clock y
          (released (flow_window terms.window m.notes) (reported terms time to.recent (held terms n m))))
          bound_is
          (subst (λ (w : ℕ). subscribers.StandsFor terms initial opening to.caller to.clock y (released w (reported terms time to.recent sent))) window_is
          (released_is terms initial opening to.caller time 0 (reported terms time to.recent sent) emitted.stands))));
      said = same_said
          (ap (λ (os : List KeyedOutput). datagrams_to to.peer (map keyed_text os))
          (ap (λ (t : ℕ). outputs_at t announced later) (sym time_is)
          ∙ (ap (λ (b : Bool). outputs_if true b later terms to.caller initial to.time to.recent m) (sym same)
          ∙ (ap (λ (k : Keys). outputs_if true (is_announced earlier to.time m) k terms to.caller initial to.time to.recent m) after_is
          ∙ ap
          (λ (b : Bool). outputs_if b (is_announced earlier to.time m) (keys_reported to.time m earlier) terms to.caller initial to.time to.recent m)
          (sym few)))))
          emitted.said;
    }
  where
    outputs_at : (t : ℕ) → Bool → Keys → List KeyedOutput
    outputs_at t b k =
        all_said_with k to.caller initial t (announcement_if b k to.caller to.time)
        (reports terms t to.recent (held terms (payloads_confirmed k) m))

-- a session that ends is sent the KMREQ of its next key, if that is due
pub announces_nothing : (to : KeyReceiver) (keys : Keys) (m : subscribing.Subscribing) (queue : ReplyQueue) (queued : ℕ)
    → queued ≡ capped (length m.sending.queue) → 2 ^ 61 ≤ queued → IsAnnouncedWith to keys keys queue queue m
announces_nothing to keys m queue queued count many =
    let few : has_few m ≡ false = grind (arith, nat_tests, count, many) in
    record {
      keys_are = ap (λ (b : Bool). keys_with (announced_if b keys to.time m) to.time keys) (sym few);
      said = same_said
          (ap (λ (b : Bool). datagrams_to to.peer
          (map keyed_text (announcement_if (announced_if b keys to.time m) (keys_reported to.time m keys) to.caller to.time)))
          (sym few))
          (nothing_said (replies_of queue) (places_of queue));
    }

pub announces_due : (to : KeyReceiver) (earlier later : Keys) (m : subscribing.Subscribing) (before after : ReplyQueue) (queued : ℕ) (announced : Bool)
    → queued ≡ capped (length m.sending.queue) → queued < 2 ^ 61 → announced ≡ is_due earlier queued to.time
    → later ≡ keys_with announced to.time earlier → QueuesAll to.peer before after (announcement_if announced later to.caller to.time)
    → IsAnnouncedWith to earlier later before after m
announces_due to earlier later m before after queued announced count below due keys_are said =
    let exact : queued ≡ length m.sending.queue = omega (arith, count, below) in
    let few : has_few m ≡ true = grind (arith, nat_tests, exact, below) in
    let same : is_announced earlier to.time m ≡ announced =
    ap (λ (b : Bool). announced_if b earlier to.time m) few ∙ (ap (λ (n : ℕ). is_due earlier n to.time) (sym exact) ∙ sym due) in
    let after_is : later ≡ keys_reported to.time m earlier = keys_are ∙ ap (λ (b : Bool). keys_with b to.time earlier) (sym same) in
    record {
      keys_are = after_is;
      said = same_said
          (ap (λ (b : Bool). datagrams_to to.peer (map keyed_text (announcement_if b later to.caller to.time))) (sym same)
          ∙ ap (λ (k : Keys). datagrams_to to.peer (map keyed_text (announcement_if (is_announced earlier to.time m) k to.caller to.time))) after_is)
          said;
    }
