-- The most replies to one item.
use Rattle.srt_sub.proofs.Credits.{resends_few}
use Rattle.std.proofs.Common.{◌≡◌, ℕ, zero, suc, ◌+◌, ◌-◌, ◌*◌, ◌≤◌, ◌==◌, ◌&&◌, not, Bool, true, false, cond, Option, None, Some, List, []}
use Rattle.std.proofs.Common.{◌∷◌, ◌++◌, map, length, find, Result, Ok, Err, refl, ap, arith}
use Rattle.std.specs.Prelude.{filter_map, slice_get, nat_le, min}
use Rattle.std.specs.List.{flat_map, cons_option}
use Rattle.std.proofs.lemmas.List.{length-map, length-append, length-take}
use Rattle.srt_types.specs.declared.shared.Callers.{Callers}
use Rattle.srt_types.specs.declared.shared.Callers.TheVariants.{Draft, Libsrt}
use Rattle.srt_types.specs.declared.shared.Peer.{Peer}
use Rattle.srt_types.specs.Runs.{Run, numbers_from}
use Rattle.srt_types.specs.Terms.{Terms}
use Rattle.srt_packet.specs.declared.reading.PacketFault.{PacketFault}
use Rattle.srt_packet.specs.Grammar.{Packet, Body}
use Rattle.srt_session_keys.specs.Subscriber.{Subscriber as Keys, has_key}
use Rattle.srt_sub.specs.Held.{held}
use Rattle.srt_route.specs.EncryptedOutput.{KeyedOutput, PacketKey, all_said_with, announcement_if, has_few, is_announced, keys_reported, outputs_if}
use Rattle.srt_route.specs.EncryptedOutput.{payload_key, payloads_confirmed, said_under_if, said_with}
use Rattle.srt_route.specs.Past.{outputs_of}
use Rattle.srt_route.specs.Sessions.{outputs_at}
use Rattle.srt_route.specs.Route.{keyed_by, keyed_packets_at}
use Rattle.srt_route.specs.declared.refusals.RefusalCause.{RefusalCause}
use Rattle.srt_recvbuf.specs.Receiving.{Receiving}
use Rattle.srt_sendbuf.specs.Sending.{Queued, lost, next, front}
use Rattle.srt_pub.specs.Publishing as publisher
use Rattle.srt_sub.specs.Subscribing as subscriber
use Rattle.srt_sub.specs.Heard as to_subscriber
use Rattle.srt_route.specs.declared.conclusion_reading.Conclusion.{Conclusion}
use Rattle.srt_route.specs.Past.{Past, Publishes, Subscribes, Agreed, ToPublisher, ToSubscriber, loses_window, reports_of, answers_to}
use Rattle.srt_route.specs.Sessions.{Session, is_draining, is_subscriber, is_open_in, is_recent, by_slot, speaks, time_in, terms_of}
use Rattle.srt_route.specs.Sessions.{publishes}
use Rattle.srt_route.specs.Route.{Taken, Reply, decision, considered, concluded, is_of, is_for, concludes, without_destination}
use Rattle.srt_route.specs.Route.{arrived, answered_by, said_by, packet_taken, read_taken}
use Rattle.srt_route.specs.Route.{packets_at}
use Rattle.srt_route.specs.Route.{has_whole_file, lost_notified, served_at, notified_if}
use Rattle.srt_route.proofs.model.FileEnds.{whole_subscribes}
use Rattle.srt_route.specs.Route.{announced_past, announced_to, shutdown_to}

-- a publisher is sent at most an ACK and a NAK, and a KEEPALIVE only without them
acks_few : (full light : Bool) (x y : publisher.Report) → length (publisher.ack_of full light x y) ≤ 1
acks_few true light x y = omega arith
acks_few false true x y = omega arith
acks_few false false x y = omega arith

nak_few : (all : Bool) (rs : List Run) → length (publisher.nak_with all rs) ≤ 1
nak_few all [] = omega arith
nak_few all (r ∷ rs) = omega arith

naks_few : (all : Bool) (width seen : ℕ) (r : Receiving) → length (publisher.naks_of all width seen r) ≤ 1
naks_few all width seen r = nak_few all (publisher.runs_said (publisher.gaps_reported all width seen r))

keep_alive_few : (b : Bool) → length (publisher.keep_alive_if b) ≤ 1
keep_alive_few true = omega arith
keep_alive_few false = omega arith

kept_few : (time : ℕ) (due : List publisher.Report) (notes : List publisher.Note) → length due ≤ 2 → length (due ++ publisher.keep_alives time due notes) ≤ 2
kept_few time [] notes h = omega (arith, keep_alive_few (nat_le 1_000_000 (time - publisher.last_sent notes)))
kept_few time (r ∷ rs) notes h = omega (arith, h, length-append (r ∷ rs) [])

publisher_few : (terms : publisher.Terms) (time : ℕ) (p : publisher.Publishing) → length (publisher.reports terms time p) ≤ 2
unfolding publisher.reports publisher.acks_at publisher.naks
publisher_few terms time p =
    let acks = publisher.acks terms time p in
    let naks = publisher.naks terms time p in
    let few_acks : length acks ≤ 1 = acks_few _ _ _ _ in
    let few_naks : length naks ≤ 1 = naks_few (publisher.is_nak_due terms.callers time p.notes) terms.width p.seen p.receiving in
    kept_few time (acks ++ naks) p.notes (omega (arith, length-append acks naks, few_acks, few_naks))

-- a subscriber is sent at most a drop request and 64 data packets, and a KEEPALIVE only without them
drops_few : (o : Option Run) → length (subscriber.drops_of o) ≤ 1
drops_few None = omega arith
drops_few (Some run) = omega arith

media_one : (again : Bool) (n : ℕ) (o : Option Queued) → length (subscriber.media_of again n o) ≤ 1
media_one again n None = omega arith
media_one again n (Some q) = omega arith

media_few : (again : Bool) (ns : List ℕ) (queue : List Queued) → length (subscriber.media again ns queue) ≤ length ns
media_few again [] queue = omega arith
media_few again (n ∷ ns) queue =
    omega (
      arith,
      media_one again n (slice_get queue n),
      media_few again ns queue,
      length-append (subscriber.media_of again n (slice_get queue n)) (subscriber.media again ns queue),
    )

pub many_numbers : (from count : ℕ) → length (numbers_from from count) ≡ count
many_numbers from zero = refl
many_numbers from (suc count) = ap suc (many_numbers (from + 1) count)

due_few : (places count : ℕ) (terms : subscriber.Terms) (s : subscriber.Subscribing)
    → count ≤ places → length (subscriber.due_of places count terms s) ≤ places + 1
due_few places count terms s le =
    let window = subscriber.flow_window terms.window s.notes in
    let again = subscriber.again_of count s.sending in
    let new = subscriber.new_of places count window s.sending in
    let queue = s.sending.queue in
    let drops = subscriber.drops s.notes in
    let old_ones = subscriber.media true again queue in
    let new_ones = subscriber.media false new queue in
    let few_new : length new ≤ places - length again = omega (
      arith,
      many_numbers (next s.sending)
          (min (places - length again) (min (window - (next s.sending - front s.sending)) (length queue - next s.sending))),
    ) in
    omega (
      arith,
      length-append (drops ++ old_ones) new_ones,
      length-append drops old_ones,
      drops_few (subscriber.unreported s.notes),
      media_few true again queue,
      media_few false new queue,
      few_new,
      length-take count (lost s.sending),
      le,
    )

sub_keep_alive_few : (time : ℕ) (notes : List subscriber.Note) → length (subscriber.keep_alives time [] notes) ≤ 1
sub_keep_alive_few time notes = by (nat_le 1_000_000 (time - subscriber.last_sent notes))
  where
    by : (b : Bool) → length (cond b (subscriber.KeepAlive ∷ []) []) ≤ 1
    by true = omega arith
    by false = omega arith

sub_kept_few : (time : ℕ) (due : List subscriber.Report) (notes : List subscriber.Note)
    → length due ≤ 65 → length (due ++ subscriber.keep_alives time due notes) ≤ 65
sub_kept_few time [] notes h = omega (arith, sub_keep_alive_few time notes)
sub_kept_few time (r ∷ rs) notes h = omega (arith, h, length-append (r ∷ rs) [])

pub subscriber_few : (terms : subscriber.Terms) (time : ℕ) (recent : Bool) (s : subscriber.Subscribing)
    → length (subscriber.reports terms time recent s) ≤ 65
subscriber_few terms time recent s =
    let t = subscriber.prepared terms time recent s in
    let count = subscriber.resends terms.resend_percent subscriber.most t.notes in
    sub_kept_few time (subscriber.due_of subscriber.most count terms t) t.notes
    (due_few subscriber.most count terms t (resends_few terms.resend_percent subscriber.most t.notes))

reports_few : (terms : Agreed) (time : ℕ) (recent : Bool) (past : Past) → length (reports_of terms time recent past) ≤ 65
reports_few terms time recent (Publishes p) =
    omega (arith, length-map (publisher.reports terms.publisher time p) ToPublisher, publisher_few terms.publisher time p)
reports_few terms time recent (Subscribes s) =
    omega (arith, length-map (subscriber.reports terms.subscriber time recent s) ToSubscriber, subscriber_few terms.subscriber time recent s)

-- each session is sent its packets once
said_few : (e : Terms) (here : Bool) (clock : ℕ) (s : Session) → length (packets_at e here clock s) ≤ cond here 65 0
said_few e true clock s =
    let time = time_in s clock in
    let recent = is_recent s clock in
    omega (arith, length-map (reports_of (terms_of e s) time recent s.past) (said_by time s), reports_few (terms_of e s) time recent s.past)
said_few e false clock s = omega arith

-- with keys of its own a session is sent a KMREQ as well
all_with_few : (keys : Keys) (caller initial time : ℕ) (pending : List KeyedOutput) (rs : List subscriber.Report)
    → length (all_said_with keys caller initial time pending rs) ≤ length pending + length rs
all_with_few keys caller initial time pending [] = omega arith
all_with_few keys caller initial time pending (r ∷ rs) =
    by (subscriber.is_drop r) (all_with_few keys caller initial time pending rs) (all_with_few keys caller initial time [] rs)
  where
    one : List KeyedOutput
    one = said_with keys caller initial time r

    under_few : (b : Bool) (key : PacketKey) (x : subscriber.Report) → length (said_under_if b key caller initial time x) ≤ 1
    under_few true key x = omega arith
    under_few false key x = omega arith

    one_few : (x : subscriber.Report) → length (said_with keys caller initial time x) ≤ 1
    one_few (subscriber.Acked mark) = omega arith
    one_few (subscriber.Dropped run) = omega arith
    one_few (subscriber.Media number again origin payload) =
        under_few (has_key keys number) (payload_key keys number) (subscriber.Media number again origin payload)
    one_few subscriber.KeepAlive = omega arith

    by : (b : Bool) → length (all_said_with keys caller initial time pending rs) ≤ length pending + length rs
        → length (all_said_with keys caller initial time [] rs) ≤ 0 + length rs
        → length (cond b (one ++ all_said_with keys caller initial time pending rs) (pending ++ one ++ all_said_with keys caller initial time [] rs))
        ≤ length pending + suc (length rs)
    by true later none = omega (arith, later, one_few r, length-append one (all_said_with keys caller initial time pending rs))
    by false later none =
        omega (
          arith,
          none,
          one_few r,
          length-append (pending ++ one) (all_said_with keys caller initial time [] rs),
          length-append pending one,
        )

announced_few : (announced : Bool) (keys : Keys) (caller time : ℕ) → length (announcement_if announced keys caller time) ≤ 1
announced_few true keys caller time = omega arith
announced_few false keys caller time = omega arith

outputs_few : (few announced : Bool) (keys : Keys) (terms : subscriber.Terms) (caller initial time : ℕ) (recent : Bool) (m : subscriber.Subscribing)
    → length (outputs_if few announced keys terms caller initial time recent m) ≤ 66
outputs_few true announced keys terms caller initial time recent m =
    let n = held terms (payloads_confirmed keys) m in
    omega (
      arith,
      all_with_few keys caller initial time (announcement_if announced keys caller time) (subscriber.reports terms time recent n),
      announced_few announced keys caller time,
      subscriber_few terms time recent n,
    )
outputs_few false announced keys terms caller initial time recent m = omega arith

past_outputs_few : (keys : Keys) (terms : Agreed) (caller initial time : ℕ) (recent : Bool) (past : Past)
    → length (outputs_of keys terms caller initial time recent past) ≤ 66
past_outputs_few keys terms caller initial time recent (Publishes p) = omega arith
past_outputs_few keys terms caller initial time recent (Subscribes m) =
    outputs_few (has_few m) (is_announced keys time m) (keys_reported time m keys) terms.subscriber caller initial time recent m

keyed_few : (keys : Keys) (e : Terms) (here : Bool) (clock : ℕ) (s : Session) → length (keyed_packets_at keys e here clock s) ≤ cond here 66 0
keyed_few keys e true clock s =
    omega (
      arith,
      length-map (outputs_at keys e true clock s) (keyed_by s),
      past_outputs_few keys (terms_of e s) s.conclusion.caller s.conclusion.initial (time_in s clock) (is_recent s clock) s.past,
    )
keyed_few keys e false clock s = omega arith

either : (is_open publishing draining : Bool) → cond (is_open && publishing && not draining) 65 0 + cond (is_open && not publishing) 66 0 ≤ 66
either true true true = omega arith
either true true false = omega arith
either true false true = omega arith
either true false false = omega arith
either false true draining = omega arith
either false false draining = omega arith

-- a session that has the whole file is sent a SHUTDOWN instead, and at most one KMREQ before it
past_announced_few : (keys : Keys) (caller time : ℕ) (past : Past) → length (announced_past keys caller time past) ≤ 1
past_announced_few keys caller time (Publishes p) = omega arith
past_announced_few keys caller time (Subscribes m) = announced_few (is_announced keys time m) (keys_reported time m keys) caller time

ending_few : (keys : Option Keys) (clock : ℕ) (s : Session) → length (announced_to keys clock s ++ shutdown_to clock s ∷ []) ≤ 2
ending_few None clock s = omega arith
ending_few (Some keys) clock s =
    omega (
      arith,
      length-append (announced_to (Some keys) clock s) (shutdown_to clock s ∷ []),
      length-map (announced_past keys s.conclusion.caller (time_in s clock) s.past) (keyed_by s),
      past_announced_few keys s.conclusion.caller (time_in s clock) s.past,
    )

served_few : (keys : Option Keys) (e : Terms) (clock : ℕ) (over : Bool) (s : Session)
    → length (served_at (has_whole_file over s) keys e clock s) ≤ cond (is_subscriber s) 66 0
served_few keys e clock over s = by (has_whole_file over s) refl keys
  where
    two : (b : Bool) (n : ℕ) → b ≡ true → n ≤ 2 → n ≤ cond b 66 0
    two true n is few = omega (arith, few)
    two false n is few = absurd (let bad : false ≡ true = is in cc)

    more : (b : Bool) → length (packets_at e b clock s) ≤ cond b 65 0 → length (packets_at e b clock s) ≤ cond b 66 0
    more true few = omega (arith, few)
    more false few = few

    by : (b : Bool) → has_whole_file over s ≡ b → (k : Option Keys) → length (served_at b k e clock s) ≤ cond (is_subscriber s) 66 0
    by true is k = two (is_subscriber s) (length (served_at true k e clock s)) (whole_subscribes over s is) (ending_few k clock s)
    by false is None = more (is_subscriber s) (said_few e (is_subscriber s) clock s)
    by false is (Some k) = keyed_few k e (is_subscriber s) clock s

abbrev packets : Terms → (clock : ℕ) → (Session → Bool) → Session → List Reply
packets e clock test s = packets_at e (test s) clock s

abbrev serving : (own : ℕ → Option Keys) → Terms → (clock : ℕ) → (over : Bool) → Session → List Reply
serving own e clock over s = served_at (has_whole_file over s) (own s.slot) e clock s

pub all_said : (own : ℕ → Option Keys) (e : Terms) (clock : ℕ) (over : Bool) (ss : List Session)
    → length (flat_map (packets e clock speaks) ss) + length (flat_map (serving own e clock over) ss) ≤ 66 * length ss
all_said own e clock over [] = omega arith
all_said own e clock over (s ∷ ss) =
    let few = said_few e (speaks s) clock s in
    let few_too = served_few (own s.slot) e clock over s in
    let one = either s.is_open (publishes s.conclusion.role) (is_draining s) in
    let first = packets e clock speaks s in
    let second = serving own e clock over s in
    omega (
      arith,
      few,
      few_too,
      one,
      all_said own e clock over ss,
      length-append first (flat_map (packets e clock speaks) ss),
      length-append second (flat_map (serving own e clock over) ss),
    )

picked_few : {A B : Type 0} → (f : A → Option B) (xs : List A) → length (filter_map f xs) ≤ length xs
picked_few f [] = omega arith
picked_few {A} {B} f (x ∷ xs) = with_one (f x) (picked_few f xs)
  where
    with_one : (o : Option B) → length (filter_map f xs) ≤ length xs → length (cons_option o (filter_map f xs)) ≤ suc (length xs)
    with_one None few = omega (arith, few)
    with_one (Some y) few = omega (arith, few)

pub few_by_slot : (e : Terms) (ss : List Session) → length (by_slot e ss) ≤ e.sessions
few_by_slot e ss = omega (arith, picked_few (λ slot. find (is_open_in slot) ss) (numbers_from 0 e.sessions), many_numbers 0 e.sessions)

-- a datagram is answered at most once
abbrev pub IsBrief : Taken → Type 0
IsBrief t = length t.answers ≤ 1

acked_brief : (mark : ℕ) → length (subscriber.ack_reports mark) ≤ 1
acked_brief mark = by (mark == 0)
  where
    by : (b : Bool) → length (cond b [] (subscriber.Acked mark ∷ [])) ≤ 1
    by true = omega arith
    by false = omega arith

heard_brief : (h : to_subscriber.Heard) → length (subscriber.answers h) ≤ 1
heard_brief (to_subscriber.Ack mark number more) = acked_brief mark
heard_brief (to_subscriber.Nak requested) = omega arith
heard_brief to_subscriber.Data = omega arith
heard_brief to_subscriber.Other = omega arith

answers_brief : (initial : ℕ) (body : Body) (past : Past) → length (answers_to initial body past) ≤ 1
answers_brief initial body (Publishes p) = omega arith
answers_brief initial body (Subscribes s) =
    omega (
      arith,
      length-map (subscriber.answers (to_subscriber.heard_from initial body)) ToSubscriber,
      heard_brief (to_subscriber.heard_from initial body),
    )

-- a session that ends is sent at most one SHUTDOWN, and a publisher's nothing else
pub notified_few : (callers : Callers) (ends : Bool) (clock : ℕ) (s : Session) → length (notified_if callers ends clock s) ≤ 1
notified_few Draft ends clock s = omega arith
notified_few Libsrt true clock s = omega arith
notified_few Libsrt false clock s = omega arith

pub none_lost : (callers : Callers) (clock : ℕ) (s : Session) → length (notified_if callers false clock s) ≡ 0
none_lost Draft clock s = refl
none_lost Libsrt clock s = refl

lost_brief : (e : Terms) (clock : ℕ) (body : Body) (s : Session) (past : Past)
    → length (notified_if e.rules.callers (loses_window (terms_of e s) s.conclusion.initial body past) clock s)
    + length (answers_to s.conclusion.initial body past) ≤ 1
lost_brief e clock body s (Publishes p) =
    omega (arith, notified_few e.rules.callers (loses_window (terms_of e s) s.conclusion.initial body (Publishes p)) clock s)
lost_brief e clock body s (Subscribes m) =
    omega (arith, none_lost e.rules.callers clock s, answers_brief s.conclusion.initial body (Subscribes m))

answered_brief : (e : Terms) (clock : ℕ) (body : Body) (o : Option Session) → length (answered_by e clock body o) ≤ 1
answered_brief e clock body None = omega arith
answered_brief e clock body (Some s) =
    let said = map (said_by (time_in s clock) s) (answers_to s.conclusion.initial body s.past) in
    omega (
      arith,
      length-append (lost_notified e clock body s) said,
      length-map (answers_to s.conclusion.initial body s.past) (said_by (time_in s clock) s),
      lost_brief e clock body s s.past,
    )

considered_brief : (e : Terms) (index clock : ℕ) (peer : Peer) (stamp : ℕ) (c : Conclusion) (ss : List Session)
    (answer : Result ℕ RefusalCause)
    → IsBrief (considered e index clock peer stamp c ss answer)
considered_brief e index clock peer stamp c ss (Err cause) = omega arith
considered_brief e index clock peer stamp c ss (Ok slot) = omega arith

concluded_brief : (e : Terms) (index clock : ℕ) (peer : Peer) (stamp : ℕ) (c : Conclusion) (ss : List Session) (s : Option Session)
    → IsBrief (concluded e index clock peer stamp c ss s)
concluded_brief e index clock peer stamp c ss (Some s) = omega arith
concluded_brief e index clock peer stamp c ss None = considered_brief e index clock peer stamp c ss (decision e peer c ss)

conclusion_brief : (e : Terms) (index clock : ℕ) (peer : Peer) (stamp : ℕ) (ss : List Session) (c : Option Conclusion)
    → IsBrief (without_destination e index clock peer stamp ss c)
conclusion_brief e index clock peer stamp ss None = omega arith
conclusion_brief e index clock peer stamp ss (Some c) = concluded_brief e index clock peer stamp c ss (find (is_of peer c.caller) ss)

packet_brief : (e : Terms) (index clock : ℕ) (peer : Peer) (packet : Packet) (ss : List Session) → IsBrief (packet_taken e index clock peer packet ss)
packet_brief e index clock peer packet ss = by_dest (packet.dest == 0)
  where
    by_dest : (b : Bool)
        → IsBrief (cond b (without_destination e index clock peer packet.stamp ss (concludes packet.body))
        (arrived e index clock peer packet ss))
    by_dest true = conclusion_brief e index clock peer packet.stamp ss (concludes packet.body)
    by_dest false = answered_brief e clock packet.body (find (is_for index peer packet.dest) ss)

pub read_brief : (e : Terms) (index clock : ℕ) (peer : Peer) (packet : Result Packet PacketFault) (ss : List Session)
    → IsBrief (read_taken e index clock peer packet ss)
read_brief e index clock peer (Ok packet) ss = packet_brief e index clock peer packet ss
read_brief e index clock peer (Err fault) ss = omega arith
