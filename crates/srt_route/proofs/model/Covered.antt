-- Where subscribers are encrypted, no payload is sent in clear.
use Rattle.std.proofs.Common.{◌≡◌, ℕ, ◌==◌, not, Bool, true, false, cond, Option, None, Some, List, [], ◌∷◌, ◌++◌, map, find, Result, Ok, Err}
use Rattle.std.proofs.Common.{refl, sym, subst, ◌∙◌}
use Rattle.std.specs.Prelude.{All, IfSome}
use Rattle.std.specs.List.{flat_map}
use Rattle.std.specs.Option.{is_some}
use Rattle.std.proofs.lemmas.Bool.{and_parts}
use Rattle.std.proofs.lemmas.List.Elements.{All-nil, All-cons}
use Rattle.srt_types.specs.declared.shared.Callers.{Callers}
use Rattle.srt_types.specs.declared.shared.Callers.TheVariants.{Draft, Libsrt}
use Rattle.srt_types.specs.declared.shared.Peer.{Peer}
use Rattle.srt_types.specs.declared.shared.Role.TheVariants.{Request}
use Rattle.srt_types.specs.Runs.{numbers_from}
use Rattle.srt_types.specs.Terms.{Terms}
use Rattle.srt_types.specs.Items.{Item, Received, Tick, Close}
use Rattle.srt_packet.specs.declared.reading.PacketFault.{PacketFault}
use Rattle.srt_packet.specs.Grammar.{Body, Packet}
use Rattle.srt_packet.specs.Reading.{packet_in}
use Rattle.srt_pub.specs.Publishing as publisher
use Rattle.srt_sub.specs.Heard as to_subscriber
use Rattle.srt_sub.specs.Held.{held}
use Rattle.srt_sub.specs.Subscribing as subscriber
use Rattle.srt_session_keys.specs.Subscriber.{Subscriber as Keys, has_key}
use Rattle.srt_route.specs.declared.conclusion_reading.Conclusion.{Conclusion}
use Rattle.srt_route.specs.declared.refusals.RefusalCause.{RefusalCause}
use Rattle.srt_route.specs.Covered.{IsCovered, IsCoveredOutput, PayloadsAreCovered, ReportsNone, BringsNone}
use Rattle.srt_route.specs.EncryptedOutput.{KeyedOutput, PacketKey, all_said_with, announcement_if, has_few, is_announced, keys_reported, outputs_if}
use Rattle.srt_route.specs.EncryptedOutput.{payload_key, payloads_confirmed, said_under_if, said_with}
use Rattle.srt_route.specs.Past.{Agreed, Past, Publishes, Subscribes, Report, ToPublisher, ToSubscriber, answers_to, loses_window, outputs_of, reports_of}
use Rattle.srt_route.specs.RouteKeys.{own_if, secures}
use Rattle.srt_route.specs.Sessions.{Session, advanced, by_slot, is_idle, is_open_in, is_publisher, is_recent, is_subscriber, outputs_at, publishes, speaks}
use Rattle.srt_route.specs.Sessions.{is_draining, terms_of, time_in}
use Rattle.srt_route.specs.Route.{Output, Answers, AnswersWithKeys, Says, Ends, Responds, SaysWithKeys, Reply, Verdict, Passes, Ignored, Refused}
use Rattle.srt_route.specs.Route.{Repeats, Decrypted, Answered, route_before, answered_by, answers_as, arrived, clock_after, concluded, concludes, considered}
use Rattle.srt_route.specs.Route.{decision, has_whole_file, heard_as, idle_notified, is_file_over, is_for, is_of, judgement, keyed_by, keyed_packets_at}
use Rattle.srt_route.specs.Route.{lost_notified, notified_if, own_by, packet_taken, packets_at, packets_where, passed_by, read_taken, replies_at, replies_to}
use Rattle.srt_route.specs.Route.{reply_with, said_by, served, served_at, shutdown_to, taken, taken_by, without_destination}
use Rattle.srt_route.proofs.model.Alone.{before_are_alone}
use Rattle.srt_route.proofs.model.Found.{found_passes, open_parts}
use Rattle.srt_route.proofs.model.Lists.{Each, each_append, each_flat, each_mapped, each_picked, each_found}
use Rattle.srt_route.proofs.model.OwnKeys.{before_have_own, end_of, has_some, passed_own}
use Rattle.srt_route.proofs.model.Secured.{IsResponseOutput, IsShortVerdict, verdict_short}
use Rattle.srt_route.proofs.model.Sound.{IsSound, after_sound, is_publishing, passed_by_sound}
use Rattle.srt_route.specs.Route.{announced_past, announced_to}

abbrev pub IsCoveredReply : Reply → Type 0
IsCoveredReply r = IsCovered r.packet

-- SHUTDOWNs
notified_covered : (callers : Callers) (ends : Bool) (clock : ℕ) (s : Session) → Each IsCoveredReply (notified_if callers ends clock s)
notified_covered Draft ends clock s = tt
notified_covered Libsrt true clock s = (tt, tt)
notified_covered Libsrt false clock s = tt

pub idle_covered : (e : Terms) (clock : ℕ) (ss : List Session)
    → Each IsCoveredReply (flat_map (λ s. notified_if e.rules.callers (is_idle s clock) clock s) ss)
idle_covered e clock [] = tt
idle_covered e clock (s ∷ ss) =
    each_append IsCoveredReply (notified_if e.rules.callers (is_idle s clock) clock s)
    (flat_map (λ s. notified_if e.rules.callers (is_idle s clock) clock s) ss) (notified_covered e.rules.callers (is_idle s clock) clock s)
    (idle_covered e clock ss)

closed_covered : (clock : ℕ) (ss : List Session) → Each IsCoveredReply (map (shutdown_to clock) ss)
closed_covered clock [] = tt
closed_covered clock (s ∷ ss) = (tt, closed_covered clock ss)

-- the answers to an item
acked_covered : (mark : ℕ) → Each BringsNone (subscriber.ack_reports mark)
acked_covered mark = by (mark == 0)
  where
    by : (b : Bool) → Each BringsNone (cond b [] (subscriber.Acked mark ∷ []))
    by true = tt
    by false = (tt, tt)

heard_covered : (h : to_subscriber.Heard) → Each BringsNone (subscriber.answers h)
heard_covered (to_subscriber.Ack mark number more) = acked_covered mark
heard_covered (to_subscriber.Nak requested) = tt
heard_covered to_subscriber.Data = tt
heard_covered to_subscriber.Other = tt

answers_covered : (initial : ℕ) (body : Body) (past : Past) → Each ReportsNone (answers_to initial body past)
answers_covered initial body (Publishes p) = tt
answers_covered initial body (Subscribes s) =
    each_mapped BringsNone ReportsNone ToSubscriber (λ x h. h) (subscriber.answers (to_subscriber.heard_from initial body))
    (heard_covered (to_subscriber.heard_from initial body))

said_covered : (time : ℕ) (s : Session) (xs : List Report) → Each ReportsNone xs → Each IsCoveredReply (map (said_by time s) xs)
said_covered time s xs h = each_mapped ReportsNone IsCoveredReply (said_by time s) (λ x one. one) xs h

answered_covered : (e : Terms) (clock : ℕ) (body : Body) (o : Option Session) → Each IsCoveredReply (answered_by e clock body o)
answered_covered e clock body None = tt
answered_covered e clock body (Some s) =
    each_append IsCoveredReply (lost_notified e clock body s) (map (said_by (time_in s clock) s) (answers_to s.conclusion.initial body s.past))
    (notified_covered e.rules.callers (loses_window (terms_of e s) s.conclusion.initial body s.past) clock s)
    (said_covered (time_in s clock) s (answers_to s.conclusion.initial body s.past) (answers_covered s.conclusion.initial body s.past))

considered_covered : (e : Terms) (index clock : ℕ) (peer : Peer) (stamp : ℕ) (c : Conclusion) (ss : List Session) (decided : Result ℕ RefusalCause)
    → Each IsCoveredReply (considered e index clock peer stamp c ss decided).answers
considered_covered e index clock peer stamp c ss (Err cause) = (tt, tt)
considered_covered e index clock peer stamp c ss (Ok slot) = (tt, tt)

concluded_covered : (e : Terms) (index clock : ℕ) (peer : Peer) (stamp : ℕ) (c : Conclusion) (ss : List Session) (o : Option Session)
    → Each IsCoveredReply (concluded e index clock peer stamp c ss o).answers
concluded_covered e index clock peer stamp c ss (Some s) = (tt, tt)
concluded_covered e index clock peer stamp c ss None = considered_covered e index clock peer stamp c ss (decision e peer c ss)

without_covered : (e : Terms) (index clock : ℕ) (peer : Peer) (stamp : ℕ) (ss : List Session) (o : Option Conclusion)
    → Each IsCoveredReply (without_destination e index clock peer stamp ss o).answers
without_covered e index clock peer stamp ss None = tt
without_covered e index clock peer stamp ss (Some c) = concluded_covered e index clock peer stamp c ss (find (is_of peer c.caller) ss)

packet_covered : (e : Terms) (index clock : ℕ) (peer : Peer) (p : Packet) (ss : List Session)
    → Each IsCoveredReply (packet_taken e index clock peer p ss).answers
packet_covered e index clock peer p ss = by (p.dest == 0)
  where
    by : (b : Bool)
        → Each IsCoveredReply
        (cond b (without_destination e index clock peer p.stamp ss (concludes p.body)) (arrived e index clock peer p ss)).answers
    by true = without_covered e index clock peer p.stamp ss (concludes p.body)
    by false = answered_covered e clock p.body (find (is_for index peer p.dest) ss)

read_covered : (e : Terms) (index clock : ℕ) (peer : Peer) (read : Result Packet PacketFault) (ss : List Session)
    → Each IsCoveredReply (read_taken e index clock peer read ss).answers
read_covered e index clock peer (Ok p) ss = packet_covered e index clock peer p ss
read_covered e index clock peer (Err fault) ss = tt

pub taken_covered : (e : Terms) (index clock : ℕ) (item : Item) (ss : List Session) → Each IsCoveredReply (taken e index clock item ss).answers
taken_covered e index clock (Received d moment) ss = read_covered e index clock d.peer (packet_in d.bytes) ss
taken_covered e index clock (Tick moment) ss = tt
taken_covered e index clock (Close moment) ss = closed_covered clock (by_slot e ss)

with_covered : (request : List ℕ) (xs : List Reply) → Each IsCoveredReply xs → Each IsCoveredReply (map (reply_with request) xs)
with_covered request [] h = tt
with_covered request (x ∷ xs) h = (one x.packet h.0, with_covered request xs h.1)
  where
    one : (o : Output) → IsCovered o → IsCovered (reply_with request (record { peer = x.peer; packet = o })).packet
    one (Answers caller answer) k = tt
    one (AnswersWithKeys caller other answer) k = tt
    one (Says caller initial time report) k = k
    one (Ends caller time) k = tt
    one (Responds caller time contents) k = tt
    one (SaysWithKeys output) k = k

response_covered : (o : Output) → IsResponseOutput o → IsCovered o
response_covered (Answers caller answer) h = absurd h
response_covered (AnswersWithKeys caller request answer) h = absurd h
response_covered (Says caller initial time report) h = absurd h
response_covered (Ends caller time) h = absurd h
response_covered (Responds caller time contents) h = tt
response_covered (SaysWithKeys output) h = absurd h

pub verdict_covered : (v : Verdict) (xs : List Reply) → IsShortVerdict v → Each IsCoveredReply xs → Each IsCoveredReply (answers_as v xs)
verdict_covered Passes xs short h = h
verdict_covered Ignored xs short h = h
verdict_covered (Refused peer c) xs short h = (tt, tt)
verdict_covered (Repeats None) xs short h = h
verdict_covered (Repeats (Some request)) xs short h = with_covered request xs h
verdict_covered (Decrypted bytes) xs short h = h
verdict_covered (Answered answer) xs short h = (response_covered answer.packet short, tt)

-- the publishers' packets
publishers_covered : (xs : List publisher.Report) → Each ReportsNone (map ToPublisher xs)
publishers_covered [] = tt
publishers_covered (x ∷ xs) = (tt, publishers_covered xs)

reports_covered : (terms : Agreed) (time : ℕ) (recent : Bool) (past : Past) → is_publishing past ≡ true → Each ReportsNone (reports_of terms time recent past)
reports_covered terms time recent (Publishes p) is = publishers_covered (publisher.reports terms.publisher time p)
reports_covered terms time recent (Subscribes s) is = absurd (let bad : false ≡ true = is in cc)

speaking_covered : (e : Terms) (clock : ℕ) (s : Session) → IsSound s → (b : Bool) → speaks s ≡ b → Each IsCoveredReply (packets_at e b clock s)
speaking_covered e clock s sound true is =
    let role = (and_parts s.is_open (publishes s.conclusion.role) (and_parts (is_publisher s) (not (is_draining s)) is).0).1 in
    said_covered (time_in s clock) s (reports_of (terms_of e s) (time_in s clock) (is_recent s clock) s.past)
    (reports_covered (terms_of e s) (time_in s clock) (is_recent s clock) s.past (sound.role ∙ role))
speaking_covered e clock s sound false is = tt

sound_by_slot : (e : Terms) (ss : List Session) → Each IsSound ss → Each IsSound (by_slot e ss)
sound_by_slot e ss h = each_picked IsSound (λ slot. find (is_open_in slot) ss) (λ slot. each_found IsSound (is_open_in slot) ss h) (numbers_from 0 e.sessions)

pub first_covered : (e : Terms) (clock : ℕ) (ss : List Session) → Each IsSound ss → Each IsCoveredReply (packets_where e clock speaks ss)
first_covered e clock ss h =
    each_flat IsSound IsCoveredReply (λ s. packets_at e (speaks s) clock s) (λ s one. speaking_covered e clock s one (speaks s) refl) (by_slot e ss)
    (sound_by_slot e ss h)

-- what sessions with keys of their own send
under_covered : (stored : Bool) (key : PacketKey) (caller initial time : ℕ) (r : subscriber.Report)
    → Each IsCoveredOutput (said_under_if stored key caller initial time r)
under_covered true key caller initial time r = (tt, tt)
under_covered false key caller initial time r = tt

one_covered : (keys : Keys) (caller initial time : ℕ) (r : subscriber.Report) → Each IsCoveredOutput (said_with keys caller initial time r)
one_covered keys caller initial time (subscriber.Acked mark) = (tt, tt)
one_covered keys caller initial time (subscriber.Dropped run) = (tt, tt)
one_covered keys caller initial time (subscriber.Media number again origin payload) =
    under_covered (has_key keys number) (payload_key keys number) caller initial time (subscriber.Media number again origin payload)
one_covered keys caller initial time subscriber.KeepAlive = (tt, tt)

all_covered : (keys : Keys) (caller initial time : ℕ) (pending : List KeyedOutput) (rs : List subscriber.Report) → Each IsCoveredOutput pending
    → Each IsCoveredOutput (all_said_with keys caller initial time pending rs)
all_covered keys caller initial time pending [] h = h
all_covered keys caller initial time pending (r ∷ rs) h =
    by (subscriber.is_drop r) (all_covered keys caller initial time pending rs h) (all_covered keys caller initial time [] rs tt)
  where
    one : List KeyedOutput
    one = said_with keys caller initial time r

    by : (b : Bool) → Each IsCoveredOutput (all_said_with keys caller initial time pending rs)
        → Each IsCoveredOutput (all_said_with keys caller initial time [] rs)
        → Each IsCoveredOutput
        (cond b (one ++ all_said_with keys caller initial time pending rs) (pending ++ one ++ all_said_with keys caller initial time [] rs))
    by true later none = each_append IsCoveredOutput one (all_said_with keys caller initial time pending rs) (one_covered keys caller initial time r) later
    by false later none =
        each_append IsCoveredOutput (pending ++ one) (all_said_with keys caller initial time [] rs)
        (each_append IsCoveredOutput pending one h (one_covered keys caller initial time r)) none

announced_covered : (announced : Bool) (keys : Keys) (caller time : ℕ) → Each IsCoveredOutput (announcement_if announced keys caller time)
announced_covered true keys caller time = (tt, tt)
announced_covered false keys caller time = tt

outputs_covered : (few announced : Bool) (keys : Keys) (terms : subscriber.Terms) (caller initial time : ℕ) (recent : Bool) (m : subscriber.Subscribing)
    → Each IsCoveredOutput (outputs_if few announced keys terms caller initial time recent m)
outputs_covered true announced keys terms caller initial time recent m =
    all_covered keys caller initial time (announcement_if announced keys caller time)
    (subscriber.reports terms time recent (held terms (payloads_confirmed keys) m)) (announced_covered announced keys caller time)
outputs_covered false announced keys terms caller initial time recent m = tt

past_covered : (keys : Keys) (terms : Agreed) (caller initial time : ℕ) (recent : Bool) (past : Past)
    → Each IsCoveredOutput (outputs_of keys terms caller initial time recent past)
past_covered keys terms caller initial time recent (Publishes p) = tt
past_covered keys terms caller initial time recent (Subscribes m) =
    outputs_covered (has_few m) (is_announced keys time m) (keys_reported time m keys) terms.subscriber caller initial time recent m

keyed_covered : (keys : Keys) (e : Terms) (here : Bool) (clock : ℕ) (s : Session) → Each IsCoveredReply (keyed_packets_at keys e here clock s)
keyed_covered keys e true clock s =
    each_mapped IsCoveredOutput IsCoveredReply (keyed_by s) (λ x one. one) (outputs_at keys e true clock s)
    (past_covered keys (terms_of e s) s.conclusion.caller s.conclusion.initial (time_in s clock) (is_recent s clock) s.past)
keyed_covered keys e false clock s = tt

-- the KMREQ before a SHUTDOWN
ending_covered : (keys : Keys) (clock : ℕ) (s : Session) (past : Past)
    → Each IsCoveredReply (map (keyed_by s) (announced_past keys s.conclusion.caller (time_in s clock) past))
ending_covered keys clock s (Publishes p) = tt
ending_covered keys clock s (Subscribes m) =
    let time = time_in s clock in
    let later = keys_reported time m keys in
    each_mapped IsCoveredOutput IsCoveredReply (keyed_by s) (λ x one. one) (announcement_if (is_announced keys time m) later s.conclusion.caller time)
    (announced_covered (is_announced keys time m) later s.conclusion.caller time)

-- the subscribers' packets
served_covered : (whole : Bool) (keys : Option Keys) (e : Terms) (clock : ℕ) (s : Session) (b : Bool) → is_subscriber s ≡ b → (b ≡ true → is_some keys ≡ true)
    → Each IsCoveredReply (served_at whole keys e clock s)
served_covered true None e clock s b is has = (tt, tt)
served_covered true (Some keys) e clock s b is has =
    each_append IsCoveredReply (announced_to (Some keys) clock s) (shutdown_to clock s ∷ []) (ending_covered keys clock s s.past) (tt, tt)
served_covered false None e clock s true is has = absurd (let bad : false ≡ true = has refl in cc)
served_covered false None e clock s false is has = subst (λ (d : Bool). Each IsCoveredReply (packets_at e d clock s)) (sym is) tt
served_covered false (Some keys) e clock s b is has = keyed_covered keys e (is_subscriber s) clock s

reads_of : (b : Bool) → not b ≡ true → b ≡ false
reads_of true h = absurd (let bad : false ≡ true = h in cc)
reads_of false h = refl

slot_covered : (e : Terms) (clock : ℕ) (over : Bool) (ss : List Session) (own : ℕ → Option Keys)
    → ((k : ℕ) (s : Session) → find (is_open_in k) ss ≡ Some s → publishes s.conclusion.role ≡ false → is_some (own k) ≡ true)
    → (k : ℕ) (o : Option Session) → find (is_open_in k) ss ≡ o
    → IfSome o (λ s. Each IsCoveredReply (served_at (has_whole_file over s) (own s.slot) e clock s))
slot_covered e clock over ss own has k None found = tt
slot_covered e clock over ss own has k (Some s) found =
    served_covered (has_whole_file over s) (own s.slot) e clock s (is_subscriber s) refl
    (λ reads. subst (λ (n : ℕ). is_some (own n) ≡ true) (sym (open_parts k s (found_passes (is_open_in k) ss s found)).1)
    (has k s found (reads_of (publishes s.conclusion.role) (and_parts s.is_open (not (publishes s.conclusion.role)) reads).1)))

last_covered : (e : Terms) (clock : ℕ) (over : Bool) (ss : List Session) (own : ℕ → Option Keys)
    → ((k : ℕ) (s : Session) → find (is_open_in k) ss ≡ Some s → publishes s.conclusion.role ≡ false → is_some (own k) ≡ true)
    → Each IsCoveredReply (served own e clock over ss)
last_covered e clock over ss own has =
    each_flat (λ (s : Session). Each IsCoveredReply (served_at (has_whole_file over s) (own s.slot) e clock s)) IsCoveredReply
    (λ s. served_at (has_whole_file over s) (own s.slot) e clock s) (λ s h. h) (by_slot e ss)
    (each_picked (λ (s : Session). Each IsCoveredReply (served_at (has_whole_file over s) (own s.slot) e clock s)) (λ slot. find (is_open_in slot) ss)
    (λ slot. slot_covered e clock over ss own has slot (find (is_open_in slot) ss) refl) (numbers_from 0 e.sessions))

replies_covered : (is_closed : Bool) (e : Terms) (index : ℕ) (items : List Item) (item : Item) → secures e Request ≡ true
    → Each IsCoveredReply (replies_at is_closed e index item (route_before e index item items))
replies_covered true e index items item secured = tt
replies_covered false e index items item secured =
    let m = route_before e index item items in
    let clock = clock_after item m in
    let ss = passed_by e index item m in
    let j = judgement e index item m in
    let idle = idle_notified e clock m.sessions in
    let answers = (taken_by e index item m).answers in
    let first = packets_where e clock speaks ss in
    let last = served (own_by e index item m) e clock (is_file_over e ss) ss in
    each_append IsCoveredReply (idle ++ answers ++ first) last
    (each_append IsCoveredReply (idle ++ answers) first
    (each_append IsCoveredReply idle answers (idle_covered e clock (by_slot e m.sessions))
    (verdict_covered j.verdict (taken e index clock (heard_as j.verdict item) (advanced e clock m.sessions)).answers (verdict_short e index items item)
    (taken_covered e index clock (heard_as j.verdict item) (advanced e clock m.sessions))))
    (first_covered e clock ss (passed_by_sound e index items item (after_sound e index items))))
    (last_covered e clock (is_file_over e ss) ss (own_by e index item m)
    (λ k s found reads. subst (λ (b : Bool). is_some (own_if b j.keys.held k) ≡ true) (sym secured)
    (has_some (end_of s.past) (j.keys.held k)
    (passed_own e index item m secured (before_are_alone e index items item) (before_have_own e index items item secured) k s found reads))))

pub each_all : {A : Type 0} (P : A → Type 0) (xs : List A) → Each P xs → All P xs
each_all P [] h = All-nil P
each_all P (x ∷ xs) h = All-cons P x xs h.0 (each_all P xs h.1)

pub payloads_are_covered : PayloadsAreCovered
payloads_are_covered e index items item secured =
    let m = route_before e index item items in
    each_all IsCoveredReply (replies_to e index item m) (replies_covered m.is_closed e index items item secured)
