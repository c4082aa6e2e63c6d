-- Where subscribers are encrypted, a payload is sent only under a key that its receiver has confirmed.
use Rattle.std.proofs.Common.{◌≡◌, ℕ, ◌/◌, ◌^◌, ◌<◌, ◌≤◌, not, Bool, true, false, cond, Option, None, Some, List, [], ◌∷◌, ◌++◌, All, map, find}
use Rattle.std.proofs.Common.{length, refl, sym, subst, ◌∙◌, arith}
use Rattle.std.specs.Prelude.{IfSome, ⊤}
use Rattle.std.proofs.lemmas.Bool.{and_parts, lt-ltb}
use Rattle.std.proofs.lemmas.Bool.Decides.{nat_tests}
use Rattle.std.proofs.lemmas.List.Elements.{All-head, All-tail}
use Rattle.srt_types.specs.declared.shared.Peer.{Peer}
use Rattle.srt_types.specs.declared.shared.Role.TheVariants.{Request}
use Rattle.srt_types.specs.Terms.{Terms}
use Rattle.srt_types.specs.Items.{Item}
use Rattle.srt_types.specs.Runs.{numbers_from}
use Rattle.srt_sendbuf.specs.Sending.{sent_end}
use Rattle.srt_session_keys.specs.Subscriber.{Subscriber as Keys, has_key, may_send}
use Rattle.srt_sub.specs.Held.{held}
use Rattle.srt_sub.specs.Payloads.{IsBelow}
use Rattle.srt_sub.specs.Subscribing as subscriber
use Rattle.srt_sub.proofs.Bounds.{stays_below_bounds}
use Rattle.srt_route.specs.Confirmed.{IsConfirmed, IsConfirmedOutput, PayloadsAreConfirmed}
use Rattle.srt_route.specs.Covered.{IsCovered}
use Rattle.srt_route.specs.EncryptedOutput as keyed
use Rattle.srt_route.specs.EncryptedOutput.{KeyedOutput, PacketKey, all_said_with, announcement_if, has_few, is_announced, keys_reported, keys_with, outputs_if}
use Rattle.srt_route.specs.EncryptedOutput.{payload_key, payloads_confirmed, said_under_if, said_with}
use Rattle.srt_route.specs.Past.{Agreed, Past, Publishes, Subscribes, outputs_of}
use Rattle.srt_route.specs.RouteKeys.{own_if, secures}
use Rattle.srt_route.specs.Sessions.{Session, advanced, by_slot, is_open_in, is_recent, is_subscriber, outputs_at, publishes, speaks, terms_of, time_in}
use Rattle.srt_route.specs.Route.{Output, Answers, AnswersWithKeys, Says, Ends, Responds, SaysWithKeys, Reply, Verdict, Passes, Ignored, Refused}
use Rattle.srt_route.specs.Route.{Repeats, Decrypted, Answered, announced_past, announced_to, answers_as, clock_after, has_whole_file, heard_as, idle_notified}
use Rattle.srt_route.specs.Route.{is_file_over, judgement, keyed_by, keyed_packets_at, own_by, packets_at, packets_where, passed_by, replies_at, replies_to}
use Rattle.srt_route.specs.Route.{reply_with, route_before, served, served_at, shutdown_to, taken, taken_by}
use Rattle.srt_route.proofs.model.Alone.{before_are_alone}
use Rattle.srt_route.proofs.model.Covered.{IsCoveredReply, each_all, first_covered, idle_covered, taken_covered, verdict_covered}
use Rattle.srt_route.proofs.model.Found.{found_passes, open_parts}
use Rattle.srt_route.proofs.model.Lists.{Each, each_append, each_flat, each_mapped, each_picked}
use Rattle.srt_route.proofs.model.OwnKeys.{Covers, before_have_own, end_of, passed_own}
use Rattle.srt_route.proofs.model.Secured.{IsResponseOutput, IsShortVerdict, verdict_short}
use Rattle.srt_route.proofs.model.Sound.{IsSaid, IsSaidReply, after_sound, all_packets_said, heard_item_sound, passed_by_sound, silence_said}

-- outputs but those of sessions with keys of their own
abbrev IsPlain : Output → Type 0
IsPlain (Answers caller answer) = ⊤
IsPlain (AnswersWithKeys caller request answer) = ⊤
IsPlain (Says caller initial time report) = ⊤
IsPlain (Ends caller time) = ⊤
IsPlain (Responds caller time contents) = ⊤
IsPlain (SaysWithKeys output) = ⊥

abbrev IsPlainReply : Reply → Type 0
IsPlainReply x = IsPlain x.packet

abbrev IsConfirmedReply : (own : ℕ → Option Keys) → List Session → Reply → Type 0
IsConfirmedReply own ss x = IsConfirmed own ss x.peer x.packet

plain_confirmed : (own : ℕ → Option Keys) (ss : List Session) (peer : Peer) (o : Output) → IsPlain o → IsCovered o → IsConfirmed own ss peer o
plain_confirmed own ss peer (Answers caller answer) is h = tt
plain_confirmed own ss peer (AnswersWithKeys caller request answer) is h = tt
plain_confirmed own ss peer (Says caller initial time report) is h = h
plain_confirmed own ss peer (Ends caller time) is h = tt
plain_confirmed own ss peer (Responds caller time contents) is h = tt
plain_confirmed own ss peer (SaysWithKeys output) is h = absurd is

all_plain : (own : ℕ → Option Keys) (ss : List Session) (xs : List Reply) → Each IsPlainReply xs → Each IsCoveredReply xs
    → Each (IsConfirmedReply own ss) xs
all_plain own ss [] is h = tt
all_plain own ss (x ∷ xs) is h = (plain_confirmed own ss x.peer x.packet is.0 h.0, all_plain own ss xs is.1 h.1)

said_plain : (o : Output) → IsSaid o → IsPlain o
said_plain (Answers caller answer) h = tt
said_plain (AnswersWithKeys caller request answer) h = tt
said_plain (Says caller initial time report) h = tt
said_plain (Ends caller time) h = tt
said_plain (Responds caller time contents) h = tt
said_plain (SaysWithKeys output) h = absurd h

all_said_plain : (xs : List Reply) → Each IsSaidReply xs → Each IsPlainReply xs
all_said_plain [] h = tt
all_said_plain (x ∷ xs) h = (said_plain x.packet h.0, all_said_plain xs h.1)

response_plain : (o : Output) → IsResponseOutput o → IsPlain o
response_plain (Answers caller answer) h = tt
response_plain (AnswersWithKeys caller request answer) h = tt
response_plain (Says caller initial time report) h = tt
response_plain (Ends caller time) h = tt
response_plain (Responds caller time contents) h = tt
response_plain (SaysWithKeys output) h = absurd h

with_plain : (request : List ℕ) (xs : List Reply) → Each IsPlainReply xs → Each IsPlainReply (map (reply_with request) xs)
with_plain request [] h = tt
with_plain request (x ∷ xs) h = (one x.packet h.0, with_plain request xs h.1)
  where
    one : (o : Output) → IsPlain o → IsPlain (reply_with request (record { peer = x.peer; packet = o })).packet
    one (Answers caller answer) k = tt
    one (AnswersWithKeys caller other answer) k = tt
    one (Says caller initial time report) k = tt
    one (Ends caller time) k = tt
    one (Responds caller time contents) k = tt
    one (SaysWithKeys output) k = k

verdict_plain : (v : Verdict) (xs : List Reply) → IsShortVerdict v → Each IsPlainReply xs → Each IsPlainReply (answers_as v xs)
verdict_plain Passes xs short h = h
verdict_plain Ignored xs short h = h
verdict_plain (Refused peer c) xs short h = (tt, tt)
verdict_plain (Repeats None) xs short h = h
verdict_plain (Repeats (Some request)) xs short h = with_plain request xs h
verdict_plain (Decrypted bytes) xs short h = h
verdict_plain (Answered answer) xs short h = (response_plain answer.packet short, tt)

-- a payload below the bound has a confirmed key
confirmed_below : (keys : Keys) (number : ℕ) → number < payloads_confirmed keys → may_send keys number ≡ true
confirmed_below keys number h = let lt : number / 2 ^ 24 < keys.confirmed = omega (arith, h) in lt-ltb (number / 2 ^ 24) keys.confirmed lt

under_confirmed : (stored : Bool) (keys : Keys) (caller initial time number origin : ℕ) (again : Bool) (payload : List ℕ)
    → number < payloads_confirmed keys
    → Each (IsConfirmedOutput keys)
    (said_under_if stored (payload_key keys number) caller initial time (subscriber.Media number again origin payload))
under_confirmed true keys caller initial time number origin again payload h = ((refl, confirmed_below keys number h), tt)
under_confirmed false keys caller initial time number origin again payload h = tt

one_confirmed : (keys : Keys) (caller initial time : ℕ) (r : subscriber.Report) → IsBelow (payloads_confirmed keys) r
    → Each (IsConfirmedOutput keys) (said_with keys caller initial time r)
one_confirmed keys caller initial time (subscriber.Acked mark) h = (tt, tt)
one_confirmed keys caller initial time (subscriber.Dropped run) h = (tt, tt)
one_confirmed keys caller initial time (subscriber.Media number again origin payload) h =
    under_confirmed (has_key keys number) keys caller initial time number origin again payload h
one_confirmed keys caller initial time subscriber.KeepAlive h = (tt, tt)

all_confirmed : (keys : Keys) (caller initial time : ℕ) (pending : List KeyedOutput) (rs : List subscriber.Report)
    → Each (IsConfirmedOutput keys) pending → All (IsBelow (payloads_confirmed keys)) rs
    → Each (IsConfirmedOutput keys) (all_said_with keys caller initial time pending rs)
all_confirmed keys caller initial time pending [] h below = h
all_confirmed keys caller initial time pending (r ∷ rs) h below =
    let rest = All-tail (IsBelow (payloads_confirmed keys)) r rs below in
    by (subscriber.is_drop r) (all_confirmed keys caller initial time pending rs h rest) (all_confirmed keys caller initial time [] rs tt rest)
  where
    one : List KeyedOutput
    one = said_with keys caller initial time r

    first : Each (IsConfirmedOutput keys) one
    first = one_confirmed keys caller initial time r (All-head (IsBelow (payloads_confirmed keys)) r rs below)

    by : (b : Bool) → Each (IsConfirmedOutput keys) (all_said_with keys caller initial time pending rs)
        → Each (IsConfirmedOutput keys) (all_said_with keys caller initial time [] rs)
        → Each (IsConfirmedOutput keys)
        (cond b (one ++ all_said_with keys caller initial time pending rs) (pending ++ one ++ all_said_with keys caller initial time [] rs))
    by true later none = each_append (IsConfirmedOutput keys) one (all_said_with keys caller initial time pending rs) first later
    by false later none =
        each_append (IsConfirmedOutput keys) (pending ++ one) (all_said_with keys caller initial time [] rs)
        (each_append (IsConfirmedOutput keys) pending one h first) none

announced_confirmed : (announced : Bool) (keys other : Keys) (caller time : ℕ) → Each (IsConfirmedOutput other) (announcement_if announced keys caller time)
announced_confirmed true keys other caller time = (tt, tt)
announced_confirmed false keys other caller time = tt

-- an announcement confirms nothing, and changes no key of a payload
before_it : (announced : Bool) (at : ℕ) (keys : Keys) (os : List KeyedOutput) → Each (IsConfirmedOutput (keys_with announced at keys)) os
    → Each (IsConfirmedOutput keys) os
before_it announced at keys [] h = tt
before_it announced at keys (o ∷ os) h = (one announced o h.0, before_it announced at keys os h.1)
  where
    under : (b : Bool) (key : PacketKey) (caller initial time : ℕ) (r : subscriber.Report)
        → IsConfirmedOutput (keys_with b at keys) (keyed.SaysUnder key caller initial time r)
        → IsConfirmedOutput keys (keyed.SaysUnder key caller initial time r)
    under b key caller initial time (subscriber.Acked mark) k = absurd k
    under b key caller initial time (subscriber.Dropped run) k = absurd k
    under true key caller initial time (subscriber.Media number again origin payload) k = k
    under false key caller initial time (subscriber.Media number again origin payload) k = k
    under b key caller initial time subscriber.KeepAlive k = absurd k

    one : (b : Bool) (x : KeyedOutput) → IsConfirmedOutput (keys_with b at keys) x → IsConfirmedOutput keys x
    one b (keyed.Says caller initial time report) k = k
    one b (keyed.SaysUnder key caller initial time report) k = under b key caller initial time report k
    one b (keyed.Announces caller time contents) k = tt

outputs_confirmed : (few announced : Bool) (keys : Keys) (terms : subscriber.Terms) (caller initial time : ℕ) (recent : Bool) (m : subscriber.Subscribing)
    → has_few m ≡ few → sent_end m.sending.marks ≤ payloads_confirmed keys
    → Each (IsConfirmedOutput keys) (outputs_if few announced keys terms caller initial time recent m)
outputs_confirmed true announced keys terms caller initial time recent m is h =
    let few : length m.sending.queue < 2 ^ 64 = grind (arith, nat_tests, is) in
    all_confirmed keys caller initial time (announcement_if announced keys caller time)
    (subscriber.reports terms time recent (held terms (payloads_confirmed keys) m)) (announced_confirmed announced keys keys caller time)
    (stays_below_bounds.sends terms time recent (payloads_confirmed keys) m few h)
outputs_confirmed false announced keys terms caller initial time recent m is h = tt

with_same : (announced : Bool) (time : ℕ) (keys : Keys) → payloads_confirmed (keys_with announced time keys) ≡ payloads_confirmed keys
with_same true time keys = refl
with_same false time keys = refl

past_confirmed : (keys : Keys) (terms : Agreed) (caller initial time : ℕ) (recent : Bool) (past : Past) → end_of past ≤ payloads_confirmed keys
    → Each (IsConfirmedOutput keys) (outputs_of keys terms caller initial time recent past)
past_confirmed keys terms caller initial time recent (Publishes p) h = tt
past_confirmed keys terms caller initial time recent (Subscribes m) h =
    let announced = is_announced keys time m in
    before_it announced time keys (outputs_if (has_few m) announced (keys_reported time m keys) terms.subscriber caller initial time recent m)
    (outputs_confirmed (has_few m) announced (keys_reported time m keys) terms.subscriber caller initial time recent m refl
    (subst (λ (n : ℕ). sent_end m.sending.marks ≤ n) (sym (with_same announced time keys)) h))

ending_confirmed : (keys : Keys) (caller time : ℕ) (past : Past) → Each (IsConfirmedOutput keys) (announced_past keys caller time past)
ending_confirmed keys caller time (Publishes p) = tt
ending_confirmed keys caller time (Subscribes m) = announced_confirmed (is_announced keys time m) (keys_reported time m keys) keys caller time

-- what a session is sent
to_session : (own : ℕ → Option Keys) (ss : List Session) (s : Session) (keys : Keys) (os : List KeyedOutput) → find (is_open_in s.slot) ss ≡ Some s
    → own s.slot ≡ Some keys → Each (IsConfirmedOutput keys) os
    → Each (IsConfirmedReply own ss) (map (keyed_by s) os)
to_session own ss s keys os found has h =
    each_mapped (IsConfirmedOutput keys) (IsConfirmedReply own ss) (keyed_by s)
    (λ o one. record { session = s; keys = keys; is_open = found; to_its_peer = refl; has_them = has; output_is = one }) os h

keyed_confirmed : (here : Bool) (own : ℕ → Option Keys) (ss : List Session) (e : Terms) (clock : ℕ) (s : Session) (keys : Keys)
    → find (is_open_in s.slot) ss ≡ Some s → own s.slot ≡ Some keys → (here ≡ true → end_of s.past ≤ payloads_confirmed keys)
    → Each (IsConfirmedReply own ss) (keyed_packets_at keys e here clock s)
keyed_confirmed true own ss e clock s keys found has h =
    to_session own ss s keys (outputs_at keys e true clock s) found has
    (past_confirmed keys (terms_of e s) s.conclusion.caller s.conclusion.initial (time_in s clock) (is_recent s clock) s.past (h refl))
keyed_confirmed false own ss e clock s keys found has h = tt

served_confirmed : (whole : Bool) (o : Option Keys) (own : ℕ → Option Keys) (ss : List Session) (e : Terms) (clock : ℕ) (s : Session)
    → find (is_open_in s.slot) ss ≡ Some s → own s.slot ≡ o → (b : Bool) → is_subscriber s ≡ b → (b ≡ true → Covers (end_of s.past) o)
    → Each (IsConfirmedReply own ss) (served_at whole o e clock s)
served_confirmed true None own ss e clock s found has b is h = (tt, tt)
served_confirmed true (Some keys) own ss e clock s found has b is h =
    each_append (IsConfirmedReply own ss) (announced_to (Some keys) clock s) (shutdown_to clock s ∷ [])
    (to_session own ss s keys (announced_past keys s.conclusion.caller (time_in s clock) s.past) found has
    (ending_confirmed keys s.conclusion.caller (time_in s clock) s.past))
    (tt, tt)
served_confirmed false None own ss e clock s found has true is h = absurd (h refl)
served_confirmed false None own ss e clock s found has false is h =
    subst (λ (d : Bool). Each (IsConfirmedReply own ss) (packets_at e d clock s)) (sym is) tt
served_confirmed false (Some keys) own ss e clock s found has b is h =
    keyed_confirmed (is_subscriber s) own ss e clock s keys found has (λ here. h (sym is ∙ here))

not_so : (b : Bool) → not b ≡ true → b ≡ false
not_so true h = absurd (let bad : false ≡ true = h in cc)
not_so false h = refl

slot_confirmed : (own : ℕ → Option Keys) (ss : List Session) (e : Terms) (clock : ℕ) (over : Bool)
    → ((k : ℕ) (s : Session) → find (is_open_in k) ss ≡ Some s → publishes s.conclusion.role ≡ false → Covers (end_of s.past) (own k))
    → (k : ℕ) (f : Option Session) → find (is_open_in k) ss ≡ f
    → IfSome f (λ s. Each (IsConfirmedReply own ss) (served_at (has_whole_file over s) (own s.slot) e clock s))
slot_confirmed own ss e clock over has k None found = tt
slot_confirmed own ss e clock over has k (Some s) found =
    let slot : s.slot ≡ k = (open_parts k s (found_passes (is_open_in k) ss s found)).1 in
    served_confirmed (has_whole_file over s) (own s.slot) own ss e clock s
    (subst (λ (n : ℕ). find (is_open_in n) ss ≡ Some s) (sym slot) found) refl (is_subscriber s) refl
    (λ reads. subst (λ (n : ℕ). Covers (end_of s.past) (own n)) (sym slot)
    (has k s found (not_so (publishes s.conclusion.role) (and_parts s.is_open (not (publishes s.conclusion.role)) reads).1)))

last_confirmed : (own : ℕ → Option Keys) (ss : List Session) (e : Terms) (clock : ℕ) (over : Bool)
    → ((k : ℕ) (s : Session) → find (is_open_in k) ss ≡ Some s → publishes s.conclusion.role ≡ false → Covers (end_of s.past) (own k))
    → Each (IsConfirmedReply own ss) (served own e clock over ss)
last_confirmed own ss e clock over has =
    each_flat (λ (s : Session). Each (IsConfirmedReply own ss) (served_at (has_whole_file over s) (own s.slot) e clock s)) (IsConfirmedReply own ss)
    (λ s. served_at (has_whole_file over s) (own s.slot) e clock s) (λ s h. h) (by_slot e ss)
    (each_picked (λ (s : Session). Each (IsConfirmedReply own ss) (served_at (has_whole_file over s) (own s.slot) e clock s))
    (λ slot. find (is_open_in slot) ss) (λ slot. slot_confirmed own ss e clock over has slot (find (is_open_in slot) ss) refl)
    (numbers_from 0 e.sessions))

replies_confirmed : (is_closed : Bool) (e : Terms) (index : ℕ) (items : List Item) (item : Item) → secures e Request ≡ true
    → let m = route_before e index item items in
    Each (IsConfirmedReply (own_by e index item m) (passed_by e index item m)) (replies_at is_closed e index item m)
replies_confirmed true e index items item secured = tt
replies_confirmed false e index items item secured =
    let m = route_before e index item items in
    let clock = clock_after item m in
    let ss = passed_by e index item m in
    let own = own_by e index item m in
    let j = judgement e index item m in
    let idle = idle_notified e clock m.sessions in
    let heard = (taken e index clock (heard_as j.verdict item) (advanced e clock m.sessions)).answers in
    let answers = (taken_by e index item m).answers in
    let first = packets_where e clock speaks ss in
    let last = served own e clock (is_file_over e ss) ss in
    let P : Reply → Type 0 = IsConfirmedReply own ss in
    each_append P (idle ++ answers ++ first) last
    (each_append P (idle ++ answers) first
    (each_append P idle answers
    (all_plain own ss idle (all_said_plain idle (silence_said e clock (by_slot e m.sessions))) (idle_covered e clock (by_slot e m.sessions)))
    (all_plain own ss answers
    (verdict_plain j.verdict heard (verdict_short e index items item)
    (all_said_plain heard (heard_item_sound e index items item (after_sound e index items)).answers))
    (verdict_covered j.verdict heard (verdict_short e index items item)
    (taken_covered e index clock (heard_as j.verdict item) (advanced e clock m.sessions)))))
    (all_plain own ss first
    (all_said_plain first (all_packets_said e clock speaks ss (passed_by_sound e index items item (after_sound e index items))))
    (first_covered e clock ss (passed_by_sound e index items item (after_sound e index items)))))
    (last_confirmed own ss e clock (is_file_over e ss)
    (λ k s found reads. subst (λ (b : Bool). Covers (end_of s.past) (own_if b j.keys.held k)) (sym secured)
    (passed_own e index item m secured (before_are_alone e index items item) (before_have_own e index items item secured) k s found reads)))

pub payloads_are_confirmed : PayloadsAreConfirmed
payloads_are_confirmed e index items item secured =
    let m = route_before e index item items in
    each_all (IsConfirmedReply (own_by e index item m) (passed_by e index item m)) (replies_to e index item m)
    (replies_confirmed m.is_closed e index items item secured)
