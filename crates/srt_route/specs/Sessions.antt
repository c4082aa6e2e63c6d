-- The sessions of a route: every one that was ever opened, the newest first.
use Rattle.std.specs.Prelude.{ℕ, ◌+◌, ◌-◌, ◌*◌, ◌%◌, ◌^◌, Bool, true, false, Option, None, Some, List, [], ◌∷◌, length, min, max, filter}
use Rattle.std.specs.Prelude.{find, filter_map, map, not, nat_le, nat_lt, ◌==◌, ◌&&◌, ◌||◌, if◌then◌else◌}
use Rattle.std.specs.List.{list_any}
use Rattle.std.specs.Option.{is_some, option_or}
use Rattle.std.specs.Str.{bytes_eq}
use Rattle.srt_types.specs.declared.shared.Peer.{Peer}
use Rattle.srt_types.specs.declared.shared.Mode.{Mode}
use Rattle.srt_types.specs.declared.shared.Mode.TheVariants.{Live, Buffer}
use Rattle.srt_types.specs.declared.shared.Callers.{Callers}
use Rattle.srt_types.specs.declared.shared.Callers.TheVariants.{Draft, Libsrt}
use Rattle.srt_types.specs.declared.shared.Role.{Role}
use Rattle.srt_types.specs.declared.shared.Role.TheVariants.{Publish, Request}
use Rattle.srt_types.specs.Access.{is_same_site}
use Rattle.srt_types.specs.Lift.{stamped_from}
use Rattle.srt_types.specs.Runs.{numbers_from}
use Rattle.srt_types.specs.Terms.{Terms}
use Rattle.srt_packet.specs.Grammar.{Body}
use Rattle.srt_hs.specs.declared.writing.HsAnswer.{HsAnswer}
use Rattle.srt_hs.specs.declared.writing.AnswerKind.TheVariants as answers
use Rattle.srt_sub.specs.declared.resend_all.Resending.{Resending}
use Rattle.srt_sub.specs.declared.resend_all.Resending.TheVariants.{AtEachTimeout, Once, BackingOff}
use Rattle.srt_session_keys.specs.Subscriber.{Subscriber as Keys}
use Rattle.srt_route.specs.declared.conclusion_reading.Conclusion.{Conclusion}
use Rattle.srt_route.specs.EncryptedOutput.{KeyedOutput}
use Rattle.srt_route.specs.Past.{Past, Agreed, Report, expired_past, took_past, ends_with, answers_to, payloads_of, passed_past, reports_of}
use Rattle.srt_route.specs.Past.{has_left, outputs_of, reported_past, silence_of}

pub record Session : Type 0 where
  pub slot : ℕ
  pub generation : ℕ
  pub peer : Peer
  -- the timestamp of its conclusion
  pub stamp : ℕ
  pub conclusion : Conclusion
  -- the times at which it was opened and at which its peer was last heard, in microseconds
  pub opening : ℕ
  pub heard : ℕ
  pub is_open : Bool
  -- of a draining publisher's session, the time at which it ends if something is still left to deliver; it drains from
  -- its SHUTDOWN on
  pub drains : Option ℕ
  -- whether it took over from another publisher, and none took over from it since
  pub took_over : Bool
  -- whether publishers' sessions ended while it was open, the last of them by its own SHUTDOWN; on a route for libsrt
  -- callers only
  pub file_ended : Bool
  -- whether it is a subscriber's that didn't confirm its own key in time
  pub is_given_up : Bool
  -- what it received and sent
  pub past : Past

abbrev pub is_same_peer : Peer → Peer → Bool
is_same_peer p q = bytes_eq p.ip q.ip && p.port == q.port

-- a session's socket ID: the route's index, the generation and the slot (our choice)
abbrev pub id_of : (index generation slot : ℕ) → ℕ
id_of index generation slot = (index + 1) * 2 ^ 20 + generation % 4096 * 256 + slot

abbrev pub session_id : (index : ℕ) → Session → ℕ
session_id index s = id_of index s.generation s.slot

-- in live mode the greater of both sides' delays, in buffer mode 0 (section 4.4)
abbrev pub agreed_ms : Mode → (ours theirs : ℕ) → ℕ
agreed_ms Live ours theirs = max ours theirs
agreed_ms Buffer ours theirs = 0

abbrev pub receiver_ms : Terms → Conclusion → ℕ
receiver_ms e c = agreed_ms e.mode e.latency_ms c.sender_ms

abbrev pub sender_ms : Terms → Conclusion → ℕ
sender_ms e c = agreed_ms e.mode e.latency_ms c.receiver_ms

abbrev pub agreed_mtu : Conclusion → ℕ
agreed_mtu c = min 1500 c.mtu

-- the answer to a conclusion that opens the session with this ID (section 4.3.1.2)
abbrev pub agreed : Terms → (id : ℕ) → Conclusion → HsAnswer
agreed e id c =
    record {
      initial = c.initial;
      what = answers.Conclusion (agreed_mtu c) e.buffer id e.mode (receiver_ms e c) (sender_ms e c) c.congestion;
    }

abbrev pub answer_of : Terms → (index : ℕ) → Session → HsAnswer
answer_of e index s = agreed e (session_id index s) s.conclusion

-- when a subscriber's session sends again what is in flight without a NAK. On a route for libsrt callers, in live mode,
-- once to one that sends periodic NAKs, and ever more rarely to any other
abbrev pub resending_of : Callers → Mode → (periodic_nak : Bool) → Resending
resending_of Draft mode periodic_nak = AtEachTimeout
resending_of Libsrt Live true = Once
resending_of Libsrt Live false = BackingOff
resending_of Libsrt Buffer periodic_nak = BackingOff

-- the parameters of the session, in microseconds, packets and bytes. The first delay is for data from a publisher, the
-- second for data to a subscriber. The route's rules determine which rules a publisher's session follows, and how much
-- a subscriber's session may retransmit
abbrev pub agreed_terms : Terms → Conclusion → Agreed
agreed_terms e c =
    record {
      publisher = record { mode = e.mode; width = e.buffer; delay = 1000 * receiver_ms e c; callers = e.rules.callers };
      subscriber = record {
        mode = e.mode;
        width = e.buffer;
        delay = 1000 * sender_ms e c;
        mtu = agreed_mtu c;
        window = c.window;
        resend_percent = e.rules.resend_percent;
        resending = resending_of e.rules.callers e.mode c.periodic_nak;
      };
    }

abbrev pub terms_of : Terms → Session → Agreed
terms_of e s = agreed_terms e s.conclusion

abbrev pub publishes : Role → Bool
publishes Publish = true
publishes Request = false

abbrev pub is_publisher : Session → Bool
is_publisher s = s.is_open && publishes s.conclusion.role

abbrev pub is_subscriber : Session → Bool
is_subscriber s = s.is_open && not (publishes s.conclusion.role)

-- the number of open publishers
abbrev pub open_publishers : List Session → ℕ
open_publishers sessions = length (filter is_publisher sessions)

-- the open publisher that was opened first
abbrev pub first_opened : List Session → Option Session
first_opened [] = None
first_opened (s ∷ older) = option_or (first_opened older) (if is_publisher s then Some s else None)

-- whether this is an open publisher that took over
abbrev pub leads : Session → Bool
leads s = is_publisher s && s.took_over

-- the active publisher: the open one that took over, otherwise the one that was opened first; the other one is the
-- standby (our choice). So the active one stays active while it is open: one that opens later didn't take over and was
-- opened last; one that ends leaves the others' marks; and a take-over marks the standby and unmarks the active one
abbrev pub active : List Session → Option Session
active sessions = option_or (find leads sessions) (first_opened sessions)

-- whether a session is the active publisher's: an open session is identified by its slot
abbrev pub has_slot : Option Session → (slot : ℕ) → Bool
has_slot None slot = false
has_slot (Some s) slot = s.slot == slot

abbrev pub is_active : List Session → Session → Bool
is_active sessions s = has_slot (active sessions) s.slot

-- the standby: the open publisher that isn't active
abbrev pub is_standby : List Session → Session → Bool
is_standby sessions s = is_publisher s && not (is_active sessions s)

abbrev pub standby : List Session → Option Session
standby sessions = find (is_standby sessions) sessions

abbrev pub is_open_in : (slot : ℕ) → Session → Bool
is_open_in slot s = s.is_open && s.slot == slot

-- the open sessions, in ascending order of slots
abbrev pub by_slot : Terms → List Session → List Session
by_slot e sessions = filter_map (λ slot. find (is_open_in slot) sessions) (numbers_from 0 e.sessions)

abbrev pub is_free : List Session → (slot : ℕ) → Bool
is_free sessions slot = not (list_any (is_open_in slot) sessions)

-- the number of free slots
abbrev pub free_slots : Terms → List Session → ℕ
free_slots e sessions = length (filter (is_free sessions) (numbers_from 0 e.sessions))

-- the number of open sessions of the site of an IP address, whatever their ports
abbrev pub is_from : (ip : List ℕ) → Session → Bool
is_from ip s = s.is_open && is_same_site s.peer.ip ip

abbrev pub sessions_from : (ip : List ℕ) → List Session → ℕ
sessions_from ip sessions = length (filter (is_from ip) sessions)

-- the lowest free slot
abbrev pub free_slot : Terms → List Session → Option ℕ
free_slot e sessions = find (is_free sessions) (numbers_from 0 e.sessions)

-- the number of sessions that were ever opened in the slot
abbrev pub generation_of : List Session → (slot : ℕ) → ℕ
generation_of [] slot = 0
generation_of (s ∷ sessions) slot = let earlier = generation_of sessions slot in if s.slot == slot then earlier + 1 else earlier

-- time and timestamps relative to a session's opening and to its conclusion
abbrev pub time_in : Session → (clock : ℕ) → ℕ
time_in s clock = clock - s.opening

abbrev pub stamp_in : Session → (stamp : ℕ) → ℕ
stamp_in s stamp = stamped_from s.stamp stamp

-- whether a session drains: it delivers, but accepts and sends no packets any more (our choice)
abbrev pub is_draining : Session → Bool
is_draining s = is_some s.drains

-- whether the peer was heard less than a second ago, a packet of this event included (our choice)
abbrev pub is_recent_at : (heard clock : ℕ) → Bool
is_recent_at heard clock = nat_lt (clock - heard) 1_000_000

abbrev pub is_recent : Session → (clock : ℕ) → Bool
is_recent s clock = is_recent_at s.heard clock

-- whether 5 s have passed since the peer was last heard (our choice)
abbrev pub has_fallen_silent : (heard clock : ℕ) → Bool
has_fallen_silent heard clock = nat_le 5_000_000 (clock - heard)

-- whether the peer fell silent; never of a draining session, whose packets are ignored
abbrev pub is_silent_at : (drains : Option ℕ) → (heard clock : ℕ) → Bool
is_silent_at None heard clock = has_fallen_silent heard clock
is_silent_at (Some until) heard clock = false

-- whether a session ends as one whose peer fell silent: because it did, or because the session is given up
abbrev pub is_idle : Session → (clock : ℕ) → Bool
is_idle s clock = s.is_given_up || is_silent_at s.drains s.heard clock

-- whether a session has expired: its peer is idle, it drained for too long, or it is given up
abbrev pub is_over_at : (drains : Option ℕ) → (heard clock : ℕ) → Bool
is_over_at None heard clock = has_fallen_silent heard clock
is_over_at (Some until) heard clock = nat_le until clock

abbrev pub is_over : Session → (clock : ℕ) → Bool
is_over s clock = s.is_given_up || is_over_at s.drains s.heard clock

-- a session after its time has advanced: an expired one ends, any other drops what is too late
abbrev pub aged_at : Terms → (lives : Bool) → (time : ℕ) → Session → Session
aged_at e lives time s = if lives then record s { past = expired_past (terms_of e s) time s.past } else record s { is_open = false }

abbrev pub aged : Terms → (clock : ℕ) → Session → Session
aged e clock s = aged_at e (s.is_open && not (is_over s clock)) (time_in s clock) s

-- the time without data after which the standby takes over, in microseconds: in live mode, if the route has one
abbrev pub takeover_us : Mode → Option ℕ → Option ℕ
takeover_us Live None = None
takeover_us Live (Some ms) = Some (1000 * ms)
takeover_us Buffer takeover_ms = None

-- whether a publisher's session received no data for `limit` microseconds (our choice)
abbrev pub is_silent : (limit clock : ℕ) → Session → Bool
is_silent limit clock s = nat_le limit (silence_of (time_in s clock) s.past)

-- whether the active publisher has failed: it received no data for this time, and the standby received some
abbrev pub has_failed : (limit clock : ℕ) → (active standby : Option Session) → Bool
has_failed limit clock (Some s) (Some t) = is_silent limit clock s && not (is_silent limit clock t)
has_failed limit clock (Some s) None = false
has_failed limit clock None standby = false

abbrev pub takes_over_after : Option ℕ → (clock : ℕ) → List Session → Bool
takes_over_after None clock sessions = false
takes_over_after (Some limit) clock sessions = has_failed limit clock (active sessions) (standby sessions)

-- whether the standby takes over; never while a session drains
abbrev pub drains_open : Session → Bool
drains_open s = s.is_open && is_draining s

abbrev pub number_draining : List Session → ℕ
number_draining sessions = length (filter drains_open sessions)

abbrev pub takes_over_if : (draining : Bool) → Option ℕ → (clock : ℕ) → List Session → Bool
takes_over_if true limit clock sessions = false
takes_over_if false limit clock sessions = takes_over_after limit clock sessions

abbrev pub takes_over : Terms → (clock : ℕ) → List Session → Bool
takes_over e clock sessions = takes_over_if (not (number_draining sessions == 0)) (takeover_us e.mode e.rules.takeover_ms) clock sessions

-- a session after a take-over, which marks the standby and unmarks the publisher that was active
abbrev pub marked : List Session → Session → Session
marked sessions s = if is_publisher s then record s { took_over = not (is_active sessions s) } else s

abbrev pub marked_if : (due : Bool) → List Session → List Session
marked_if true sessions = map (marked sessions) sessions
marked_if false sessions = sessions

-- a value on a route for libsrt callers, None where the callers follow the draft
abbrev pub of_libsrt : Callers → Option Bool → Option Bool
of_libsrt Draft o = None
of_libsrt Libsrt o = o

-- a session after a publisher's session ended, by its own SHUTDOWN or not; unchanged if none ended
abbrev pub with_end : Option Bool → Session → Session
with_end None s = s
with_end (Some by_shutdown) s = record s { file_ended = by_shutdown }

-- whether publishers' sessions ended by silence, and so not by their own SHUTDOWN, from their number before and after
abbrev pub silent_end : (before after : ℕ) → Option Bool
silent_end before after = if nat_lt after before then Some false else None

abbrev pub time_end : Terms → (before after : List Session) → Option Bool
time_end e before after = of_libsrt e.rules.callers (silent_end (open_publishers before) (open_publishers after))

-- the sessions after step 2: time advances for all, and after all ends the standby takes over if it is due (our choice)
abbrev pub advanced : Terms → (clock : ℕ) → List Session → List Session
advanced e clock sessions =
    let later = map (aged e clock) sessions in
    map (with_end (time_end e sessions later)) (marked_if (takes_over e clock later) later)

-- whether a packet ends a session; not if the session drains from then on
abbrev pub ends_unless : (drains : Option ℕ) → (ends : Bool) → Bool
ends_unless None ends = ends
ends_unless (Some until) ends = false

-- a session after a packet, from which on it drains or not
abbrev pub took_at : (drains : Option ℕ) → Terms → (clock time stamp : ℕ) → Body → Session → Session
took_at drains e clock time stamp body s =
    record s {
      heard = clock;
      is_open = not (ends_unless drains (ends_with (terms_of e s) s.conclusion.initial body s.past));
      drains = drains;
      past = took_past (terms_of e s) s.conclusion.initial time stamp body s.past;
    }

abbrev pub took : (drains : Option ℕ) → Terms → (clock stamp : ℕ) → Body → Session → Session
took drains e clock stamp body s = took_at drains e clock (time_in s clock) (stamp_in s stamp) body s

-- the packets that a session sends at once in answer to a packet
abbrev pub answered_at_once : Body → Session → List Report
answered_at_once body s = answers_to s.conclusion.initial body s.past

-- the payloads that a session delivers, and the session after a delivery
abbrev pub payloads : Terms → (clock : ℕ) → (room : Option ℕ) → Session → List (List ℕ)
payloads e clock room s = payloads_of (terms_of e s) (time_in s clock) room s.past

abbrev pub passed_at : Terms → (here : Bool) → (time : ℕ) → (room : Option ℕ) → List (List ℕ) → Session → Session
passed_at e here time room delivery s = if here then record s { past = passed_past (terms_of e s) time room delivery s.past } else s

abbrev pub passed : Terms → (clock : ℕ) → (room : Option ℕ) → List (List ℕ) → Session → Session
passed e clock room delivery s = passed_at e s.is_open (time_in s clock) room delivery s

-- a session after the deliveries of an event: a draining one ends if nothing is left to deliver; in buffer mode each
-- delivery extends its time to five seconds from then
abbrev pub renewed : Mode → (delivered : Bool) → (clock until : ℕ) → ℕ
renewed Live delivered clock until = until
renewed Buffer true clock until = clock + 5_000_000
renewed Buffer false clock until = until

abbrev pub settled_at : (drains : Option ℕ) → Terms → (delivered : Bool) → (clock : ℕ) → Session → Session
settled_at None e delivered clock s = s
settled_at (Some until) e delivered clock s =
    record s { is_open = s.is_open && has_left (terms_of e s) s.past; drains = Some (renewed e.mode delivered clock until) }

abbrev pub settled : Terms → (delivered : Bool) → (clock : ℕ) → Session → Session
settled e delivered clock s = settled_at s.drains e delivered clock s

-- the publishers that send at the end of an event
abbrev pub speaks : Session → Bool
speaks s = is_publisher s && not (is_draining s)

-- the packets that a session sends at the end of an event, and the session after them
abbrev pub reports_at : Terms → (here : Bool) → (clock : ℕ) → Session → List Report
reports_at e here clock s = if here then reports_of (terms_of e s) (time_in s clock) (is_recent s clock) s.past else []

-- the same of a subscriber's session with keys of its own
abbrev pub outputs_at : Keys → Terms → (here : Bool) → (clock : ℕ) → Session → List KeyedOutput
outputs_at keys e here clock s =
    if here
    then outputs_of keys (terms_of e s) s.conclusion.caller s.conclusion.initial (time_in s clock) (is_recent s clock) s.past
    else []

abbrev pub reported_at : (keys : Option Keys) → Terms → (here : Bool) → (clock : ℕ) → Session → Session
reported_at keys e here clock s =
    if here then record s { past = reported_past keys (is_draining s) (terms_of e s) (time_in s clock) (is_recent s clock) s.past } else s

abbrev pub reported : (keys : Option Keys) → Terms → (clock : ℕ) → Session → Session
reported keys e clock s = reported_at keys e s.is_open clock s
