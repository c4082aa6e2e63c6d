-- The subscribers' queues continue from event to event.
use Rattle.std.proofs.Common.{◌≡◌, ◌⊎◌, inl, inr, ℕ, Bool, true, false, cond, ◌==◌, ◌&&◌, not, Option, None, Some, List, [], ◌∷◌, ◌++◌, map, find}
use Rattle.std.proofs.Common.{Result, Ok, Err, refl, sym, ap, ◌∙◌, append_assoc}
use Rattle.std.proofs.lemmas.List.{append-nil}
use Rattle.srt_types.specs.declared.shared.Peer.{Peer}
use Rattle.srt_types.specs.declared.shared.Mode.{Mode}
use Rattle.srt_types.specs.declared.shared.Mode.TheVariants.{Live, Buffer}
use Rattle.srt_types.specs.declared.shared.Callers.{Callers}
use Rattle.srt_types.specs.declared.shared.Callers.TheVariants.{Draft, Libsrt}
use Rattle.srt_types.specs.Terms.{Terms}
use Rattle.srt_types.specs.Items.{Item, Received, Tick, Close}
use Rattle.srt_packet.specs.declared.reading.PacketFault.{PacketFault}
use Rattle.srt_packet.specs.Grammar.{Packet, Body}
use Rattle.srt_packet.specs.Reading.{packet_in}
use Rattle.srt_sendbuf.specs.Sending.{Queued, Sending, all_lost, sent}
use Rattle.srt_sub.specs.Heard as to_subscriber
use Rattle.srt_sub.specs.Subscribing as subscriber
use Rattle.srt_session_keys.specs.Subscriber.{Subscriber as Keys}
use Rattle.srt_sub.specs.Held.{held}
use Rattle.srt_route.specs.EncryptedOutput.{has_few, payloads_confirmed, reported_if}
use Rattle.srt_route.specs.Route.{own_by}
use Rattle.srt_route.specs.declared.refusals.RefusalCause.{RefusalCause}
use Rattle.srt_route.specs.declared.conclusion_reading.Conclusion.{Conclusion}
use Rattle.srt_route.specs.Past.{Past, Publishes, Subscribes, Agreed, expired_past, took_past, passed_past, reported_past}
use Rattle.srt_route.specs.Sessions.{Session, advanced, aged, aged_at, generation_of, is_active, is_over, is_publisher, marked, marked_if, passed, passed_at}
use Rattle.srt_route.specs.Sessions.{reported, reported_at, stamp_in, takes_over, terms_of, time_end, time_in, with_end}
use Rattle.srt_route.specs.Route.{Route, after, arrived, clock_after, concluded, concludes, considered, decision, delivered, delivery, ended, heard_if}
use Rattle.srt_route.specs.Route.{is_for, is_of, least_room, packet_taken, passed_by, read_taken, room_if, session_opened, sessions_at, taken, taken_by}
use Rattle.srt_route.specs.Route.{heard_by}
use Rattle.srt_route.specs.Route.{drain_end, drain_of, finished, finished_at, gives_some, has_whole_file, is_file_over, packet_end, settled_by}
use Rattle.srt_route.specs.Route.{took_if, took_packet, without_destination}
use Rattle.srt_route.specs.Sessions.{is_draining, is_recent, open_publishers, settled, settled_at}
use Rattle.srt_route.specs.Queues.{AreContinued, AreSome, HasOpened, IsContinued, QueuesGoOn, delivery_by, payload_in, queue_in}
use Rattle.srt_route.proofs.stored.Seats.{took_queue}
use Rattle.srt_route.specs.GivingUp.{given_up, given_up_at, given_up_if, is_late}
use Rattle.srt_route.specs.Route.{route_before}
use Rattle.srt_route.proofs.model.GivingUp.{gives_up, gives_up_generations}
use Rattle.srt_types.specs.declared.shared.Role.TheVariants.{Request}
use Rattle.srt_route.specs.RouteKeys.{own_in, secures}

-- nothing is added
same : (given : List (List ℕ)) (s t : Session) → t.slot ≡ s.slot → t.generation ≡ s.generation → queue_in t.past ≡ queue_in s.past → IsContinued given s t
same given s t slot generation queue =
    record { slot_is = slot; generation_is = generation; added = []; queue_is = queue ∙ sym (append-nil (queue_in s.past)); added_are = tt }

-- some payloads and then none, or none and then some
none_and : (given : List (List ℕ)) (s t u : Session) → queue_in t.past ≡ queue_in s.past → t.slot ≡ s.slot → t.generation ≡ s.generation
    → IsContinued given t u → IsContinued given s u
none_and given s t u queue slot generation h =
    record {
      slot_is = h.slot_is ∙ slot;
      generation_is = h.generation_is ∙ generation;
      added = h.added;
      queue_is = h.queue_is ∙ ap (λ (q : List Queued). q ++ h.added) queue;
      added_are = h.added_are;
    }

and_none : (given : List (List ℕ)) (s t u : Session) → queue_in u.past ≡ queue_in t.past → u.slot ≡ t.slot → u.generation ≡ t.generation
    → IsContinued given s t → IsContinued given s u
and_none given s t u queue slot generation h =
    record {
      slot_is = slot ∙ h.slot_is;
      generation_is = generation ∙ h.generation_is;
      added = h.added;
      queue_is = queue ∙ h.queue_is;
      added_are = h.added_are;
    }

-- a change that leaves the queues
pub record KeepsQueues (f : Session → Session) : Type 0 where
  pub slot : (s : Session) → (f s).slot ≡ s.slot
  pub generation : (s : Session) → (f s).generation ≡ s.generation
  pub queue : (s : Session) → queue_in (f s).past ≡ queue_in s.past

unchanged : (given : List (List ℕ)) (ss : List Session) → AreContinued given ss ss
unchanged given [] = tt
unchanged given (s ∷ ss) = (same given s s refl refl refl, unchanged given ss)

before : (given : List (List ℕ)) (f : Session → Session) → KeepsQueues f → (ss ts : List Session) → AreContinued given (map f ss) ts → AreContinued given ss ts
before given f keeps [] [] h = tt
before given f keeps [] (t ∷ ts) h = absurd h
before given f keeps (s ∷ ss) [] h = absurd h
before given f keeps (s ∷ ss) (t ∷ ts) h =
    (none_and given s (f s) t (keeps.queue s) (keeps.slot s) (keeps.generation s) h.0, before given f keeps ss ts h.1)

behind : (given : List (List ℕ)) (f : Session → Session) → KeepsQueues f → (ss ts : List Session) → AreContinued given ss ts → AreContinued given ss (map f ts)
behind given f keeps [] [] h = tt
behind given f keeps [] (t ∷ ts) h = absurd h
behind given f keeps (s ∷ ss) [] h = absurd h
behind given f keeps (s ∷ ss) (t ∷ ts) h =
    (and_none given s t (f t) (keeps.queue t) (keeps.slot t) (keeps.generation t) h.0, behind given f keeps ss ts h.1)

-- the steps before the delivery
expired_queue : (mode : Mode) (terms : subscriber.Terms) (time : ℕ) (s : Sending) → (subscriber.expired_in mode terms time s).queue ≡ s.queue
expired_queue Live terms time s = refl
expired_queue Buffer terms time s = refl

past_expired : (terms : Agreed) (time : ℕ) (past : Past) → queue_in (expired_past terms time past) ≡ queue_in past
past_expired terms time (Publishes p) = refl
past_expired terms time (Subscribes m) = expired_queue terms.subscriber.mode terms.subscriber time m.sending

pub ages_queues : (e : Terms) (clock : ℕ) → KeepsQueues (aged e clock)
ages_queues e clock =
    record {
      slot = λ s. slot_of s (s.is_open && not (is_over s clock));
      generation = λ s. generation_is s (s.is_open && not (is_over s clock));
      queue = λ s. queue_of s (s.is_open && not (is_over s clock));
    }
  where
    slot_of : (s : Session) (b : Bool) → (aged_at e b (time_in s clock) s).slot ≡ s.slot
    slot_of s true = refl
    slot_of s false = refl

    generation_is : (s : Session) (b : Bool) → (aged_at e b (time_in s clock) s).generation ≡ s.generation
    generation_is s true = refl
    generation_is s false = refl

    queue_of : (s : Session) (b : Bool) → queue_in (aged_at e b (time_in s clock) s).past ≡ queue_in s.past
    queue_of s true = past_expired (terms_of e s) (time_in s clock) s.past
    queue_of s false = refl

pub gives_up_queues : (own : ℕ → Option Keys) (clock : ℕ) → KeepsQueues (given_up own clock)
gives_up_queues own clock =
    record {
      slot = (gives_up own clock).slot;
      generation = gives_up_generations own clock;
      queue = λ s. queue_of s (is_late (own s.slot) clock s);
    }
  where
    queue_of : (s : Session) (b : Bool) → queue_in (given_up_at b s).past ≡ queue_in s.past
    queue_of s true = refl
    queue_of s false = refl

abbrev with_mark : (b m : Bool) → Session → Session
with_mark b m s = cond b (record s { took_over = m }) s

pub marks_queues : (ss : List Session) → KeepsQueues (marked ss)
marks_queues ss =
    record {
      slot = λ s. slot_of s (is_publisher s) (not (is_active ss s));
      generation = λ s. generation_is s (is_publisher s) (not (is_active ss s));
      queue = λ s. queue_of s (is_publisher s) (not (is_active ss s));
    }
  where
    slot_of : (s : Session) (b m : Bool) → (with_mark b m s).slot ≡ s.slot
    slot_of s true m = refl
    slot_of s false m = refl

    generation_is : (s : Session) (b m : Bool) → (with_mark b m s).generation ≡ s.generation
    generation_is s true m = refl
    generation_is s false m = refl

    queue_of : (s : Session) (b m : Bool) → queue_in (with_mark b m s).past ≡ queue_in s.past
    queue_of s true m = refl
    queue_of s false m = refl

pub hears_queues : (peer : Peer) (caller clock : ℕ) → KeepsQueues (λ s. heard_if (is_of peer caller s) clock s)
hears_queues peer caller clock =
    record {
      slot = λ s. slot_of s (is_of peer caller s);
      generation = λ s. generation_is s (is_of peer caller s);
      queue = λ s. queue_of s (is_of peer caller s);
    }
  where
    slot_of : (s : Session) (b : Bool) → (heard_if b clock s).slot ≡ s.slot
    slot_of s true = refl
    slot_of s false = refl

    generation_is : (s : Session) (b : Bool) → (heard_if b clock s).generation ≡ s.generation
    generation_is s true = refl
    generation_is s false = refl

    queue_of : (s : Session) (b : Bool) → queue_in (heard_if b clock s).past ≡ queue_in s.past
    queue_of s true = refl
    queue_of s false = refl

past_took : (terms : Agreed) (initial time stamp : ℕ) (body : Body) (past : Past) → queue_in (took_past terms initial time stamp body past) ≡ queue_in past
past_took terms initial time stamp body (Publishes p) = refl
past_took terms initial time stamp body (Subscribes m) = took_queue time (to_subscriber.heard_from initial body) m

pub takes_queues : (drains : Option ℕ) (e : Terms) (index clock : ℕ) (peer : Peer) (packet : Packet)
    → KeepsQueues (λ s. took_if drains (is_for index peer packet.dest s) e clock packet s)
takes_queues drains e index clock peer packet =
    record {
      slot = λ s. slot_of s (is_for index peer packet.dest s);
      generation = λ s. generation_is s (is_for index peer packet.dest s);
      queue = λ s. queue_of s (is_for index peer packet.dest s);
    }
  where
    slot_of : (s : Session) (b : Bool) → (took_if drains b e clock packet s).slot ≡ s.slot
    slot_of s true = refl
    slot_of s false = refl

    generation_is : (s : Session) (b : Bool) → (took_if drains b e clock packet s).generation ≡ s.generation
    generation_is s true = refl
    generation_is s false = refl

    queue_of : (s : Session) (b : Bool) → queue_in (took_if drains b e clock packet s).past ≡ queue_in s.past
    queue_of s true = past_took (terms_of e s) s.conclusion.initial (time_in s clock) (stamp_in s packet.stamp) packet.body s.past
    queue_of s false = refl

pub takes_packet_queues : (drains : Option ℕ) (end : Option Bool) (e : Terms) (index clock : ℕ) (peer : Peer) (packet : Packet)
    → KeepsQueues (took_packet drains end e index clock peer packet)
takes_packet_queues drains None e index clock peer packet = takes_queues drains e index clock peer packet
takes_packet_queues drains (Some b) e index clock peer packet =
    let k = takes_queues drains e index clock peer packet in
    record { slot = k.slot; generation = k.generation; queue = k.queue }

pub end_queues : (end : Option Bool) → KeepsQueues (with_end end)
end_queues None = record { slot = λ s. refl; generation = λ s. refl; queue = λ s. refl }
end_queues (Some b) = record { slot = λ s. refl; generation = λ s. refl; queue = λ s. refl }

pub ends_queues : KeepsQueues ended
ends_queues = record { slot = λ s. refl; generation = λ s. refl; queue = λ s. refl }

-- the delivery
some_more : (these those : List (List ℕ)) (y : List ℕ) → AreSome these those → AreSome these (y ∷ those)
some_more [] those y h = tt
some_more (x ∷ these) those y h = inr h

record IsFed (xs : List (List ℕ)) (old new : List Queued) : Type 0 where
  added : List Queued
  queue_is : new ≡ old ++ added
  added_are : AreSome (map payload_in added) xs

all_fed : (terms : subscriber.Terms) (time : ℕ) (xs : List (List ℕ)) (m : subscriber.Subscribing)
    → IsFed xs m.sending.queue (subscriber.fed_all terms time xs m).sending.queue
all_fed terms time [] m = record { added = []; queue_is = sym (append-nil m.sending.queue); added_are = tt }
all_fed terms time (x ∷ xs) m = by (subscriber.fits terms.mode terms x m.sending) (λ n. all_fed terms time xs n)
  where
    one : Queued
    one = record { origin = time; payload = x }

    fed_if : Bool → subscriber.Subscribing
    fed_if b = cond b (record m { sending = record m.sending { queue = m.sending.queue ++ one ∷ [] } }) m

    by : (b : Bool) → ((n : subscriber.Subscribing) → IsFed xs n.sending.queue (subscriber.fed_all terms time xs n).sending.queue)
        → IsFed (x ∷ xs) m.sending.queue (subscriber.fed_all terms time xs (fed_if b)).sending.queue
    by true rest =
        let later = rest (fed_if true) in
        record {
          added = one ∷ later.added;
          queue_is = later.queue_is ∙ append_assoc m.sending.queue (one ∷ []) later.added;
          added_are = inl (refl, later.added_are);
        }
    by false rest =
        let later = rest m in
        record { added = later.added; queue_is = later.queue_is; added_are = some_more (map payload_in later.added) xs x later.added_are }

past_passed : (terms : Agreed) (time : ℕ) (room : Option ℕ) (xs : List (List ℕ)) (past : Past)
    → IsFed xs (queue_in past) (queue_in (passed_past terms time room xs past))
past_passed terms time room xs (Publishes p) = record { added = []; queue_is = refl; added_are = tt }
past_passed terms time room xs (Subscribes m) = all_fed terms.subscriber time xs m

passed_on : (e : Terms) (clock : ℕ) (room : Option ℕ) (xs : List (List ℕ)) (s : Session) → IsContinued xs s (passed e clock room xs s)
passed_on e clock room xs s = by s.is_open
  where
    by : (b : Bool) → IsContinued xs s (passed_at e b (time_in s clock) room xs s)
    by true =
        let fed = past_passed (terms_of e s) (time_in s clock) room xs s.past in
        record { slot_is = refl; generation_is = refl; added = fed.added; queue_is = fed.queue_is; added_are = fed.added_are }
    by false = same xs s s refl refl refl

-- the end of an event
sent_queue : (ns : List ℕ) (s : Sending) → (subscriber.sent_each ns s).queue ≡ s.queue
sent_queue [] s = refl
sent_queue (n ∷ ns) s = sent_queue ns (sent n s)

presumed_queue : (terms : subscriber.Terms) (time : ℕ) (recent : Bool) (m : subscriber.Subscribing)
    → (subscriber.presumed terms time recent m).sending.queue ≡ m.sending.queue
presumed_queue terms time recent m = by (subscriber.resend_due terms time recent m)
  where
    by : (b : Bool)
        → (cond b (record m { sending = all_lost m.sending; notes = subscriber.Presumed ∷ m.notes }) m).sending.queue ≡ m.sending.queue
    by true = refl
    by false = refl

reported_queue : (terms : subscriber.Terms) (time : ℕ) (recent : Bool) (m : subscriber.Subscribing)
    → (subscriber.reported terms time recent m).sending.queue ≡ m.sending.queue
reported_queue terms time recent m =
    let t = subscriber.prepared terms time recent m in
    let count = subscriber.resends terms.resend_percent subscriber.most t.notes in
    sent_queue
    (subscriber.again_of count t.sending
    ++ subscriber.new_of subscriber.most count (subscriber.flow_window terms.window t.notes) t.sending)
    t.sending
    ∙ presumed_queue terms time recent (subscriber.renewed terms time m)

-- with keys of its own a session is held, and that changes no queue
keyed_queue : (few : Bool) (keys : Keys) (terms : subscriber.Terms) (time : ℕ) (recent : Bool) (m : subscriber.Subscribing)
    → (reported_if few keys terms time recent m).sending.queue ≡ m.sending.queue
keyed_queue true keys terms time recent m = reported_queue terms time recent (held terms (payloads_confirmed keys) m)
keyed_queue false keys terms time recent m = refl

past_reported : (keys : Option Keys) (draining : Bool) (terms : Agreed) (time : ℕ) (recent : Bool) (past : Past)
    → queue_in (reported_past keys draining terms time recent past) ≡ queue_in past
past_reported keys draining terms time recent (Publishes p) = refl
past_reported None draining terms time recent (Subscribes m) = reported_queue terms.subscriber time recent m
past_reported (Some keys) draining terms time recent (Subscribes m) = keyed_queue (has_few m) keys terms.subscriber time recent m

pub reports_queues : (keys : Option Keys) (e : Terms) (clock : ℕ) → KeepsQueues (reported keys e clock)
reports_queues keys e clock =
    record { slot = λ s. slot_of s s.is_open; generation = λ s. generation_is s s.is_open; queue = λ s. queue_of s s.is_open }
  where
    slot_of : (s : Session) (b : Bool) → (reported_at keys e b clock s).slot ≡ s.slot
    slot_of s true = refl
    slot_of s false = refl

    generation_is : (s : Session) (b : Bool) → (reported_at keys e b clock s).generation ≡ s.generation
    generation_is s true = refl
    generation_is s false = refl

    queue_of : (s : Session) (b : Bool) → queue_in (reported_at keys e b clock s).past ≡ queue_in s.past
    queue_of s true = past_reported keys (is_draining s) (terms_of e s) (time_in s clock) (is_recent s clock) s.past
    queue_of s false = refl

pub finishes_queues : (own : ℕ → Option Keys) (e : Terms) (clock : ℕ) (over : Bool) → KeepsQueues (finished own e clock over)
finishes_queues own e clock over =
    record {
      slot = λ s. slot_of s (has_whole_file over s);
      generation = λ s. generation_is s (has_whole_file over s);
      queue = λ s. queue_of s (has_whole_file over s);
    }
  where
    slot_of : (s : Session) (b : Bool) → (finished_at b (own s.slot) e clock s).slot ≡ s.slot
    slot_of s true = refl
    slot_of s false = (reports_queues (own s.slot) e clock).slot s

    generation_is : (s : Session) (b : Bool) → (finished_at b (own s.slot) e clock s).generation ≡ s.generation
    generation_is s true = refl
    generation_is s false = (reports_queues (own s.slot) e clock).generation s

    queue_of : (s : Session) (b : Bool) → queue_in (finished_at b (own s.slot) e clock s).past ≡ queue_in s.past
    queue_of s true = refl
    queue_of s false = (reports_queues (own s.slot) e clock).queue s

pub settles_queues : (e : Terms) (given : Bool) (clock : ℕ) → KeepsQueues (settled e given clock)
settles_queues e given clock =
    record { slot = λ s. slot_of s s.drains; generation = λ s. generation_is s s.drains; queue = λ s. queue_of s s.drains }
  where
    slot_of : (s : Session) (d : Option ℕ) → (settled_at d e given clock s).slot ≡ s.slot
    slot_of s None = refl
    slot_of s (Some until) = refl

    generation_is : (s : Session) (d : Option ℕ) → (settled_at d e given clock s).generation ≡ s.generation
    generation_is s None = refl
    generation_is s (Some until) = refl

    queue_of : (s : Session) (d : Option ℕ) → queue_in (settled_at d e given clock s).past ≡ queue_in s.past
    queue_of s None = refl
    queue_of s (Some until) = refl

-- sessions that continue, with or without one more at the front
abbrev GoOn : (given : List (List ℕ)) → (old new : List Session) → Type 0
GoOn given old new = AreContinued given old new ⊎ HasOpened given old new

go_before : (given : List (List ℕ)) (f : Session → Session) → KeepsQueues f → (ss ts : List Session) → GoOn given (map f ss) ts → GoOn given ss ts
go_before given f keeps ss ts (inl h) = inl (before given f keeps ss ts h)
go_before given f keeps ss ts (inr h) =
    inr (record { opened = h.opened; rest = h.rest; new_is = h.new_is; rest_are = before given f keeps ss h.rest h.rest_are })

go_behind : (given : List (List ℕ)) (f : Session → Session) → KeepsQueues f → (ss ts : List Session) → GoOn given ss ts → GoOn given ss (map f ts)
go_behind given f keeps ss ts (inl h) = inl (behind given f keeps ss ts h)
go_behind given f keeps ss ts (inr h) =
    inr (record {
      opened = f h.opened;
      rest = map f h.rest;
      new_is = ap (map f) h.new_is;
      rest_are = behind given f keeps ss h.rest h.rest_are;
    })

-- the delivery after an item
fed_on : (e : Terms) (clock : ℕ) (ss ts : List Session) → GoOn [] ss ts → GoOn (delivery e clock (least_room e ts) ts) ss (delivered e clock ts)
fed_on e clock ss ts h = by h
  where
    given : List (List ℕ)
    given = delivery e clock (least_room e ts) ts

    f : Session → Session
    f s = passed e clock (room_if (is_active ts s) (least_room e ts)) given s

    nothing : (added : List Queued) → AreSome (map payload_in added) [] → added ≡ []
    nothing [] k = refl
    nothing (x ∷ xs) k = absurd k

    -- nothing was added by then
    one : (s t : Session) → IsContinued [] s t → IsContinued given s (f t)
    one s t k =
        let none = nothing k.added k.added_are in
        let queue : queue_in t.past ≡ queue_in s.past =
        k.queue_is ∙ (ap (λ (xs : List Queued). queue_in s.past ++ xs) none ∙ append-nil (queue_in s.past)) in
        none_and given s t (f t) queue k.slot_is k.generation_is
        (passed_on e clock (room_if (is_active ts t) (least_room e ts)) given t)

    each : (us vs : List Session) → AreContinued [] us vs → AreContinued given us (map f vs)
    each [] [] k = tt
    each [] (v ∷ vs) k = absurd k
    each (u ∷ us) [] k = absurd k
    each (u ∷ us) (v ∷ vs) k = (one u v k.0, each us vs k.1)

    by : GoOn [] ss ts → GoOn given ss (map f ts)
    by (inl k) = inl (each ss ts k)
    by (inr k) = inr (record { opened = f k.opened; rest = map f k.rest; new_is = ap (map f) k.new_is; rest_are = each ss k.rest k.rest_are })

-- the item
kept_on : (f : Session → Session) → KeepsQueues f → (ss : List Session) → GoOn [] ss (map f ss)
kept_on f keeps ss = inl (behind [] f keeps ss ss (unchanged [] ss))

considered_on : (e : Terms) (index clock : ℕ) (peer : Peer) (stamp : ℕ) (c : Conclusion) (ss : List Session) (answer : Result ℕ RefusalCause)
    → GoOn [] ss (considered e index clock peer stamp c ss answer).sessions
considered_on e index clock peer stamp c ss (Err cause) = inl (unchanged [] ss)
considered_on e index clock peer stamp c ss (Ok slot) = inr (record {
  opened = session_opened clock peer stamp c slot (generation_of ss slot);
  rest = ss;
  new_is = refl;
  rest_are = unchanged [] ss;
})

concluded_on : (e : Terms) (index clock : ℕ) (peer : Peer) (stamp : ℕ) (c : Conclusion) (ss : List Session) (found : Option Session)
    → GoOn [] ss (concluded e index clock peer stamp c ss found).sessions
concluded_on e index clock peer stamp c ss (Some s) = kept_on (λ t. heard_if (is_of peer c.caller t) clock t) (hears_queues peer c.caller clock) ss
concluded_on e index clock peer stamp c ss None = considered_on e index clock peer stamp c ss (decision e peer c ss)

without_on : (e : Terms) (index clock : ℕ) (peer : Peer) (stamp : ℕ) (ss : List Session) (o : Option Conclusion)
    → GoOn [] ss (without_destination e index clock peer stamp ss o).sessions
without_on e index clock peer stamp ss None = inl (unchanged [] ss)
without_on e index clock peer stamp ss (Some c) = concluded_on e index clock peer stamp c ss (find (is_of peer c.caller) ss)

packet_on : (e : Terms) (index clock : ℕ) (peer : Peer) (packet : Packet) (ss : List Session) → GoOn [] ss (packet_taken e index clock peer packet ss).sessions
packet_on e index clock peer packet ss = by (packet.dest == 0)
  where
    by : (b : Bool)
        → GoOn [] ss
        (cond b (without_destination e index clock peer packet.stamp ss (concludes packet.body)) (arrived e index clock peer packet ss)).sessions
    by true = without_on e index clock peer packet.stamp ss (concludes packet.body)
    by false =
        let found = find (is_for index peer packet.dest) ss in
        let drains = drain_of e clock packet.body ss found in
        let end = packet_end drains e packet.body found in
        kept_on (took_packet drains end e index clock peer packet) (takes_packet_queues drains end e index clock peer packet) ss

read_on : (e : Terms) (index clock : ℕ) (peer : Peer) (read : Result Packet PacketFault) (ss : List Session)
    → GoOn [] ss (read_taken e index clock peer read ss).sessions
read_on e index clock peer (Ok packet) ss = packet_on e index clock peer packet ss
read_on e index clock peer (Err fault) ss = inl (unchanged [] ss)

taken_on : (e : Terms) (index clock : ℕ) (item : Item) (ss : List Session) → GoOn [] ss (taken e index clock item ss).sessions
taken_on e index clock (Received d moment) ss = read_on e index clock d.peer (packet_in d.bytes) ss
taken_on e index clock (Tick moment) ss = inl (unchanged [] ss)
taken_on e index clock (Close moment) ss = kept_on ended ends_queues ss

-- an event
marked_on : (given : List (List ℕ)) (due : Bool) (ss ts : List Session) → GoOn given (marked_if due ss) ts → GoOn given ss ts
marked_on given true ss ts h = go_before given (marked ss) (marks_queues ss) ss ts h
marked_on given false ss ts h = h

settled_on : (given : List (List ℕ)) (c : Callers) (e : Terms) (clock : ℕ) (some : Bool) (ss ts : List Session)
    → GoOn given ss ts → GoOn given ss (settled_by c e clock some ts)
settled_on given Draft e clock some ss ts h = h
settled_on given Libsrt e clock some ss ts h =
    let later = map (settled e some clock) ts in
    let end = drain_end (open_publishers ts) (open_publishers later) in
    go_behind given (with_end end) (end_queues end) ss later (go_behind given (settled e some clock) (settles_queues e some clock) ss ts h)

sessions_on : (is_closed : Bool) (e : Terms) (index : ℕ) (item : Item) (m : Route)
    → GoOn (delivery_by e index item m) m.sessions (sessions_at is_closed e index item m)
sessions_on true e index item m = inl (unchanged (delivery_by e index item m) m.sessions)
sessions_on false e index item m =
    let clock = clock_after item m in
    let later = map (aged e clock) m.sessions in
    let given = delivery_by e index item m in
    let end = time_end e m.sessions later in
    let over = is_file_over e (passed_by e index item m) in
    let own = own_by e index item m in
    go_before given (aged e clock) (ages_queues e clock) m.sessions (sessions_at false e index item m)
    (marked_on given (takes_over e clock later) later (sessions_at false e index item m)
    (go_before given (with_end end) (end_queues end) (marked_if (takes_over e clock later) later) (sessions_at false e index item m)
    (go_behind given (finished own e clock over) (finishes_queues own e clock over) (advanced e clock m.sessions) (passed_by e index item m)
    (settled_on given e.rules.callers e clock (gives_some e clock (taken_by e index item m).sessions) (advanced e clock m.sessions)
    (delivered e clock (taken_by e index item m).sessions)
    (fed_on e clock (advanced e clock m.sessions) (taken_by e index item m).sessions
    (taken_on e index clock (heard_by e index item m) (advanced e clock m.sessions)))))))

pub queues_go_on : QueuesGoOn
queues_go_on e index items item =
    let m = route_before e index item items in
    let was = after e index items in
    let own = own_in e was.keys in
    let clock = clock_after item was in
    by (secures e Request && not was.is_closed) (delivery_by e index item m) own clock was.sessions (sessions_at m.is_closed e index item m)
    (sessions_on m.is_closed e index item m)
  where
    by : (b : Bool) (given : List (List ℕ)) (own : ℕ → Option Keys) (clock : ℕ) (ss new : List Session)
        → GoOn given (given_up_if b own clock ss) new → GoOn given ss new
    by true given own clock ss new h = go_before given (given_up own clock) (gives_up_queues own clock) ss new h
    by false given own clock ss new h = h
