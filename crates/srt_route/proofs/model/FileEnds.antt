-- What a session records of the last publisher's end, and the sessions that end with a file.
use Rattle.std.proofs.Common.{◌≡◌, ℕ, ◌==◌, Bool, true, false, cond, ◌&&◌, Option, None, Some, List, map, refl, ap}
use Rattle.std.proofs.lemmas.Bool.{and_parts}
use Rattle.srt_types.specs.declared.shared.Peer.{Peer}
use Rattle.srt_types.specs.Terms.{Terms}
use Rattle.srt_packet.specs.Grammar.{Packet}
use Rattle.srt_session_keys.specs.Subscriber.{Subscriber as Keys}
use Rattle.srt_route.specs.Past.{Past, Publishes, Subscribes, Agreed, has_all, has_left, reported_past}
use Rattle.srt_route.specs.Sessions.{Session, is_draining, is_publisher, is_recent, is_subscriber, reported, reported_at, settled, settled_at, terms_of}
use Rattle.srt_route.specs.Sessions.{time_in, with_end}
use Rattle.srt_route.specs.Route.{finished, finished_at, has_whole_file, is_file_over, sends_files, took_packet}
use Rattle.srt_route.specs.inside.Delivery.{after_publisher, changed, publisher_reported}
use Rattle.srt_route.proofs.model.Found.{Keeps}
use Rattle.srt_route.proofs.model.TakeOver.{KeepsMarks}
use Rattle.srt_route.proofs.model.Changes.{keeps_changed}
use Rattle.srt_route.proofs.model.Standbys.{publishers_through}
use Rattle.srt_route.proofs.stored.Stored.{takes, takes_marks}

-- recording a publisher's end changes nothing else
pub keeps_end : (end : Option Bool) → Keeps (with_end end)
keeps_end None = record { slot = λ s. refl; peer = λ s. refl; conclusion = λ s. refl; opens_none = λ s h. h; drains_on = λ s h. h }
keeps_end (Some b) = record { slot = λ s. refl; peer = λ s. refl; conclusion = λ s. refl; opens_none = λ s h. h; drains_on = λ s h. h }

pub end_marks : (end : Option Bool) → KeepsMarks (with_end end)
end_marks None s = refl
end_marks (Some b) s = refl

-- a packet, with the record of the end
pub takes_packet : (drains : Option ℕ) (end : Option Bool) (e : Terms) (index clock : ℕ) (peer : Peer) (packet : Packet)
    → Keeps (took_packet drains end e index clock peer packet)
takes_packet drains None e index clock peer packet = takes drains e index clock peer packet
takes_packet drains (Some b) e index clock peer packet =
    let k = takes drains e index clock peer packet in
    record { slot = k.slot; peer = k.peer; conclusion = k.conclusion; opens_none = k.opens_none; drains_on = k.drains_on }

pub takes_packet_marks : (drains : Option ℕ) (end : Option Bool) (e : Terms) (index clock : ℕ) (peer : Peer) (packet : Packet)
    → KeepsMarks (took_packet drains end e index clock peer packet)
takes_packet_marks drains None e index clock peer packet s = takes_marks drains e index clock peer packet s
takes_packet_marks drains (Some b) e index clock peer packet s = takes_marks drains e index clock peer packet s

-- the sessions after the deliveries
pub settles : (e : Terms) (given : Bool) (clock : ℕ) → Keeps (settled e given clock)
settles e given clock =
    record {
      slot = λ s. slot_of s s.drains;
      peer = λ s. peer_of s s.drains;
      conclusion = λ s. conclusion_of s s.drains;
      opens_none = λ s. opens_of s s.drains;
      drains_on = λ s. drains_of s s.drains refl;
    }
  where
    slot_of : (s : Session) (d : Option ℕ) → (settled_at d e given clock s).slot ≡ s.slot
    slot_of s None = refl
    slot_of s (Some until) = refl

    peer_of : (s : Session) (d : Option ℕ) → (settled_at d e given clock s).peer ≡ s.peer
    peer_of s None = refl
    peer_of s (Some until) = refl

    conclusion_of : (s : Session) (d : Option ℕ) → (settled_at d e given clock s).conclusion ≡ s.conclusion
    conclusion_of s None = refl
    conclusion_of s (Some until) = refl

    opens_of : (s : Session) (d : Option ℕ) → (settled_at d e given clock s).is_open ≡ true → s.is_open ≡ true
    opens_of s None h = h
    opens_of s (Some until) h = (and_parts s.is_open (has_left (terms_of e s) s.past) h).0

    drains_of : (s : Session) (d : Option ℕ) → s.drains ≡ d → is_draining (settled_at d e given clock s) ≡ false → is_draining s ≡ false
    drains_of s None is h = h
    drains_of s (Some until) is h = absurd (let bad : true ≡ false = h in cc)

pub settles_marks : (e : Terms) (given : Bool) (clock : ℕ) → KeepsMarks (settled e given clock)
settles_marks e given clock s = by s.drains
  where
    by : (d : Option ℕ) → (settled_at d e given clock s).took_over ≡ s.took_over
    by None = refl
    by (Some until) = refl

-- the end of an event
pub reports : (keys : Option Keys) (e : Terms) (clock : ℕ) → Keeps (reported keys e clock)
reports keys e clock = keeps_changed (λ s. reported_past keys (is_draining s) (terms_of e s) (time_in s clock) (is_recent s clock) s.past)

pub finishes : (own : ℕ → Option Keys) (e : Terms) (clock : ℕ) (over : Bool) → Keeps (finished own e clock over)
finishes own e clock over =
    record {
      slot = λ s. slot_of s (has_whole_file over s);
      peer = λ s. peer_of s (has_whole_file over s);
      conclusion = λ s. conclusion_of s (has_whole_file over s);
      opens_none = λ s. opens_of s (has_whole_file over s);
      drains_on = λ s. drains_of s (has_whole_file over s);
    }
  where
    slot_of : (s : Session) (b : Bool) → (finished_at b (own s.slot) e clock s).slot ≡ s.slot
    slot_of s true = refl
    slot_of s false = (reports (own s.slot) e clock).slot s

    peer_of : (s : Session) (b : Bool) → (finished_at b (own s.slot) e clock s).peer ≡ s.peer
    peer_of s true = refl
    peer_of s false = (reports (own s.slot) e clock).peer s

    conclusion_of : (s : Session) (b : Bool) → (finished_at b (own s.slot) e clock s).conclusion ≡ s.conclusion
    conclusion_of s true = refl
    conclusion_of s false = (reports (own s.slot) e clock).conclusion s

    drains_of : (s : Session) (b : Bool) → is_draining (finished_at b (own s.slot) e clock s) ≡ false → is_draining s ≡ false
    drains_of s true h = h
    drains_of s false h = (reports (own s.slot) e clock).drains_on s h

    opens_of : (s : Session) (b : Bool) → (finished_at b (own s.slot) e clock s).is_open ≡ true → s.is_open ≡ true
    opens_of s true h = absurd (let bad : false ≡ true = h in cc)
    opens_of s false h = (reports (own s.slot) e clock).opens_none s h

pub finishes_marks : (own : ℕ → Option Keys) (e : Terms) (clock : ℕ) (over : Bool) → KeepsMarks (finished own e clock over)
finishes_marks own e clock over s = by (has_whole_file over s)
  where
    mark_of : (b : Bool) → (reported_at (own s.slot) e b clock s).took_over ≡ s.took_over
    mark_of true = refl
    mark_of false = refl

    by : (b : Bool) → (finished_at b (own s.slot) e clock s).took_over ≡ s.took_over
    by true = refl
    by false = mark_of s.is_open

-- a session that has the whole file is an open subscriber's
pub whole_subscribes : (over : Bool) (s : Session) → has_whole_file over s ≡ true → is_subscriber s ≡ true
whole_subscribes over s h =
    (and_parts over (is_subscriber s)
    (and_parts (over && is_subscriber s) s.file_ended (and_parts (over && is_subscriber s && s.file_ended) (has_all s.past) h).0).0).1

-- the publishers' packets change nothing of it
abbrev pub gone : Terms → (clock : ℕ) → Session → Session
gone e clock s = changed (after_publisher e clock) s

all_same : (draining : Bool) (terms : Agreed) (time : ℕ) (past : Past) → has_all (publisher_reported draining terms time past) ≡ has_all past
all_same draining terms time (Publishes p) = refl
all_same draining terms time (Subscribes m) = refl

pub whole_after : (e : Terms) (clock : ℕ) (over : Bool) (s : Session)
    → has_whole_file over (changed (after_publisher e clock) s) ≡ has_whole_file over s
whole_after e clock over s = by s.is_open
  where
    by : (b : Bool) → has_whole_file over (cond b (record s { past = after_publisher e clock s }) s) ≡ has_whole_file over s
    by true = ap (λ (d : Bool). over && is_subscriber s && s.file_ended && d) (all_same (is_draining s) (terms_of e s) (time_in s clock) s.past)
    by false = refl

pub over_after : (e : Terms) (clock : ℕ) (ss : List Session) → is_file_over e (map (changed (after_publisher e clock)) ss) ≡ is_file_over e ss
over_after e clock ss =
    ap (λ (n : ℕ). sends_files e.rules.callers e.mode && n == 0) (publishers_through (changed (after_publisher e clock)) (λ s. one s s.is_open) ss)
  where
    one : (s : Session) (b : Bool) → is_publisher (cond b (record s { past = after_publisher e clock s }) s) ≡ is_publisher s
    one s true = refl
    one s false = refl
