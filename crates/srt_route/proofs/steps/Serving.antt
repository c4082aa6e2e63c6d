-- Step 6: the subscribers' packets, and the sessions that end with a file.
use Rattle.std.proofs.Common.{◌≡◌, ℕ, ◌+◌, ◌-◌, ◌<◌, ◌≤◌, ◌&&◌, ◌++◌, Bool, true, false, cond, Option, None, Some, List, [], ◌∷◌, map, find, length, not, refl}
use Rattle.std.proofs.Common.{sym, ap, subst, ◌∙◌, inl, inr, arith}
use Rattle.std.proofs.lemmas.Bool.{and_parts, cases_lt, cases_eq}
use Rattle.std.specs.Option.{option_map}
use Rattle.srt_types.specs.Terms.{Terms}
use Rattle.srt_pub.specs.declared.session.Publisher.{Publisher}
use Rattle.srt_sub.specs.declared.session.Subscriber.{Subscriber}
use Rattle.srt_route.specs.declared.ledger.EndedSession.{EndedSession}
use Rattle.srt_route.specs.declared.ledger.Ledger.{Ledger}
use Rattle.srt_route.specs.declared.replies.Reply.{Reply}
use Rattle.srt_route.specs.declared.reply_queue.ReplyQueue.{ReplyQueue}
use Rattle.srt_route.specs.declared.seat.Session.{Session as TheSession}
use Rattle.srt_route.specs.declared.seat.Seat.{Seat}
use Rattle.srt_route.specs.declared.table.Table.{Table}
use Rattle.srt_route.specs.Past.{Past, Publishes, Subscribes, Agreed, has_all}
use Rattle.srt_route.specs.Sessions.{Session, is_active, is_draining, is_open_in, publishes, is_recent, is_subscriber, reported, reported_at, terms_of}
use Rattle.srt_route.specs.Sessions.{time_in}
use Rattle.srt_route.specs.Route.{Reply as Answer, ended, finished, finished_at, has_whole_file, is_file_over, sent, served}
use Rattle.srt_route.specs.Route.{announced_past, announced_to, keyed_by, keys_in_slot, keys_said, served_at, shutdown_to}
use Rattle.srt_session_keys.specs.Subscriber.{Subscriber as Keys}
use Rattle.srt_sub.specs.Stands as subscribers
use Rattle.srt_sub.specs.Subscribing as subscribing
use Rattle.srt_route.specs.RouteKeys.{RouteKeys, SlotKeys, own_keys}
use Rattle.srt_route.specs.Ends.{EndsAre, EndsFor, EndsIn, cause_in, cause_of_slot, file_ending, kept_of}
use Rattle.srt_route.specs.Ledgers.{entry_of, file_cause}
use Rattle.srt_route.specs.Totals.{sums_to}
use Rattle.srt_route.specs.declared.publisher_buffers.PublisherBuffers.{PublisherBuffers}
use Rattle.srt_route.specs.inside.Notes.{NotesAt, cause_if}
use Rattle.srt_route.specs.inside.Notes.{TellsOf as TellsEndOf}
use Rattle.srt_route.specs.inside.Standby.{is_active_by}
use Rattle.srt_route.specs.Buffers.{IsPast, IsSeated}
use Rattle.srt_route.specs.Parts.{role_of}
use Rattle.srt_route.specs.Tables.{buffers_of, has_subscriber, IsStored, IsSeat, IsTable, with_stored}
use Rattle.srt_route.specs.Waits.{replies_of, places_of}
use Rattle.srt_route.specs.inside.Delivery.{changed, after_publisher, after_subscriber, publisher_reported}
use Rattle.srt_route.specs.inside.Files.{HasWhole, SeatEnds, SeatEndsWith, SeatServed, SeatServedWith, ending_texts}
use Rattle.srt_route.specs.inside.Files.{finished_subscriber, finished_subscriber_at, whole_in}
use Rattle.srt_route.specs.inside.OneSession.{shutdowns_to}
use Rattle.srt_route.specs.inside.Reports.{AreSaid, Queues}
use Rattle.srt_route.proofs.model.Changes.{find_changed, is_there, keeps_changed, marks_changed}
use Rattle.srt_route.proofs.model.Ending.{stored_shutdown}
use Rattle.srt_route.proofs.model.FileEnds.{over_after, whole_after, whole_subscribes}
use Rattle.srt_route.proofs.model.Found.{Keeps, changed as becomes, while_open}
use Rattle.srt_route.proofs.model.Lists.{map_twice}
use Rattle.srt_route.proofs.model.TakeOver.{KeepsMarks}
use Rattle.srt_route.proofs.stored.Kept.{Becomes, below_seats}
use Rattle.srt_route.proofs.steps.Feeding.{Changes, changed_is, publisher_subscribes, subscribes, subscriber_subscribes, vacant_subscribes}
use Rattle.srt_route.proofs.steps.Passing.{seat_of}
use Rattle.srt_route.proofs.steps.Saying.{Says, Tells, as_stored, keyed_bytes, still_fresh, both_reported, later_packets, place_said, same_from, same_said}
use Rattle.srt_route.proofs.steps.Saying.{notified_becomes}
use Rattle.srt_route.proofs.steps.Slots.{IsSaying, said_of, saying_more}
use Rattle.srt_route.proofs.steps.Noting.{one_summed}
use Rattle.srt_route.proofs.steps.Notified.{end_for, nothing_notified}
use Rattle.std.proofs.lemmas.List.{map-append}
use Rattle.srt_types.specs.declared.shared.Peer.{Peer}
use Rattle.srt_types.specs.Items.{Datagram}
use Rattle.srt_route.specs.Buffers.{datagrams_to}
use Rattle.srt_route.specs.EncryptedOutput.{KeyedOutput}
use Rattle.srt_route.proofs.steps.Aging.{not_true}

-- the packets of a session
abbrev pub serving : (own : ℕ → Option Keys) → Terms → (clock : ℕ) → (over : Bool) → Session → List Answer
serving own e clock over s = served_at (has_whole_file over s) (own s.slot) e clock s

later_served : (own : ℕ → Option Keys) (e : Terms) (clock : ℕ) (over : Bool) (p : Publisher) (x : Subscriber) (s : Session)
    → s.is_open ≡ true → IsSeated e clock p x s → serving own e clock over (changed (after_publisher e clock) s) ≡ serving own e clock over s
later_served own e clock over p x s opens seat =
    ap (λ (b : Bool). served_at b (own later.slot) e clock later) (whole_after e clock over s)
    ∙ ap (λ (n : ℕ). served_at (has_whole_file over s) (own n) e clock later) ((keeps_changed (after_publisher e clock)).slot s)
    ∙ by (has_whole_file over s)
  where
    later : Session
    later = changed (after_publisher e clock) s

    announced_after : (k : Keys) (caller time : ℕ) (past : Past)
        → announced_past k caller time (publisher_reported (is_draining s) (terms_of e s) (time_in s clock) past) ≡ announced_past k caller time past
    announced_after k caller time (Publishes p) = refl
    announced_after k caller time (Subscribes m) = refl

    shut : (k : Option Keys) (b : Bool)
        → let t = cond b (record s { past = after_publisher e clock s }) s in
        announced_to k clock t ++ shutdown_to clock t ∷ [] ≡ announced_to k clock s ++ shutdown_to clock s ∷ []
    shut None true = refl
    shut (Some k) true =
        ap (λ (os : List KeyedOutput). map (keyed_by s) os ++ shutdown_to clock s ∷ [])
        (announced_after k s.conclusion.caller (time_in s clock) s.past)
    shut k false = refl

    by : (b : Bool) → served_at b (own s.slot) e clock (changed (after_publisher e clock) s) ≡ served_at b (own s.slot) e clock s
    by true = shut (own s.slot) s.is_open
    by false = later_packets (own s.slot) e clock p x s opens seat

pub same_served : (own : ℕ → Option Keys) (e : Terms) (index clock : ℕ) (table : Table) (ss : List Session) → IsTable e index clock table ss
    → served own e clock (is_file_over e (map (changed (after_publisher e clock)) ss)) (map (changed (after_publisher e clock)) ss)
    ≡ served own e clock (is_file_over e ss) ss
same_served own e index clock table ss body =
    ap (λ (over : Bool). served own e clock over (map (changed (after_publisher e clock)) ss)) (over_after e clock ss)
    ∙ same_from e clock (serving own e clock (is_file_over e ss)) ss 0 e.sessions
    (λ k t is. let seat = seat_of e index clock table ss body k t is in
    later_served own e clock (is_file_over e ss) seat.0 seat.1 t (is_there k ss t is).0 seat.2)

-- the sessions after both
same_past : (draining : Bool) (terms : Agreed) (time : ℕ) (past : Past) → has_all past ≡ true → publisher_reported draining terms time past ≡ past
same_past draining terms time (Publishes p) h = absurd (let bad : false ≡ true = h in cc)
same_past draining terms time (Subscribes m) h = refl

whole_has_all : (over : Bool) (s : Session) → has_whole_file over s ≡ true → has_all s.past ≡ true
whole_has_all over s h = by (over && is_subscriber s && s.file_ended) h
  where
    by : (b : Bool) → (b && has_all s.past) ≡ true → has_all s.past ≡ true
    by true k = k
    by false k = absurd (let bad : false ≡ true = k in cc)

one_finished : (own : ℕ → Option Keys) (e : Terms) (clock : ℕ) (over : Bool) (s : Session)
    → finished_subscriber own e clock over (changed (after_publisher e clock) s) ≡ finished own e clock over s
one_finished own e clock over s =
    ap (λ (b : Bool). finished_subscriber_at b (own later.slot) e clock later) (whole_after e clock over s)
    ∙ ap (λ (n : ℕ). finished_subscriber_at (has_whole_file over s) (own n) e clock later) ((keeps_changed (after_publisher e clock)).slot s)
    ∙ by (has_whole_file over s) refl
  where
    later : Session
    later = changed (after_publisher e clock) s

    keys : Option Keys
    keys = own s.slot

    shut : (b : Bool) → has_all s.past ≡ true → ended (cond b (record s { past = after_publisher e clock s }) s) ≡ ended s
    shut true h = ap (λ (p : Past). ended (record s { past = p })) (same_past (is_draining s) (terms_of e s) (time_in s clock) s.past h)
    shut false h = refl

    both : (b : Bool) → s.is_open ≡ b → changed (after_subscriber keys e clock) (changed (after_publisher e clock) s) ≡ reported keys e clock s
    both true o =
        let first = changed_is s (after_publisher e clock) (after_publisher e clock s) o refl in
        let t : Session = record s { past = after_publisher e clock s } in
        ap (changed (after_subscriber keys e clock)) first
        ∙ changed_is t (after_subscriber keys e clock) (after_subscriber keys e clock t) o refl
        ∙ ap (λ (p : Past). record s { past = p }) (both_reported keys (is_draining s) (terms_of e s) (time_in s clock) (is_recent s clock) s.past)
        ∙ sym (ap (λ (b : Bool). reported_at keys e b clock s) o)
    both false o =
        let first : changed (after_publisher e clock) s ≡ s = ap (λ (b : Bool). cond b (record s { past = after_publisher e clock s }) s) o in
        ap (changed (after_subscriber keys e clock)) first
        ∙ ap (λ (b : Bool). cond b (record s { past = after_subscriber keys e clock s }) s) o
        ∙ sym (ap (λ (b : Bool). reported_at keys e b clock s) o)

    by : (b : Bool) → has_whole_file over s ≡ b
        → finished_subscriber_at b keys e clock (changed (after_publisher e clock) s) ≡ finished_at b keys e clock s
    by true is = shut s.is_open (whole_has_all over s is)
    by false is = both s.is_open refl

each_finished : (own : ℕ → Option Keys) (e : Terms) (clock : ℕ) (over : Bool) (ss : List Session)
    → map (λ s. finished_subscriber own e clock over (changed (after_publisher e clock) s)) ss ≡ map (finished own e clock over) ss
each_finished own e clock over [] = refl
each_finished own e clock over (s ∷ ss) =
    ap
    (λ (t : Session). t ∷ map (λ s. finished_subscriber own e clock over (changed (after_publisher e clock) s)) ss)
    (one_finished own e clock over s)
    ∙ ap (λ (ts : List Session). finished own e clock over s ∷ ts) (each_finished own e clock over ss)

pub all_finished : (own : ℕ → Option Keys) (e : Terms) (clock : ℕ) (ss : List Session)
    → map (finished_subscriber own e clock (is_file_over e (map (changed (after_publisher e clock)) ss))) (map (changed (after_publisher e clock)) ss)
    ≡ map (finished own e clock (is_file_over e ss)) ss
all_finished own e clock ss =
    ap (λ (over : Bool). map (finished_subscriber own e clock over) (map (changed (after_publisher e clock)) ss)) (over_after e clock ss)
    ∙ map_twice (changed (after_publisher e clock)) (finished_subscriber own e clock (is_file_over e ss)) ss
    ∙ each_finished own e clock (is_file_over e ss) ss

-- the keys after both: the publishers' packets announce nothing
said_after : (draining : Bool) (terms : Agreed) (time now : ℕ) (past : Past) (k : SlotKeys)
    → keys_said now (publisher_reported draining terms time past) k ≡ keys_said now past k
said_after draining terms time now (Publishes p) k = refl
said_after draining terms time now (Subscribes m) k = refl

slot_after : (e : Terms) (clock : ℕ) (o : Option Session) (k : SlotKeys)
    → keys_in_slot clock (option_map (changed (after_publisher e clock)) o) k ≡ keys_in_slot clock o k
slot_after e clock None k = refl
slot_after e clock (Some s) k = by s.is_open
  where
    by : (b : Bool)
        → let t = cond b (record s { past = after_publisher e clock s }) s in keys_said (time_in t clock) t.past k ≡ keys_said (time_in s clock) s.past k
    by true = said_after (is_draining s) (terms_of e s) (time_in s clock) (time_in s clock) s.past k
    by false = refl

pub keys_after : (e : Terms) (clock : ℕ) (ss : List Session) (keys : RouteKeys) (slot : ℕ)
    → keys_in_slot clock (find (is_open_in slot) (map (changed (after_publisher e clock)) ss)) (keys.held slot)
    ≡ keys_in_slot clock (find (is_open_in slot) ss) (keys.held slot)
keys_after e clock ss keys slot =
    ap (λ (o : Option Session). keys_in_slot clock o (keys.held slot)) (find_changed (after_publisher e clock) slot ss)
    ∙ slot_after e clock (find (is_open_in slot) ss) (keys.held slot)

-- what the end of a file and a subscriber's packets keep
pub finishes_subscribers : (own : ℕ → Option Keys) (e : Terms) (clock : ℕ) (over : Bool) → Keeps (finished_subscriber own e clock over)
finishes_subscribers own e clock over =
    record {
      slot = λ s. slot_of s (has_whole_file over s);
      peer = λ s. peer_of s (has_whole_file over s);
      conclusion = λ s. conclusion_of s (has_whole_file over s);
      opens_none = λ s. opens_of s (has_whole_file over s);
      drains_on = λ s. drains_of s (has_whole_file over s);
    }
  where
    others : (keys : Option Keys) → Keeps (changed (after_subscriber keys e clock))
    others keys = keeps_changed (after_subscriber keys e clock)

    slot_of : (s : Session) (b : Bool) → (finished_subscriber_at b (own s.slot) e clock s).slot ≡ s.slot
    slot_of s true = refl
    slot_of s false = (others (own s.slot)).slot s

    peer_of : (s : Session) (b : Bool) → (finished_subscriber_at b (own s.slot) e clock s).peer ≡ s.peer
    peer_of s true = refl
    peer_of s false = (others (own s.slot)).peer s

    conclusion_of : (s : Session) (b : Bool) → (finished_subscriber_at b (own s.slot) e clock s).conclusion ≡ s.conclusion
    conclusion_of s true = refl
    conclusion_of s false = (others (own s.slot)).conclusion s

    drains_of : (s : Session) (b : Bool) → is_draining (finished_subscriber_at b (own s.slot) e clock s) ≡ false → is_draining s ≡ false
    drains_of s true h = h
    drains_of s false h = (others (own s.slot)).drains_on s h

    opens_of : (s : Session) (b : Bool) → (finished_subscriber_at b (own s.slot) e clock s).is_open ≡ true → s.is_open ≡ true
    opens_of s true h = absurd (let bad : false ≡ true = h in cc)
    opens_of s false h = (others (own s.slot)).opens_none s h

pub finishes_subscribers_marks : (own : ℕ → Option Keys) (e : Terms) (clock : ℕ) (over : Bool) → KeepsMarks (finished_subscriber own e clock over)
finishes_subscribers_marks own e clock over s = by (has_whole_file over s)
  where
    by : (b : Bool) → (finished_subscriber_at b (own s.slot) e clock s).took_over ≡ s.took_over
    by true = refl
    by false = marks_changed (after_subscriber (own s.slot) e clock) s

-- a seat that was served, whose slot has these keys of its own
pub record Serves (keys : Option Keys) (clock : ℕ) (over : Bool) (x y : Seat) : Type 0 where
  pub whole : Bool
  pub whole_is : HasWhole over x whole
  pub ends : whole ≡ true → y ≡ with_stored None x
  pub stays : whole ≡ false → Changes (Tells keys clock) x y

same_becomes : (f g : Session → Session) (e : Terms) (index clock at : ℕ) (p : Publisher) (x y : Seat) (ss : List Session)
    → ((s : Session) → find (is_open_in at) ss ≡ Some s → f s ≡ g s) → Becomes g e index clock at p x y ss → Becomes f e index clock at p x y ss
same_becomes f g e index clock at p x y ss same h =
    record {
      count_is = h.count_is;
      session_is = subst (λ (o : Option Session). IsStored e index y.session o) (sym (by (find (is_open_in at) ss) refl)) h.session_is;
      buffers_stay = h.buffers_stay;
      wide = h.wide;
      seated = λ s found opens.
          subst (λ (t : Session). IsSeated e clock p y.subscriber t) (sym (same s found))
          (h.seated s found (sym (ap (λ (t : Session). t.is_open) (same s found)) ∙ opens));
    }
  where
    by : (o : Option Session) → find (is_open_in at) ss ≡ o → becomes f o ≡ becomes g o
    by None found = refl
    by (Some s) found = ap while_open (same s found)

pub served_becomes : (own : ℕ → Option Keys) (keys : Option Keys) (e : Terms) (index clock : ℕ) (over : Bool) (at : ℕ) (p : Publisher) (x y : Seat)
    (ss : List Session)
    → own at ≡ keys → IsSeat e index clock at p x ss → Serves keys clock over x y → Becomes (finished_subscriber own e clock over) e index clock at p x y ss
served_becomes own keys e index clock over at p x y ss mine is h = by h.whole (h.whole_is e index clock at p ss is) h.ends h.stays
  where
    in_slot : (b : Bool) → b ≡ whole_in over (find (is_open_in at) ss) → (s : Session) → find (is_open_in at) ss ≡ Some s
        → finished_subscriber own e clock over s ≡ finished_subscriber_at b keys e clock s
    in_slot b whole s found =
        ap (λ (d : Bool). finished_subscriber_at d (own s.slot) e clock s) (sym (whole ∙ ap (whole_in over) found))
        ∙ ap (λ (k : Option Keys). finished_subscriber_at b k e clock s) (ap own (is_there at ss s found).1 ∙ mine)

    closes : (o : Option Session) → find (is_open_in at) ss ≡ o → true ≡ whole_in over (find (is_open_in at) ss)
        → IsStored e index None (becomes (finished_subscriber own e clock over) o)
    closes None found whole = tt
    closes (Some s) found whole =
        subst (λ (t : Session). IsStored e index None (while_open t)) (sym (in_slot true whole s found)) tt

    by : (b : Bool) → b ≡ whole_in over (find (is_open_in at) ss) → (b ≡ true → y ≡ with_stored None x)
        → (b ≡ false → Changes (Tells keys clock) x y)
        → Becomes (finished_subscriber own e clock over) e index clock at p x y ss
    by true whole ends stays =
        subst (λ (z : Seat). Becomes (finished_subscriber own e clock over) e index clock at p x z ss) (sym (ends refl))
        (record {
          count_is = refl;
          session_is = closes (find (is_open_in at) ss) refl whole;
          buffers_stay = tt;
          wide = is.wide;
          seated = λ s found opens.
              absurd (let bad : false ≡ true = sym (ap (λ (t : Session). t.is_open) (in_slot true whole s found)) ∙ opens in cc);
        })
    by false whole ends stays =
        same_becomes (finished_subscriber own e clock over) (changed (after_subscriber keys e clock)) e index clock at p x y ss
        (λ s found. in_slot false whole s found) (notified_becomes keys e index clock at p x y ss is (stays refl))

-- a seat without keys
pub stays_served : (clock : ℕ) (x y : Seat) (before later : ReplyQueue) → SeatServed clock x y before later → Changes (Tells None clock) x y
stays_served clock x y before later h =
    record {
      count_is = h.generation;
      session_is = h.session;
      stays = h.none;
      changes = λ is t stored terms initial m stands fresh. h.stands is terms initial t.opened t.caller m stands fresh;
    }

pub clear_says : (clock : ℕ) (x y : Seat) (now then_ : ReplyQueue) → SeatServed clock x y now then_
    → Says None clock x.session x.subscriber (replies_of now) (replies_of then_) (places_of now) (places_of then_)
clear_says clock x y now then_ h is t stored terms initial m stands fresh = h.said is t stored terms initial t.opened t.caller m stands fresh

-- a seat with the keys of its slot
pub keyed_stays : (clock : ℕ) (earlier later : SlotKeys) (x y : Seat) (now then_ : ReplyQueue) → SeatServedWith clock earlier later x y now then_
    → Changes (Tells (own_keys earlier) clock) x y
keyed_stays clock earlier later x y now then_ h =
    record {
      count_is = h.generation;
      session_is = h.session;
      stays = h.none;
      changes = λ is t stored terms initial m stands fresh. (h.transmits is t stored terms initial t.opened m stands fresh refl).stands;
    }

pub keyed_says : (clock : ℕ) (earlier later : SlotKeys) (x y : Seat) (now then_ : ReplyQueue) → SeatServedWith clock earlier later x y now then_
    → Says (own_keys earlier) clock x.session x.subscriber (replies_of now) (replies_of then_) (places_of now) (places_of then_)
keyed_says clock earlier later x y now then_ h is t stored terms initial m stands fresh =
    (h.transmits is t stored terms initial t.opened m stands fresh refl).said

-- what a session is sent that ends: the KMREQ of its next key, if one is due, and its SHUTDOWN
abbrev pub SaysEnd : (keys : Option Keys) (clock : ℕ) → Option TheSession → Subscriber → (before later : List Reply) (places more : ℕ) → Type 0
SaysEnd keys clock o x before later places more =
    (t : TheSession) → o ≡ Some t
    → (terms : subscribing.Terms) (initial : ℕ) (m : subscribing.Subscribing)
    → subscribers.StandsFor terms initial t.opened t.caller clock x m
    → AreSaid before later places more (datagrams_to t.peer (ending_texts keys t.caller (clock - t.opened) m) ++ shutdowns_to clock o)

pub clear_ends : (clock : ℕ) (x y : Seat) (now then_ : ReplyQueue) → SeatEnds clock x y now then_
    → SaysEnd None clock x.session x.subscriber (replies_of now) (replies_of then_) (places_of now) (places_of then_)
clear_ends clock x y now then_ h t stored terms initial m stands = h.said

pub keyed_ends : (clock : ℕ) (earlier later : SlotKeys) (x y : Seat) (now then_ : ReplyQueue) → SeatEndsWith clock earlier later x y now then_
    → SaysEnd (own_keys earlier) clock x.session x.subscriber (replies_of now) (replies_of then_) (places_of now) (places_of then_)
keyed_ends clock earlier later x y now then_ h t stored terms initial m stands = (h.tells t stored terms initial t.opened m stands).said

ending_bytes : (keys : Option Keys) (clock : ℕ) (s : Session) (m : subscribing.Subscribing) → s.past ≡ Subscribes m
    → datagrams_to s.peer (ending_texts keys s.conclusion.caller (time_in s clock) m) ≡ map sent (announced_to keys clock s)
ending_bytes None clock s m q = refl
ending_bytes (Some keys) clock s m q =
    keyed_bytes s (announced_past keys s.conclusion.caller (time_in s clock) (Subscribes m))
    ∙ ap (λ (past : Past). map sent (map (keyed_by s) (announced_past keys s.conclusion.caller (time_in s clock) past))) (sym q)

place_ends : (keys : Option Keys) (e : Terms) (index clock : ℕ) (over : Bool) (p : Publisher) (x : Subscriber) (o : Option TheSession) (s : Session)
    (before later : List Reply) (places more : ℕ)
    → IsStored e index o (Some s) → IsSeated e clock p x s → has_whole_file over s ≡ true → SaysEnd keys clock o x before later places more
    → AreSaid before later places more (map sent (served_at true keys e clock s))
place_ends keys e index clock over p x None s before later places more is seat whole says = absurd is
place_ends keys e index clock over p x (Some t) s before later places more is seat whole says = by s.past refl seat.past_is
  where
    reads : not (publishes s.conclusion.role) ≡ true
    reads = (and_parts s.is_open (not (publishes s.conclusion.role)) (whole_subscribes over s whole)).1

    by : (past : Past) → s.past ≡ past → IsPast e clock p x s past → AreSaid before later places more (map sent (served_at true keys e clock s))
    by (Publishes m) q h = absurd (let bad : false ≡ true = sym (ap not h.0) ∙ reads in cc)
    by (Subscribes m) q h =
        let first = announced_to keys clock s in
        let last = shutdown_to clock s ∷ [] in
        same_said
        (ap (λ (q : Peer). datagrams_to q (ending_texts keys t.caller (clock - t.opened) m) ++ shutdowns_to clock (Some t)) is.peer_is
        ∙ ap (λ (n : ℕ). datagrams_to s.peer (ending_texts keys n (clock - t.opened) m) ++ shutdowns_to clock (Some t)) is.caller_is
        ∙ ap (λ (n : ℕ). datagrams_to s.peer (ending_texts keys s.conclusion.caller (clock - n) m) ++ shutdowns_to clock (Some t)) is.opened_is
        ∙ ap (λ (ds : List Datagram). ds ++ shutdowns_to clock (Some t)) (ending_bytes keys clock s m q)
        ∙ ap (λ (ds : List Datagram). map sent first ++ ds) (stored_shutdown e index clock t s is)
        ∙ sym (map-append sent first last))
        (says t refl (terms_of e s).subscriber s.conclusion.initial m (as_stored e index clock t s (terms_of e s).subscriber x m is h.1))

-- the packets of its slot
pub serve_slot : (own : ℕ → Option Keys) (keys : Option Keys) (e : Terms) (index clock : ℕ) (over : Bool) (p : Publisher) (ss : List Session)
    (at : ℕ) (x y : Seat) (whole : Bool) (before : List Reply) (places : ℕ) (now then_ : ReplyQueue)
    → own at ≡ keys → at < e.sessions → IsSeat e index clock at p x ss → HasWhole over x whole
    → (whole ≡ true → SaysEnd keys clock x.session x.subscriber (replies_of now) (replies_of then_) (places_of now) (places_of then_))
    → (whole ≡ false → has_subscriber x ≡ false → Queues now then_ [])
    → (whole ≡ false → Says keys clock x.session x.subscriber (replies_of now) (replies_of then_) (places_of now) (places_of then_))
    → IsSaying (serving own e clock over) e at ss before (replies_of now) places (places_of now)
    → IsSaying (serving own e clock over) e (at + 1) ss before (replies_of then_) places (places_of then_)
serve_slot own keys e index clock over p ss at x y whole before places now then_ mine below is has ends silent serves h =
    saying_more (serving own e clock over) e ss at before (replies_of now) (replies_of then_) places (places_of now) (places_of then_) below
    (by (find (is_open_in at) ss) refl whole (has e index clock at p ss is) ends silent serves) h
  where
    stored : (f : Option Session) → find (is_open_in at) ss ≡ f → IsStored e index x.session f
    stored f found = subst (λ (g : Option Session). IsStored e index x.session g) found is.session_is

    in_slot : (b : Bool) → b ≡ whole_in over (find (is_open_in at) ss) → (s : Session) → find (is_open_in at) ss ≡ Some s
        → map sent (served_at b keys e clock s) ≡ map sent (serving own e clock over s)
    in_slot b it s found =
        ap (λ (d : Bool). map sent (served_at d keys e clock s)) (it ∙ ap (whole_in over) found)
        ∙ ap (λ (k : Option Keys). map sent (served_at (has_whole_file over s) k e clock s)) (sym (ap own (is_there at ss s found).1 ∙ mine))

    by : (f : Option Session) → find (is_open_in at) ss ≡ f → (b : Bool) → b ≡ whole_in over (find (is_open_in at) ss)
        → (b ≡ true → SaysEnd keys clock x.session x.subscriber (replies_of now) (replies_of then_) (places_of now) (places_of then_))
        → (b ≡ false → has_subscriber x ≡ false → Queues now then_ [])
        → (b ≡ false → Says keys clock x.session x.subscriber (replies_of now) (replies_of then_) (places_of now) (places_of then_))
        → AreSaid (replies_of now) (replies_of then_) (places_of now) (places_of then_) (map sent (said_of (serving own e clock over) f))
    by None found true it ends silent serves = absurd (let bad : true ≡ false = it ∙ ap (whole_in over) found in cc)
    by None found false it ends silent serves = silent refl (vacant_subscribes e index x.session (stored None found))
    by (Some s) found true it ends silent serves =
        same_said (in_slot true it s found)
        (place_ends keys e index clock over p x.subscriber x.session s (replies_of now) (replies_of then_) (places_of now) (places_of then_)
        (stored (Some s) found) (is.seated s found) (sym (it ∙ ap (whole_in over) found)) (ends refl))
    by (Some s) found false it ends silent serves =
        same_said (in_slot false it s found)
        (place_said keys e index clock p x.subscriber x.session s (replies_of now) (replies_of then_) (places_of now) (places_of then_)
        (stored (Some s) found) (is.seated s found) (is_there at ss s found).0 (silent refl) (serves refl))

-- the keys of a slot that was served
pub record ServesKeys (clock : ℕ) (over : Bool) (x : Seat) (earlier later : SlotKeys) : Type 0 where
  pub whole : Bool
  pub whole_is : HasWhole over x whole
  pub none : whole ≡ false → has_subscriber x ≡ false → later ≡ earlier
  pub said : has_subscriber x ≡ true → (t : TheSession) → x.session ≡ Some t
      → (terms : subscribing.Terms) (initial : ℕ) (m : subscribing.Subscribing)
      → subscribers.StandsFor terms initial t.opened t.caller clock x.subscriber m → subscribing.expired terms (clock - t.opened) m ≡ m
      → later ≡ keys_said (clock - t.opened) (Subscribes m) earlier

pub served_keys : (e : Terms) (index clock : ℕ) (over : Bool) (at : ℕ) (p : Publisher) (x : Seat) (ss : List Session) (earlier later : SlotKeys)
    → IsSeat e index clock at p x ss → ServesKeys clock over x earlier later
    → later ≡ keys_in_slot clock (find (is_open_in at) ss) earlier
served_keys e index clock over at p x ss earlier later is h =
    by (find (is_open_in at) ss) refl x.session refl is.session_is h.whole (h.whole_is e index clock at p ss is) h.none
  where
    one : (s : Session) (t : TheSession) → find (is_open_in at) ss ≡ Some s → x.session ≡ Some t → IsStored e index (Some t) (Some s)
        → (has_subscriber x ≡ false → later ≡ earlier)
        → (past : Past) → s.past ≡ past → IsPast e clock p x.subscriber s past → later ≡ keys_said (time_in s clock) past earlier
    one s t found o stored none (Publishes q) past k =
        none (subst (λ (u : Option TheSession). subscribes u ≡ false) (sym o) (publisher_subscribes e index t s stored k.0))
    one s t found o stored none (Subscribes m) past k =
        let terms = (terms_of e s).subscriber in
        h.said (subst (λ (u : Option TheSession). subscribes u ≡ true) (sym o) (subscriber_subscribes e index t s stored k.0)) t o terms
        s.conclusion.initial m (as_stored e index clock t s terms x.subscriber m stored k.1) (still_fresh e index clock t s terms m stored k.2)
        ∙ ap (λ (n : ℕ). keys_said (clock - n) (Subscribes m) earlier) stored.opened_is

    reader : (s : Session) (t : TheSession) → x.session ≡ Some t → IsStored e index (Some t) (Some s) → (b : Bool) → has_whole_file over s ≡ b
        → (b ≡ false → has_subscriber x ≡ false → later ≡ earlier) → has_subscriber x ≡ false → later ≡ earlier
    reader s t o stored true whole none silent =
        absurd (let role = not_true (publishes s.conclusion.role)
        (and_parts s.is_open (not (publishes s.conclusion.role)) (whole_subscribes over s whole)).1 in
        let bad : true ≡ false = sym (subscriber_subscribes e index t s stored role) ∙ ap subscribes (sym o) ∙ silent in
        cc)
    reader s t o stored false whole none silent = none refl silent

    by : (f : Option Session) → find (is_open_in at) ss ≡ f → (o : Option TheSession) → x.session ≡ o
        → IsStored e index x.session (find (is_open_in at) ss) → (b : Bool) → b ≡ whole_in over (find (is_open_in at) ss)
        → (b ≡ false → has_subscriber x ≡ false → later ≡ earlier) → later ≡ keys_in_slot clock f earlier
    by None found o stored_is st true it none = absurd (let bad : true ≡ false = it ∙ ap (whole_in over) found in cc)
    by None found o stored_is st false it none =
        none refl (vacant_subscribes e index x.session (subst (λ (g : Option Session). IsStored e index x.session g) found st))
    by (Some s) found None stored_is st b it none =
        absurd (subst (λ (u : Option TheSession). IsStored e index u (Some s)) stored_is
        (subst (λ (g : Option Session). IsStored e index x.session g) found st))
    by (Some s) found (Some t) stored_is st b it none =
        let there = subst (λ (u : Option TheSession). IsStored e index u (Some s)) stored_is
        (subst (λ (g : Option Session). IsStored e index x.session g) found st) in
        one s t found stored_is there (reader s t stored_is there b (sym (it ∙ ap (whole_in over) found)) none) s.past refl (is.seated s found).past_is

-- the ends that are recorded
pub record EndsUpTo (e : Terms) (index : ℕ) (over : Bool) (moment at : ℕ) (ss : List Session) (old new : Ledger) : Type 0 where
  pub done : (k : ℕ) → k < at → EndsIn e index ss (file_ending over) moment (find (is_open_in k) ss) (entry_of old k) (entry_of new k)
  pub ahead : (k : ℕ) → at ≤ k → entry_of new k ≡ entry_of old k
  pub sums : new.totals ≡ sums_to (cause_of_slot (file_ending over).cause ss) (entry_of new) at old.totals

pub no_ends : (e : Terms) (index : ℕ) (over : Bool) (moment : ℕ) (ss : List Session) (ledger : Ledger) → EndsUpTo e index over moment 0 ss ledger ledger
no_ends e index over moment ss ledger = record { done = λ k lt. absurd (omega (arith, lt)); ahead = λ k le. refl; sums = refl }

-- a subscriber is never the active publisher
reader_flag : (active : Option PublisherBuffers) (t : TheSession) (s : Session) (flag : Bool) → (role_of t.part) ≡ s.conclusion.role
    → not (publishes s.conclusion.role) ≡ true → is_active_by active t ≡ (publishes s.conclusion.role && flag)
reader_flag active t s flag role reads = by active (publishes s.conclusion.role) (ap publishes role) reads
  where
    by : (o : Option PublisherBuffers) (b : Bool) → publishes (role_of t.part) ≡ b → not b ≡ true → is_active_by o t ≡ (b && flag)
    by o true same k = absurd (let bad : false ≡ true = k in cc)
    by None false same k = refl
    by (Some which) false same k = rw same refl

slot_ends : (e : Terms) (index clock : ℕ) (ss : List Session) (over whole : Bool) (active : Option PublisherBuffers) (publishers : List Publisher)
    (seat : Seat) (b : Publisher) (o : Option TheSession) (f : Option Session) (old new : Option EndedSession)
    → IsStored e index o f → whole ≡ whole_in over f
    → ((s : Session) → f ≡ Some s → IsSeated e clock (buffers_of publishers seat b) seat.subscriber s)
    → TellsEndOf active publishers (file_cause whole) clock seat o old new
    → EndsIn e index ss (file_ending over) clock f old new
slot_ends e index clock ss over whole active publishers seat b None None old new is it seated h =
    nothing_notified active publishers (file_cause whole) clock seat old new h
slot_ends e index clock ss over whole active publishers seat b None (Some s) old new is it seated h = absurd is
slot_ends e index clock ss over whole active publishers seat b (Some t) None old new is it seated h = absurd is
slot_ends e index clock ss over whole active publishers seat b (Some t) (Some s) old new is it seated h =
    subst (λ (w : Bool). EndsFor e index ss (file_cause w) clock s old new) it (by whole it h)
  where
    by : (w : Bool) → w ≡ has_whole_file over s → TellsEndOf active publishers (file_cause w) clock seat (Some t) old new
        → EndsFor e index ss (file_cause w) clock s old new
    by false same k = k
    by true same k =
        end_for e index clock ss (file_cause true) clock active publishers seat t s s.past b old new is
        (reader_flag active t s (is_active ss s) is.role_is
        (and_parts s.is_open (not (publishes s.conclusion.role)) (whole_subscribes over s (sym same))).1) (seated s refl) k

whole_alike : (e : Terms) (index : ℕ) (over whole : Bool) (o : Option TheSession) (f : Option Session) → IsStored e index o f → whole ≡ whole_in over f
    → cause_if (file_cause whole) o ≡ cause_in (file_ending over).cause f
whole_alike e index over whole None None is same = refl
whole_alike e index over whole None (Some s) is same = absurd is
whole_alike e index over whole (Some t) None is same = absurd is
whole_alike e index over whole (Some t) (Some s) is same = ap file_cause same

pub one_ends : (e : Terms) (index clock : ℕ) (over whole : Bool) (active : Option PublisherBuffers) (publishers : List Publisher) (b : Publisher)
    (ss : List Session) (at : ℕ) (x : Seat) (first old new : Ledger)
    → IsSeat e index clock at (buffers_of publishers x b) x ss → HasWhole over x whole
    → NotesAt active publishers at (file_cause whole) clock x old new
    → EndsUpTo e index over clock at ss first old
    → EndsUpTo e index over clock (at + 1) ss first new
one_ends e index clock over whole active publishers b ss at x first old new is has notes h =
    record {
      done = λ k lt. one k lt;
      ahead = λ k le. notes.others k (λ same. omega (arith, le, same)) ∙ h.ahead k (omega (arith, le));
      sums = one_summed (cause_of_slot (file_ending over).cause ss) (cause_if (file_cause whole) x.session) at first old new
          (sym (whole_alike e index over whole x.session (find (is_open_in at) ss) is.session_is whole_is)) notes.others h.sums notes.sums;
    }
  where
    whole_is : whole ≡ whole_in over (find (is_open_in at) ss)
    whole_is = has e index clock at (buffers_of publishers x b) ss is

    here : EndsIn e index ss (file_ending over) clock (find (is_open_in at) ss) (entry_of first at) (entry_of new at)
    here =
        slot_ends e index clock ss over whole active publishers x b x.session (find (is_open_in at) ss) (entry_of first at) (entry_of new at) is.session_is
        whole_is (λ s found. is.seated s found)
        (subst (λ (o : Option EndedSession). TellsEndOf active publishers (file_cause whole) clock x x.session o (entry_of new at)) (h.ahead at (omega arith))
        notes.notified)

    one : (k : ℕ) → k < at + 1 → EndsIn e index ss (file_ending over) clock (find (is_open_in k) ss) (entry_of first k) (entry_of new k)
    one k lt = elim (cases_eq k at) [
      | inl it ↦
          subst (λ (n : ℕ). EndsIn e index ss (file_ending over) clock (find (is_open_in n) ss) (entry_of first n) (entry_of new n)) (sym it) here
      | inr apart ↦ subst (λ (o : Option EndedSession). EndsIn e index ss (file_ending over) clock (find (is_open_in k) ss) (entry_of first k) o)
          (sym (notes.others k apart)) (h.done k (omega (arith, lt, apart)))
    ]

-- no session is open in a slot beyond the seats
pub none_beyond : (e : Terms) (index clock : ℕ) (table : Table) (ss : List Session) → IsTable e index clock table ss
    → (k : ℕ) → length table.seats.items ≤ k → find (is_open_in k) ss ≡ None
none_beyond e index clock table ss is k beyond = by (find (is_open_in k) ss) refl
  where
    by : (f : Option Session) → find (is_open_in k) ss ≡ f → f ≡ None
    by None found = refl
    by (Some s) found = absurd (omega (arith, beyond, below_seats e index clock table ss k s is found))

pub all_ends : (e : Terms) (index clock : ℕ) (over : Bool) (table : Table) (ss : List Session) (at : ℕ) (old new : Ledger)
    → IsTable e index clock table ss → length table.seats.items ≡ at
    → EndsUpTo e index over clock at ss old new
    → EndsAre e index (file_ending over) clock ss (kept_of old) (kept_of new)
all_ends e index clock over table ss at old new is all h =
    record {
      entries = λ k. elim (cases_lt k at) [
        | inl below ↦ h.done k below
        | inr above ↦ subst (λ (f : Option Session). EndsIn e index ss (file_ending over) clock f (entry_of old k) (entry_of new k))
            (sym (none_beyond e index clock table ss is k (omega (arith, all, above)))) (h.ahead k above)
      ];
      sums = h.sums
          ∙ ap (λ (n : ℕ). sums_to (cause_of_slot (file_ending over).cause ss) (entry_of new) n old.totals) (sym all ∙ is.places_are);
    }
