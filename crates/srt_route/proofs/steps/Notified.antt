-- What is kept of the sessions that end.
use Rattle.std.proofs.Common.{◌≡◌, ◌≢◌, ℕ, ◌<◌, ◌≤◌, Bool, true, false, cond, Option, None, Some, List, length, map}
use Rattle.std.proofs.Common.{find, get_or, set, not, ◌+◌, ◌&&◌, ◌||◌}
use Rattle.std.proofs.Common.{refl, sym, ap, subst, ◌∙◌, inl, inr, arith}
use Rattle.std.specs.Prelude.{⊤}
use Rattle.std.specs.Option.{option_map}
use Rattle.std.proofs.lemmas.Bool.{and_parts, cases_eq, cases_lt}
use Rattle.std.proofs.lemmas.List.{get_or_default}
use Rattle.srt_types.specs.declared.shared.Peer.{Peer}
use Rattle.srt_types.specs.declared.shared.Callers.{Callers}
use Rattle.srt_types.specs.declared.shared.Callers.TheVariants.{Draft, Libsrt}
use Rattle.srt_types.specs.Terms.{Terms}
use Rattle.srt_types.specs.Items.{Item, Close}
use Rattle.srt_packet.specs.Grammar.{Packet, Body, Data, Handshake, KeepAlive, Ack, Nak, CongestionWarning, Shutdown, AckAck, DropRequest}
use Rattle.srt_packet.specs.Grammar.{PeerError, UserDefined}
use Rattle.srt_pub.specs.declared.ends.PubEnd.{PubEnd}
use Rattle.srt_pub.specs.declared.session.Publisher.{Publisher}
use Rattle.srt_sub.specs.Subscribing.{Subscribing}
use Rattle.srt_sub.specs.declared.session.Subscriber.{Subscriber}
use Rattle.srt_route.specs.declared.publisher_buffers.PublisherBuffers.{PublisherBuffers}
use Rattle.srt_route.specs.declared.seat.Session.{Session as TheSession}
use Rattle.srt_route.specs.declared.seat.Seat.{Seat}
use Rattle.srt_route.specs.declared.table.Table.{Table}
use Rattle.srt_route.specs.declared.view.SessionView.{SessionView}
use Rattle.srt_route.specs.declared.ledger.EndCause.{EndCause}
use Rattle.srt_route.specs.declared.ledger.EndCause.TheVariants as causes
use Rattle.srt_route.specs.declared.ledger.EndedSession.{EndedSession}
use Rattle.srt_route.specs.declared.ledger.Ledger.{Ledger}
use Rattle.srt_route.specs.Past.{Past, Publishes, Subscribes, Agreed, has_all, has_left, is_shutdown, took_past}
use Rattle.srt_route.specs.Sessions.{Session, advanced, is_active, is_draining, is_open_in, is_over_at, is_subscriber, publishes, stamp_in, terms_of, time_in}
use Rattle.srt_route.specs.Route.{Route, drain_if, drain_of, has_whole_file, heard_as, heard_by, is_for, judged, clock_after, is_file_over}
use Rattle.srt_route.specs.Buffers.{IsPast, IsSeated}
use Rattle.srt_route.specs.Parts.{role_of, until_of}
use Rattle.srt_route.specs.PublisherBuffers.{place_of}
use Rattle.srt_route.specs.Tables.{IsSeat, IsSession, IsStored, IsTable, buffers_of, used_buffers}
use Rattle.srt_route.specs.Totals.{sums_to, with_end}
use Rattle.srt_route.specs.Viewing.{IsView}
use Rattle.srt_route.specs.Ledgers.{cause_of, closed_cause, entry_of, file_cause, heard_at_end, idle_cause, shutdown_cause, time_cause}
use Rattle.srt_route.specs.Ends.{Ending, EndsAre, EndsFor, EndsIn, EndsInEvent, IsEnd, KeepsEnds, KeepsEndsIf, Kept, after_packet, arrived_end, arrived_ending}
use Rattle.srt_route.specs.Ends.{at_end, cause_in, cause_of_slot, cause_unless, file_ending, idle_end, idle_ending, item_ending, kept_of, packet_end}
use Rattle.srt_route.specs.inside.Delivery.{after_publisher, publisher_reported}
use Rattle.srt_route.specs.inside.Notes.{IsEndOf, NotesAt, NotesEach, TellsOf, cause_at, cause_if}
use Rattle.srt_route.specs.inside.OneSession.{PublisherEndsFor, PublisherTook, end_unless}
use Rattle.srt_route.specs.inside.Standby.{active_in, is_active_by}
use Rattle.srt_route.proofs.model.Changes.{find_changed}
use Rattle.srt_route.proofs.model.FileEnds.{gone, over_after, whole_after, whole_subscribes}
use Rattle.srt_route.proofs.stored.Kept.{below_seats, seat_at, some_buffers}
use Rattle.srt_route.proofs.stored.Publishers.{set_here}
use Rattle.srt_route.proofs.stored.Stored.{IsForNone, IsHere, some_item}
use Rattle.srt_route.proofs.steps.Noting.{cause_here, sums_none, sums_one, sums_same}
use Rattle.srt_route.proofs.steps.Views.{active_stored, seen_is}

-- the end of a stored session is the end of the session that it represents
pub end_is : (e : Terms) (index clock : ℕ) (ss : List Session) (cause : EndCause) (moment : ℕ) (active : Option PublisherBuffers) (p : Publisher)
    (x : Subscriber) (t : TheSession) (s : Session) (q : Past) (ended : EndedSession)
    → IsSession e index t s → is_active_by active t ≡ (publishes s.conclusion.role && is_active ss s)
    → IsSeated e clock p x (record s { past = q }) → IsEndOf cause moment active p x t ended
    → IsEnd e index ss cause moment (record s { past = q }) ended
end_is e index clock ss cause moment active p x t s q ended is flag seated h =
    record {
      cause_is = h.cause_is;
      moment_is = h.moment_is;
      view_is = seen_is e index clock ss active p x t s q (heard_at_end cause t.heard moment) (heard_at_end cause s.heard moment) ended.view is flag seated
          (ap (λ (n : ℕ). heard_at_end cause n moment) is.heard_is) h.view_is;
      keys_is = h.view_is.keys_is;
    }

pub end_for : (e : Terms) (index clock : ℕ) (ss : List Session) (cause : Option EndCause) (moment : ℕ) (active : Option PublisherBuffers)
    (publishers : List Publisher) (seat : Seat) (t : TheSession) (s : Session) (q : Past) (b : Publisher) (old new : Option EndedSession)
    → IsSession e index t s → is_active_by active t ≡ (publishes s.conclusion.role && is_active ss s)
    → IsSeated e clock (buffers_of publishers seat b) seat.subscriber (record s { past = q })
    → TellsOf active publishers cause moment seat (Some t) old new → EndsFor e index ss cause moment (record s { past = q }) old new
end_for e index clock ss None moment active publishers seat t s q b old new is flag seated h = h
end_for e index clock ss (Some cause) moment active publishers seat t s q b old None is flag seated h = h
end_for e index clock ss (Some cause) moment active publishers seat t s q b old (Some x) is flag seated h =
    end_is e index clock ss cause moment active (buffers_of publishers seat b) seat.subscriber t s q x is flag seated (h b)

pub nothing_notified : (active : Option PublisherBuffers) (publishers : List Publisher) (cause : Option EndCause) (moment : ℕ) (seat : Seat)
    (old new : Option EndedSession)
    → TellsOf active publishers cause moment seat None old new → new ≡ old
nothing_notified active publishers None moment seat old new h = h
nothing_notified active publishers (Some cause) moment seat old new h = h

-- a slot's session, with the past that the buffers represent
pub slot_notified : (e : Terms) (index clock : ℕ) (ss : List Session) (active : Option PublisherBuffers) (publishers : List Publisher) (seat : Seat)
    (ending : Ending) (cause : Option EndCause) (moment : ℕ) (b : Publisher) (o : Option TheSession) (f : Option Session) (old new : Option EndedSession)
    → ((s : Session) → ending.last s ≡ s) → IsStored e index o f → cause_if cause o ≡ cause_in ending.cause f
    → ((t : TheSession) (s : Session) → o ≡ Some t → f ≡ Some s → is_active_by active t ≡ (publishes s.conclusion.role && is_active ss s))
    → ((s : Session) → f ≡ Some s → IsSeated e clock (buffers_of publishers seat b) seat.subscriber s)
    → TellsOf active publishers cause moment seat o old new
    → EndsIn e index ss ending moment f old new
slot_notified e index clock ss active publishers seat ending cause moment b None None old new same is causes flag seated h =
    nothing_notified active publishers cause moment seat old new h
slot_notified e index clock ss active publishers seat ending cause moment b None (Some s) old new same is causes flag seated h = absurd is
slot_notified e index clock ss active publishers seat ending cause moment b (Some t) None old new same is causes flag seated h = absurd is
slot_notified e index clock ss active publishers seat ending cause moment b (Some t) (Some s) old new same is causes flag seated h =
    subst (λ (u : Session). EndsFor e index ss (ending.cause s) moment u old new) (sym (same s))
    (subst (λ (c : Option EndCause). EndsFor e index ss c moment s old new) causes
    (end_for e index clock ss cause moment active publishers seat t s s.past b old new is (flag t s refl refl) (seated s refl) h))

-- all slots, where each session ends independently
causes_alike : (e : Terms) (index : ℕ) (stored : Option TheSession → Option EndCause) (cause : Session → Option EndCause) (o : Option TheSession)
    (f : Option Session)
    → ((t : TheSession) (s : Session) → IsSession e index t s → stored (Some t) ≡ cause s) → IsStored e index o f
    → cause_if (stored o) o ≡ cause_in cause f
causes_alike e index stored cause None None same is = refl
causes_alike e index stored cause None (Some s) same is = absurd is
causes_alike e index stored cause (Some t) None same is = absurd is
causes_alike e index stored cause (Some t) (Some s) same is = same t s is

pub same_role : (e : Terms) (index : ℕ) (o : Option TheSession) (f : Option Session) (t : TheSession) (s : Session)
    → IsStored e index o f → o ≡ Some t → f ≡ Some s → (role_of t.part) ≡ s.conclusion.role
same_role e index o f t s is here found =
    let both : IsStored e index (Some t) (Some s) =
    subst (λ (g : Option Session). IsStored e index (Some t) g) found (subst (λ (p : Option TheSession). IsStored e index p f) here is) in
    both.role_is

each_notified : (e : Terms) (index before moment : ℕ) (table : Table) (ss : List Session) (stored : Option TheSession → Option EndCause)
    (ending : Ending) (old new : Ledger)
    → ((s : Session) → ending.last s ≡ s)
    → IsTable e index before table ss → ((t : TheSession) (s : Session) → IsSession e index t s → stored (Some t) ≡ ending.cause s)
    → NotesEach stored moment table old new
    → EndsAre e index ending moment ss (kept_of old) (kept_of new)
each_notified e index before moment table ss stored ending old new last is same h =
    record {
      entries = λ at. elim (cases_lt at (length table.seats.items)) [
        | inl below ↦ inside at below
        | inr past ↦ outside at (find (is_open_in at) ss) refl (omega (arith, past))
      ];
      sums = h.sums
          ∙ sums_same (cause_at stored table.seats.items) (cause_of_slot ending.cause ss) (entry_of new) (entry_of new) (length table.seats.items) old.totals
          (λ k lt. causes k lt) (λ k lt. refl)
          ∙ ap (λ (n : ℕ). sums_to (cause_of_slot ending.cause ss) (entry_of new) n old.totals) is.places_are;
    }
  where
    seats : List Seat
    seats = table.seats.items

    causes : (k : ℕ) → k < length seats → cause_at stored seats k ≡ cause_of_slot ending.cause ss k
    causes k lt =
        let d = some_item seats k lt in
        cause_here stored seats k (get_or seats k d) lt (sym (get_or_default seats k (get_or seats k d) d lt))
        ∙ causes_alike e index stored ending.cause (get_or seats k d).session (find (is_open_in k) ss) same
        (is.seats_are k d (some_buffers table) lt).session_is

    inside : (at : ℕ) → at < length seats → EndsIn e index ss ending moment (find (is_open_in at) ss) (entry_of old at) (entry_of new at)
    inside at below =
        let d = some_item seats at below in
        let seat = is.seats_are at d (some_buffers table) below in
        slot_notified e index before ss (active_in table) table.publishers.items (get_or seats at d) ending (stored (get_or seats at d).session) moment
        (some_buffers table) (get_or seats at d).session (find (is_open_in at) ss) (entry_of old at) (entry_of new at) last seat.session_is
        (causes_alike e index stored ending.cause (get_or seats at d).session (find (is_open_in at) ss) same seat.session_is)
        (λ t s here found. active_stored e index before table ss at d s t is found here
        (same_role e index (get_or seats at d).session (find (is_open_in at) ss) t s seat.session_is here found))
        (λ s found. seat.seated s found) (h.notified at d below)

    outside : (at : ℕ) (f : Option Session) → find (is_open_in at) ss ≡ f → length seats ≤ at
        → EndsIn e index ss ending moment f (entry_of old at) (entry_of new at)
    outside at None found past = h.others at past
    outside at (Some s) found past = absurd (omega (arith, past, below_seats e index before table ss at s is found))

pub idle_notified : (e : Terms) (index before clock : ℕ) (table : Table) (ss : List Session) (old new : Ledger)
    → IsTable e index before table ss → NotesEach (idle_cause clock) clock table old new
    → EndsAre e index (idle_ending clock) clock ss (kept_of old) (kept_of new)
idle_notified e index before clock table ss old new is h =
    each_notified e index before clock table ss (idle_cause clock) (idle_ending clock) old new (λ s. refl) is (λ t s stored. one t s stored) h
  where
    one : (t : TheSession) (s : Session) → IsSession e index t s → idle_cause clock (Some t) ≡ idle_end clock s
    one t s stored =
        ap (λ (b : Bool). cond (b || is_over_at (until_of t.part) t.heard clock) (Some (time_cause (until_of t.part))) None) stored.given_up_is
        ∙ ap (λ (d : Option ℕ). cond (s.is_given_up || is_over_at d t.heard clock) (Some (time_cause d)) None) stored.drains_is
        ∙ ap (λ (n : ℕ). cond (s.is_given_up || is_over_at s.drains n clock) (Some (time_cause s.drains)) None) stored.heard_is

pub closed_notified : (e : Terms) (index clock moment : ℕ) (table : Table) (ss : List Session) (old new : Ledger)
    → IsTable e index clock table ss → NotesEach closed_cause clock table old new
    → EndsAre e index (item_ending e index clock (Close moment) ss) clock ss (kept_of old) (kept_of new)
closed_notified e index clock moment table ss old new is h =
    each_notified e index clock clock table ss closed_cause (item_ending e index clock (Close moment) ss) old new (λ s. refl) is (λ t s stored. refl) h

-- if nothing is recorded, no session has a cause
pub none_notified : (e : Terms) (index : ℕ) (ending : Ending) (moment : ℕ) (ss : List Session) (old new : Kept)
    → ((at : ℕ) (s : Session) → find (is_open_in at) ss ≡ Some s → ending.cause s ≡ None) → ((at : ℕ) → new.ended at ≡ old.ended at)
    → new.totals ≡ old.totals
    → EndsAre e index ending moment ss old new
none_notified e index ending moment ss old new none same totals =
    record {
      entries = λ at. entry at (find (is_open_in at) ss) refl;
      sums = totals ∙ sym (sums_none (cause_of_slot ending.cause ss) new.ended e.sessions old.totals (λ k lt. cause k (find (is_open_in k) ss) refl));
    }
  where
    entry : (at : ℕ) (f : Option Session) → find (is_open_in at) ss ≡ f → EndsIn e index ss ending moment f (old.ended at) (new.ended at)
    entry at None found = same at
    entry at (Some s) found =
        subst (λ (c : Option EndCause). EndsFor e index ss c moment (ending.last s) (old.ended at) (new.ended at)) (sym (none at s found)) (same at)

    cause : (at : ℕ) (f : Option Session) → find (is_open_in at) ss ≡ f → cause_in ending.cause f ≡ None
    cause at None found = refl
    cause at (Some s) found = none at s found

-- a packet that is for no session
not_for : (e : Terms) (index clock : ℕ) (peer : Peer) (packet : Packet) (ss : List Session) (s : Session)
    → is_for index peer packet.dest s ≡ false → arrived_end e index clock peer packet ss s ≡ None
not_for e index clock peer packet ss s h =
    ap
    (λ (b : Bool).
    cond b (cause_unless (drain_of e clock packet.body ss (Some s)) (packet_end (terms_of e s) s.conclusion.initial packet.body s.past)) None) h

pub none_for : (e : Terms) (index clock : ℕ) (peer : Peer) (packet : Packet) (table : Table) (ss : List Session) (ledger : Ledger)
    → IsTable e index clock table ss → IsForNone index peer packet.dest e.sessions ss
    → EndsAre e index (arrived_ending e index clock peer packet ss) clock ss (kept_of ledger) (kept_of ledger)
none_for e index clock peer packet table ss ledger is none =
    none_notified e index (arrived_ending e index clock peer packet ss) clock ss (kept_of ledger) (kept_of ledger)
    (λ at s found.
    not_for e index clock peer packet ss s (none at s (omega (arith, below_seats e index clock table ss at s is found, is.places_are)) found))
    (λ at. refl) refl

-- the buffers after a packet that ends the session represent its past
abbrev pub IsSeatedAfter : Terms → (clock : ℕ) → Packet → Publisher → Subscriber → Session → Option EndCause → Type 0
IsSeatedAfter e clock packet p x s None = ⊤
IsSeatedAfter e clock packet p x s (Some cause) = IsSeated e clock p x (after_packet e clock packet s)

-- a packet that is for a slot's session
pub one_reported : (e : Terms) (index clock : ℕ) (peer : Peer) (packet : Packet) (table : Table) (ss : List Session) (at : ℕ) (x : Seat)
    (t : TheSession) (s : Session) (cause : Option EndCause) (active : Option PublisherBuffers) (publishers : List Publisher) (b : Publisher)
    (old new : Ledger)
    → IsTable e index clock table ss → IsHere e index ss peer packet.dest at x t s
    → cause ≡ cause_unless (drain_of e clock packet.body ss (Some s)) (packet_end (terms_of e s) s.conclusion.initial packet.body s.past)
    → is_active_by active t ≡ (publishes s.conclusion.role && is_active ss s)
    → IsSeatedAfter e clock packet (buffers_of publishers x b) x.subscriber s cause
    → NotesAt active publishers at cause clock x old new
    → EndsAre e index (arrived_ending e index clock peer packet ss) clock ss (kept_of old) (kept_of new)
one_reported e index clock peer packet table ss at x t s cause active publishers b old new is here same flag seated h =
    record {
      entries = λ k. elim (cases_eq k at) [
        | inl it ↦
            subst (λ (n : ℕ). EndsIn e index ss ending clock (find (is_open_in n) ss) (entry_of old n) (entry_of new n)) (sym it)
            (subst (λ (f : Option Session). EndsIn e index ss ending clock f (entry_of old at) (entry_of new at)) (sym here.found_is)
            (subst (λ (c : Option EndCause). EndsFor e index ss c clock (after_packet e clock packet s) (entry_of old at) (entry_of new at)) (same ∙ sym for_it)
            (ended cause seated
            (subst (λ (o : Option TheSession). TellsOf active publishers cause clock x o (entry_of old at) (entry_of new at)) here.stored_is h.notified))))
        | inr other ↦ by k (find (is_open_in k) ss) refl other
      ];
      sums = h.sums
          ∙ ap (λ (o : Option TheSession). with_end (cause_if cause o) (entry_of new at) old.totals) here.stored_is
          ∙ ap (λ (c : Option EndCause). with_end c (entry_of new at) old.totals) (same ∙ sym for_it ∙ ap (cause_in ending.cause) (sym here.found_is))
          ∙ sym (sums_one (cause_of_slot ending.cause ss) (entry_of new) at e.sessions old.totals here.below
          (λ k lt other. none k (find (is_open_in k) ss) refl other));
    }
  where
    ending : Ending
    ending = arrived_ending e index clock peer packet ss

    ended : (c : Option EndCause) → IsSeatedAfter e clock packet (buffers_of publishers x b) x.subscriber s c
        → TellsOf active publishers c clock x (Some t) (entry_of old at) (entry_of new at)
        → EndsFor e index ss c clock (after_packet e clock packet s) (entry_of old at) (entry_of new at)
    ended None there k = k
    ended (Some c) there k =
        end_for e index clock ss (Some c) clock active publishers x t s (after_packet e clock packet s).past b (entry_of old at) (entry_of new at)
        here.session_is flag there k

    for_it : arrived_end e index clock peer packet ss s
        ≡ cause_unless (drain_of e clock packet.body ss (Some s)) (packet_end (terms_of e s) s.conclusion.initial packet.body s.past)
    for_it =
        ap
        (λ (b : Bool).
        cond b (cause_unless (drain_of e clock packet.body ss (Some s)) (packet_end (terms_of e s) s.conclusion.initial packet.body s.past)) None)
        here.for_it

    none : (k : ℕ) (f : Option Session) → find (is_open_in k) ss ≡ f → k ≢ at → cause_in ending.cause f ≡ None
    none k None found other = refl
    none k (Some u) found other =
        not_for e index clock peer packet ss u
        (here.others k u other (omega (arith, below_seats e index clock table ss k u is found, is.places_are)) found)

    by : (k : ℕ) (f : Option Session) → find (is_open_in k) ss ≡ f → k ≢ at → EndsIn e index ss ending clock f (entry_of old k) (entry_of new k)
    by k None found other = h.others k other
    by k (Some u) found other =
        subst (λ (c : Option EndCause). EndsFor e index ss c clock (after_packet e clock packet u) (entry_of old k) (entry_of new k))
        (sym (none k (Some u) found other)) (h.others k other)

-- the cause by the role of the session
pub publisher_end : (e : Terms) (clock : ℕ) (packet : Packet) (p : Publisher) (x : Subscriber) (s : Session) (end : Option PubEnd)
    → publishes s.conclusion.role ≡ true → PublisherEndsFor packet p end → IsSeated e clock p x s
    → cause_of end ≡ packet_end (terms_of e s) s.conclusion.initial packet.body s.past
publisher_end e clock packet p x s end role ends is = by s.past is.past_is
  where
    by : (past : Past) → IsPast e clock p x s past → cause_of end ≡ packet_end (terms_of e s) s.conclusion.initial packet.body past
    by (Subscribes m) h = absurd (let bad : true ≡ false = sym role ∙ h.0 in cc)
    by (Publishes m) h = ap cause_of (ends (terms_of e s).publisher s.conclusion.initial s.opening s.stamp s.conclusion.caller m h.1)

pub subscriber_end : (e : Terms) (clock : ℕ) (packet : Packet) (p : Publisher) (x : Subscriber) (s : Session)
    → publishes s.conclusion.role ≡ false → IsSeated e clock p x s
    → shutdown_cause packet.body ≡ packet_end (terms_of e s) s.conclusion.initial packet.body s.past
subscriber_end e clock packet p x s role is = by s.past is.past_is
  where
    by : (past : Past) → IsPast e clock p x s past → shutdown_cause packet.body ≡ packet_end (terms_of e s) s.conclusion.initial packet.body past
    by (Subscribes m) h = refl
    by (Publishes m) h = absurd (let bad : true ≡ false = sym h.0 ∙ role in cc)

-- the publishers' packets change nothing of how files end
files_same : (over : Bool) (e : Terms) (clock : ℕ) (s : Session) → has_whole_file over s ≡ true → gone e clock s ≡ s
files_same over e clock s whole = opened s.is_open (and_parts s.is_open (not (publishes s.conclusion.role)) (whole_subscribes over s whole)).0
  where
    past_same : (q : Past) → has_all q ≡ true → publisher_reported (is_draining s) (terms_of e s) (time_in s clock) q ≡ q
    past_same (Publishes p) h = absurd (let bad : false ≡ true = h in cc)
    past_same (Subscribes m) h = refl

    opened : (b : Bool) → b ≡ true → cond b (record s { past = after_publisher e clock s }) s ≡ s
    opened false h = refl
    opened true h =
        ap (λ (q : Past). record s { past = q }) (past_same s.past (and_parts (over && is_subscriber s && s.file_ended) (has_all s.past) whole).1)

pub files_notified : (e : Terms) (index clock : ℕ) (ss : List Session) (old new : Kept)
    → EndsAre e index (file_ending (is_file_over e (map (gone e clock) ss))) clock (map (gone e clock) ss) old new
    → EndsAre e index (file_ending (is_file_over e ss)) clock ss old new
files_notified e index clock ss old new given =
    record {
      entries = λ at. by at (find (is_open_in at) ss)
          (subst (λ (f : Option Session). EndsIn e index ts (file_ending over) clock f (old.ended at) (new.ended at))
          (find_changed (after_publisher e clock) at ss)
          (h.entries at));
      sums = h.sums
          ∙ sums_same (cause_of_slot (file_ending over).cause ts) (cause_of_slot (file_ending over).cause ss) new.ended new.ended e.sessions old.totals
          (λ k lt. ap (cause_in (file_ending over).cause) (find_changed (after_publisher e clock) k ss) ∙ cause_same (find (is_open_in k) ss)) (λ k lt. refl);
    }
  where
    over : Bool
    over = is_file_over e ss

    ts : List Session
    ts = map (gone e clock) ss

    h : EndsAre e index (file_ending over) clock ts old new
    h = subst (λ (b : Bool). EndsAre e index (file_ending b) clock ts old new) (over_after e clock ss) given

    cause_same : (f : Option Session) → cause_in (file_ending over).cause (option_map (gone e clock) f) ≡ cause_in (file_ending over).cause f
    cause_same None = refl
    cause_same (Some s) = ap file_cause (whole_after e clock over s)

    flag_same : (a b c : Bool) → c ≡ false → (c && a) ≡ (c && b)
    flag_same a b c none = rw none refl

    view_same : (s : Session) (v : SessionView) → publishes s.conclusion.role ≡ false → IsView e index ts s v → IsView e index ss s v
    view_same s v reads k =
        record {
          peer_is = k.peer_is;
          caller_is = k.caller_is;
          id_is = k.id_is;
          role_is = k.role_is;
          active_is = k.active_is ∙ flag_same (is_active ts s) (is_active ss s) (publishes s.conclusion.role) reads;
          draining_is = k.draining_is;
          opened_is = k.opened_is;
          heard_is = k.heard_is;
          latency_is = k.latency_is;
          traffic_is = k.traffic_is;
        }

    reader : (b : Bool) → not b ≡ true → b ≡ false
    reader false k = refl
    reader true k = absurd (let bad : false ≡ true = k in cc)

    one : (s : Session) (b : Bool) (x y : Option EndedSession) → has_whole_file over s ≡ b
        → EndsFor e index ts (file_cause b) clock (gone e clock s) x y → EndsFor e index ss (file_cause b) clock s x y
    one s false x y whole k = k
    one s true x None whole k = k
    one s true x (Some end) whole k =
        let same = subst (λ (u : Session). IsEnd e index ts causes.FileEnded clock u end) (files_same over e clock s whole) k in
        let reads = reader (publishes s.conclusion.role) (and_parts s.is_open (not (publishes s.conclusion.role)) (whole_subscribes over s whole)).1 in
        record {
          cause_is = same.cause_is;
          moment_is = same.moment_is;
          view_is = view_same (at_end causes.FileEnded clock s) end.view reads same.view_is;
          keys_is = same.keys_is;
        }

    by : (at : ℕ) (f : Option Session) → EndsIn e index ts (file_ending over) clock (option_map (gone e clock) f) (old.ended at) (new.ended at)
        → EndsIn e index ss (file_ending over) clock f (old.ended at) (new.ended at)
    by at None k = k
    by at (Some s) k =
        one s (has_whole_file over s) (old.ended at) (new.ended at) refl
        (subst (λ (b : Bool). EndsFor e index ts (file_cause b) clock (gone e clock s) (old.ended at) (new.ended at)) (whole_after e clock over s) k)

-- the cause of an end that draining may defer
unless_is : (drains : Option ℕ) (end : Option PubEnd) → cause_of (end_unless drains end) ≡ cause_unless drains (cause_of end)
unless_is None end = refl
unless_is (Some until) end = refl

-- a subscriber's session doesn't drain
drain_never : (callers : Callers) (until : ℕ) → drain_if callers false until ≡ None
drain_never Draft until = refl
drain_never Libsrt until = refl

nothing_left : (a : Bool) → (a && false) ≡ false
nothing_left true = refl
nothing_left false = refl

pub subscriber_goes_on : (e : Terms) (clock : ℕ) (body : Body) (p : Publisher) (x : Subscriber) (ss : List Session) (s : Session)
    → publishes s.conclusion.role ≡ false → IsSeated e clock p x s → drain_of e clock body ss (Some s) ≡ None
subscriber_goes_on e clock body p x ss s role is = by s.past refl is.past_is
  where
    by : (past : Past) → s.past ≡ past → IsPast e clock p x s past → drain_of e clock body ss (Some s) ≡ None
    by (Publishes m) same h = absurd (let bad : true ≡ false = sym h.0 ∙ role in cc)
    by (Subscribes m) same h =
        ap (λ (q : Past). drain_if e.rules.callers (is_shutdown body && is_active ss s && has_left (terms_of e s) q) (clock +
        (terms_of e s).publisher.delay + 5_000_000)) same
        ∙ ap (λ (b : Bool). drain_if e.rules.callers b (clock + (terms_of e s).publisher.delay + 5_000_000)) (nothing_left (is_shutdown body && is_active ss s))
        ∙ drain_never e.rules.callers (clock + (terms_of e s).publisher.delay + 5_000_000)

-- the buffers after a packet that ends the session
pub publisher_seated : (e : Terms) (clock : ℕ) (packet : Packet) (p q : Publisher) (x : Subscriber) (s : Session)
    → publishes s.conclusion.role ≡ true → PublisherTook clock packet p q → IsSeated e clock p x s → IsSeated e clock q x (after_packet e clock packet s)
publisher_seated e clock packet p q x s role took_them is = record { past_is = by s.past is.past_is; opened = is.opened }
  where
    by : (past : Past) → IsPast e clock p x s past
        → IsPast e clock q x (after_packet e clock packet s)
        (took_past (terms_of e s) s.conclusion.initial (time_in s clock) (stamp_in s packet.stamp) packet.body past)
    by (Publishes m) h = (
      h.0,
      took_them (terms_of e s).publisher s.conclusion.initial s.opening s.stamp s.conclusion.caller (time_in s clock) m (omega (arith, is.opened)) h.1,
    )
    by (Subscribes m) h = absurd (let bad : true ≡ false = sym role ∙ h.0 in cc)

-- of packets only a SHUTDOWN ends a subscriber's session, and it changes nothing of its past
shutdown_stays : (terms : Agreed) (initial time stamp : ℕ) (body : Body) (m : Subscribing) (cause : EndCause)
    → Some cause ≡ shutdown_cause body → took_past terms initial time stamp body (Subscribes m) ≡ Subscribes m
shutdown_stays terms initial time stamp Shutdown m cause h = refl
shutdown_stays terms initial time stamp (Data number encryption payload) m cause h = absurd (let bad : Some cause ≡ None = h in cc)
shutdown_stays terms initial time stamp (Handshake info) m cause h = absurd (let bad : Some cause ≡ None = h in cc)
shutdown_stays terms initial time stamp KeepAlive m cause h = absurd (let bad : Some cause ≡ None = h in cc)
shutdown_stays terms initial time stamp (Ack number info) m cause h = absurd (let bad : Some cause ≡ None = h in cc)
shutdown_stays terms initial time stamp (Nak info) m cause h = absurd (let bad : Some cause ≡ None = h in cc)
shutdown_stays terms initial time stamp CongestionWarning m cause h = absurd (let bad : Some cause ≡ None = h in cc)
shutdown_stays terms initial time stamp (AckAck number) m cause h = absurd (let bad : Some cause ≡ None = h in cc)
shutdown_stays terms initial time stamp (DropRequest message first last) m cause h = absurd (let bad : Some cause ≡ None = h in cc)
shutdown_stays terms initial time stamp PeerError m cause h = absurd (let bad : Some cause ≡ None = h in cc)
shutdown_stays terms initial time stamp UserDefined m cause h = absurd (let bad : Some cause ≡ None = h in cc)

subscriber_seated : (e : Terms) (clock : ℕ) (packet : Packet) (p : Publisher) (x : Subscriber) (s : Session) (cause : Option EndCause)
    → publishes s.conclusion.role ≡ false → cause ≡ shutdown_cause packet.body → IsSeated e clock p x s → IsSeatedAfter e clock packet p x s cause
subscriber_seated e clock packet p x s None role same is = tt
subscriber_seated e clock packet p x s (Some cause) role same is = record { past_is = by s.past is.past_is; opened = is.opened }
  where
    by : (past : Past) → IsPast e clock p x s past
        → IsPast e clock p x (after_packet e clock packet s)
        (took_past (terms_of e s) s.conclusion.initial (time_in s clock) (stamp_in s packet.stamp) packet.body past)
    by (Publishes m) h = absurd (let bad : true ≡ false = sym h.0 ∙ role in cc)
    by (Subscribes m) h =
        subst (λ (q : Past). IsPast e clock p x (after_packet e clock packet s) q)
        (sym (shutdown_stays (terms_of e s) s.conclusion.initial (time_in s clock) (stamp_in s packet.stamp) packet.body m cause same)) h

any_cause : (e : Terms) (clock : ℕ) (packet : Packet) (p : Publisher) (x : Subscriber) (s : Session) (cause : Option EndCause)
    → IsSeated e clock p x (after_packet e clock packet s) → IsSeatedAfter e clock packet p x s cause
any_cause e clock packet p x s None is = tt
any_cause e clock packet p x s (Some cause) is = is

pub publisher_notified : (e : Terms) (index clock : ℕ) (peer : Peer) (packet : Packet) (table : Table) (ss : List Session) (at : ℕ)
    (which : PublisherBuffers) (p q : Publisher) (x : Seat) (t : TheSession) (s : Session) (end : Option PubEnd) (drains : Option ℕ) (cause : Option EndCause)
    (publishers : List Publisher) (old new : Ledger)
    → IsTable e index clock table ss → x ≡ get_or table.seats.items at x → IsHere e index ss peer packet.dest at x t s
    → publishes s.conclusion.role ≡ true → which ≡ used_buffers x → p ≡ get_or table.publishers.items (place_of which) p
    → publishers ≡ set table.publishers.items (place_of which) q → PublisherTook clock packet p q
    → PublisherEndsFor packet p end → cause ≡ cause_of (end_unless drains end) → drains ≡ drain_of e clock packet.body ss (Some s)
    → ((d : Seat) → NotesAt (active_in table) publishers at cause clock (get_or table.seats.items at d) old new)
    → EndsAre e index (arrived_ending e index clock peer packet ss) clock ss (kept_of old) (kept_of new)
publisher_notified e index clock peer packet table ss at which p q x t s end drains cause publishers old new is there here role which_is p_is turned took_them
    ends cause_is drains_is notes =
    one_reported e index clock peer packet table ss at x t s cause (active_in table) publishers q old new is here
    (cause_is ∙ unless_is drains end
    ∙ ap (cause_unless drains) (publisher_end e clock packet p x.subscriber s end role ends (seat.seated s here.found_is))
    ∙ ap (λ (d : Option ℕ). cause_unless d (packet_end (terms_of e s) s.conclusion.initial packet.body s.past)) drains_is)
    (active_stored e index clock table ss at x s t is here.found_is (ap (λ (z : Seat). z.session) (sym there) ∙ here.stored_is) here.session_is.role_is)
    (any_cause e clock packet (buffers_of publishers x q) x.subscriber s cause
    (subst (λ (z : Publisher). IsSeated e clock z x.subscriber (after_packet e clock packet s)) (sym mine)
    (publisher_seated e clock packet p q x.subscriber s role took_them (seat.seated s here.found_is))))
    (subst (λ (z : Seat). NotesAt (active_in table) publishers at cause clock z old new) (sym there) (notes x))
  where
    seat : IsSeat e index clock at p x ss
    seat =
        subst (λ (z : Publisher). IsSeat e index clock at z x ss)
        (ap (λ (b : PublisherBuffers). get_or table.publishers.items (place_of b) p) (sym which_is) ∙ sym p_is)
        (seat_at e index clock table ss at x p is (omega (arith, here.below, is.places_are)) there)

    mine : buffers_of publishers x q ≡ q
    mine =
        ap (λ (ps : List Publisher). buffers_of ps x q) turned
        ∙ (ap (λ (b : PublisherBuffers). get_or (set table.publishers.items (place_of which) q) (place_of b) q) (sym which_is)
        ∙ set_here table.publishers.items which q q table.two)

pub subscriber_notified : (e : Terms) (index clock : ℕ) (peer : Peer) (packet : Packet) (table : Table) (ss : List Session) (at : ℕ) (x : Seat)
    (t : TheSession) (s : Session) (cause : Option EndCause) (old new : Ledger)
    → IsTable e index clock table ss → x ≡ get_or table.seats.items at x → IsHere e index ss peer packet.dest at x t s
    → publishes s.conclusion.role ≡ false → cause ≡ shutdown_cause packet.body
    → ((d : Seat) → NotesAt (active_in table) table.publishers.items at cause clock (get_or table.seats.items at d) old new)
    → EndsAre e index (arrived_ending e index clock peer packet ss) clock ss (kept_of old) (kept_of new)
subscriber_notified e index clock peer packet table ss at x t s cause old new is there here role cause_is notes =
    let inside : at < length table.seats.items = omega (arith, here.below, is.places_are) in
    let p = buffers_of table.publishers.items x (some_buffers table) in
    let seat = seat_at e index clock table ss at x (some_buffers table) is inside there in
    one_reported e index clock peer packet table ss at x t s cause (active_in table) table.publishers.items (some_buffers table) old new is here
    (cause_is ∙ subscriber_end e clock packet p x.subscriber s role (seat.seated s here.found_is)
    ∙ ap (λ (d : Option ℕ). cause_unless d (packet_end (terms_of e s) s.conclusion.initial packet.body s.past))
    (sym (subscriber_goes_on e clock packet.body p x.subscriber ss s role (seat.seated s here.found_is))))
    (active_stored e index clock table ss at x s t is here.found_is (ap (λ (z : Seat). z.session) (sym there) ∙ here.stored_is) here.session_is.role_is)
    (subscriber_seated e clock packet p x.subscriber s cause role cause_is (seat.seated s here.found_is))
    (subst (λ (z : Seat). NotesAt (active_in table) table.publishers.items at cause clock z old new) (sym there) (notes x))

-- an event of a route that wasn't closed, and one of a closed route
pub event_kept : (e : Terms) (index clock : ℕ) (item : Item) (m : Route) (old new : Kept)
    → m.is_closed ≡ false → clock ≡ clock_after item m
    → EndsInEvent e index clock (heard_as (judged e index clock item (advanced e clock m.sessions) m.keys).verdict item) m.sessions old new
    → KeepsEnds e index item m old new
event_kept e index clock item m old new open_is clock_is h =
    subst (λ (b : Bool). KeepsEndsIf b e index (clock_after item m) (heard_by e index item m) m.sessions old new) (sym open_is)
    (subst
    (λ (n : ℕ). EndsInEvent e index n (heard_as (judged e index n item (advanced e n m.sessions) m.keys).verdict item) m.sessions old new)
    clock_is h)

pub closed_kept : (e : Terms) (index : ℕ) (item : Item) (m : Route) (kept : Kept) → m.is_closed ≡ true → KeepsEnds e index item m kept kept
closed_kept e index item m kept closed =
    subst (λ (b : Bool). KeepsEndsIf b e index (clock_after item m) (heard_by e index item m) m.sessions kept kept) (sym closed)
    (record { ended = λ slot. refl; totals = refl })
