-- A publisher's session that drains.
use Rattle.std.proofs.Common.{◌≡◌, ℕ, ◌+◌, ◌<◌, ◌≤◌, Bool, true, false, ◌&&◌, not, cond, Option, None, Some, List, [], ◌∷◌, length, map, find, get_or, suc}
use Rattle.std.proofs.Common.{Bor, is_some, refl, sym, ap, subst, ◌∙◌, inl, inr, arith}
use Rattle.std.specs.Prelude.{count_by, nat_lt, option_copied, unwrap_or}
use Rattle.std.specs.Option.{option_map}
use Rattle.std.proofs.lemmas.Bool.{and_parts, cases_eq, cases_lt}
use Rattle.std.proofs.lemmas.Bool.Decides.{nat_tests}
use Rattle.std.proofs.lemmas.List.{get_or_default}
use Rattle.srt_types.specs.declared.shared.Mode.{Mode}
use Rattle.srt_types.specs.declared.shared.Mode.TheVariants.{Live, Buffer}
use Rattle.srt_types.specs.declared.shared.Callers.TheVariants.{Libsrt}
use Rattle.srt_types.specs.Terms.{Terms}
use Rattle.srt_packet.specs.View.{body_of}
use Rattle.srt_packet.specs.declared.reading.Kind.{Kind}
use Rattle.srt_packet.specs.declared.reading.Kind.TheVariants as kinds
use Rattle.srt_recvbuf.specs.Receiving.{Arrival, in_order}
use Rattle.srt_recvbuf.specs.Changes.{payload_in}
use Rattle.srt_pub.specs.Calls.{first_of, next_delivery}
use Rattle.srt_pub.specs.Changes.{HoldsOf, HoldsOfAt}
use Rattle.srt_pub.specs.Publishing as publishing
use Rattle.srt_pub.specs.Publishing.{Publishing, has_undelivered}
use Rattle.srt_pub.specs.declared.session.Publisher.{Publisher}
use Rattle.srt_sub.specs.declared.session.Subscriber.{Subscriber}
use Rattle.srt_route.specs.declared.publisher_buffers.PublisherBuffers.{PublisherBuffers}
use Rattle.srt_route.specs.declared.seat.Session.{Session as TheSession}
use Rattle.srt_route.specs.declared.seat.Seat.{Seat}
use Rattle.srt_route.specs.declared.table.Table.{Table}
use Rattle.srt_route.specs.declared.ledger.EndedSession.{EndedSession}
use Rattle.srt_route.specs.declared.ledger.Ledger.{Ledger}
use Rattle.srt_route.specs.Past.{Past, Publishes, Subscribes, has_left, is_shutdown, payload_of, payloads_of}
use Rattle.srt_route.specs.Sessions.{Session, active, drains_open, is_active, is_draining, is_open_in, open_publishers, passed, passed_at, with_end}
use Rattle.srt_route.specs.Sessions.{is_publisher, publishes, renewed}
use Rattle.srt_route.specs.Sessions.{settled, settled_at, terms_of, time_in}
use Rattle.srt_route.specs.Route.{delivered, delivery, drain_end, room_if, settled_by}
use Rattle.srt_route.specs.Route.{delivery_of, drain_if, gives_some, is_some_payload, least_room}
use Rattle.srt_route.specs.Buffers.{IsPast, IsSeated}
use Rattle.srt_route.specs.Parts.{buffers_used, role_of, until_of}
use Rattle.srt_route.specs.PublisherBuffers.{place_of}
use Rattle.srt_route.specs.Tables.{AreWide, has_draining, IsSeat, IsSession, IsStored, IsTable, buffers_of, buffers_by, seat_settled, stored_settled}
use Rattle.srt_route.specs.Ends.{EndsAre, EndsIn, Kept, cause_in, cause_of_slot, kept_of, settled_end, settled_ending}
use Rattle.srt_route.specs.Ledgers.{CountsStay, drained_cause, entry_of}
use Rattle.srt_route.specs.Totals.{SumsGrow, sums_to}
use Rattle.srt_route.specs.inside.Notes.{NotesAt, cause_if}
use Rattle.srt_route.specs.inside.Standby.{active_in}
use Rattle.srt_route.specs.inside.Drains.{TellsOf, drained_in, left_in}
use Rattle.srt_route.specs.inside.Standby.{HasActive, HasNone, IsActiveOf, NonePublishes, is_active_by}
use Rattle.srt_route.proofs.model.Changes.{is_there}
use Rattle.srt_route.proofs.model.FileEnds.{settles, settles_marks}
use Rattle.srt_route.proofs.model.Found.{changed, open_parts, while_open}
use Rattle.srt_route.proofs.model.Lists.{how_many, one_more}
use Rattle.srt_route.proofs.stored.Kept.{Becomes, KeepsBuffers, UpTo, below_seats, seat_at, seat_stays, some_buffers, table_kept}
use Rattle.srt_route.proofs.stored.Parts.{extended_buffers, extended_lasts, extended_records, extended_role, extended_until}
use Rattle.srt_route.proofs.steps.Noting.{end_grows, grow_both, one_summed}
use Rattle.srt_route.proofs.steps.Passing.{publisher_at}
use Rattle.srt_route.proofs.steps.Notified.{none_notified, same_role, slot_notified}
use Rattle.srt_route.proofs.steps.Views.{active_is as active_by_buffers, active_stored}
use Rattle.srt_route.proofs.model.TakeOver.{active_in_slot, active_publishes}
use Rattle.srt_route.proofs.stored.Stored.{alone_apart, draining_among, publishers_among}
use Rattle.srt_route.proofs.steps.Noted.{none_kept}

-- packets that aren't a SHUTDOWN
pub no_shutdown : (kind : Kind) → (kind ≡ kinds.Shutdown → ⊥) → is_shutdown (body_of kind) ≡ false
no_shutdown (kinds.Data number encryption payload) other = refl
no_shutdown (kinds.Handshake info) other = refl
no_shutdown kinds.KeepAlive other = refl
no_shutdown (kinds.Ack number info) other = refl
no_shutdown (kinds.Nak info) other = refl
no_shutdown kinds.CongestionWarning other = refl
no_shutdown kinds.Shutdown other = absurd (other refl)
no_shutdown (kinds.AckAck number) other = refl
no_shutdown (kinds.DropRequest message first last) other = refl
no_shutdown kinds.PeerError other = refl
no_shutdown kinds.UserDefined other = refl

-- what the session of a seat has left: no session, a subscriber's, and a publisher's
pub none_left : (publishers : List Publisher) (x : Seat) → x.session ≡ None → TellsOf publishers x (λ e o. false ≡ left_in e o)
none_left publishers x none e index clock at p ss is =
    by (find (is_open_in at) ss) (subst (λ (o : Option TheSession). IsStored e index o (find (is_open_in at) ss)) none is.session_is)
  where
    by : (f : Option Session) → IsStored e index None f → false ≡ left_in e f
    by None h = refl
    by (Some s) h = absurd h

pub subscriber_left : (publishers : List Publisher) (x : Seat) (t : TheSession) → x.session ≡ Some t → publishes (role_of t.part) ≡ false
    → TellsOf publishers x (λ e o. false ≡ left_in e o)
subscriber_left publishers x t stored role e index clock at p ss is =
    by (find (is_open_in at) ss) refl (subst (λ (o : Option TheSession). IsStored e index o (find (is_open_in at) ss)) stored is.session_is)
  where
    one : (s : Session) → IsSession e index t s → (past : Past) → IsPast e clock (buffers_of publishers x p) x.subscriber s past
        → false ≡ has_left (terms_of e s) past
    one s h (Publishes m) q = absurd (let bad : true ≡ false = sym q.0 ∙ (ap publishes (sym h.role_is) ∙ role) in cc)
    one s h (Subscribes m) q = refl

    by : (f : Option Session) → find (is_open_in at) ss ≡ f → IsStored e index (Some t) f → false ≡ left_in e f
    by None found h = refl
    by (Some s) found h = one s h s.past (is.seated s found).past_is

pub publisher_left : (publishers : List Publisher) (x : Seat) (t : TheSession) (place : ℕ) (b : Publisher) (left : Bool)
    → x.session ≡ Some t → publishes (role_of t.part) ≡ true → place ≡ place_of (buffers_used t.part) → b ≡ get_or publishers place b
    → place < length publishers
    → HoldsOf b (λ terms initial m. left ≡ has_undelivered terms.mode m.receiving)
    → TellsOf publishers x (λ e o. left ≡ left_in e o)
publisher_left publishers x t place b left stored role place_is there inside holds e index clock at p ss is =
    by (find (is_open_in at) ss) refl (subst (λ (o : Option TheSession). IsStored e index o (find (is_open_in at) ss)) stored is.session_is)
  where
    same : buffers_of publishers x p ≡ b
    same = ap (λ (w : PublisherBuffers). get_or publishers (place_of w) p) (ap buffers_by stored)
        ∙ (ap (λ (n : ℕ). get_or publishers n p) (sym place_is) ∙ sym (there ∙ get_or_default publishers place b p inside))

    one : (s : Session) → IsSession e index t s → (past : Past) → IsPast e clock b x.subscriber s past → left ≡ has_left (terms_of e s) past
    one s h (Publishes m) q = holds (terms_of e s).publisher s.conclusion.initial s.opening s.stamp s.conclusion.caller m q.1
    one s h (Subscribes m) q = absurd (let bad : false ≡ true = sym q.0 ∙ (ap publishes (sym h.role_is) ∙ role) in cc)

    by : (f : Option Session) → find (is_open_in at) ss ≡ f → IsStored e index (Some t) f → left ≡ left_in e f
    by None found h = absurd h
    by (Some s) found h =
        one s h s.past (subst (λ (z : Publisher). IsPast e clock z x.subscriber s s.past) same (is.seated s found).past_is)

-- the session that a seat stores
pub stored_at : (e : Terms) (index clock : ℕ) (table : Table) (ss : List Session) (at : ℕ) (x : Seat) (t : TheSession) (s : Session)
    → IsTable e index clock table ss → at < length table.seats.items → x ≡ get_or table.seats.items at x → x.session ≡ Some t
    → find (is_open_in at) ss ≡ Some s → IsSession e index t s
stored_at e index clock table ss at x t s is below there stored found =
    subst (λ (f : Option Session). IsStored e index (Some t) f) found
    (subst (λ (o : Option TheSession). IsStored e index o (find (is_open_in at) ss)) stored
    (seat_at e index clock table ss at x (some_buffers table) is below there).session_is)

pub never_vacant : (e : Terms) (index clock : ℕ) (table : Table) (ss : List Session) (at : ℕ) (x : Seat) (s : Session)
    → IsTable e index clock table ss → at < length table.seats.items → x ≡ get_or table.seats.items at x → x.session ≡ None
    → find (is_open_in at) ss ≡ Some s → ⊥
never_vacant e index clock table ss at x s is below there none found =
    subst (λ (f : Option Session). IsStored e index None f) found
    (subst (λ (o : Option TheSession). IsStored e index o (find (is_open_in at) ss)) none
    (seat_at e index clock table ss at x (some_buffers table) is below there).session_is)

-- whether the publisher of a seat is active
pub active_here : (e : Terms) (index clock : ℕ) (table : Table) (ss : List Session) (at : ℕ) (x : Seat) (t : TheSession) (s : Session)
    (o : Option PublisherBuffers)
    → IsTable e index clock table ss → at < length table.seats.items → x ≡ get_or table.seats.items at x → x.session ≡ Some t
    → find (is_open_in at) ss ≡ Some s → is_publisher s ≡ true
    → (o ≡ None → HasNone table) → ((which : PublisherBuffers) → o ≡ Some which → IsActiveOf table which)
    → is_active_by o t ≡ is_active ss s
active_here e index clock table ss at x t s o is below there stored found publishing none some =
    active_by_buffers e index clock table ss at x s t o is found (ap (λ (z : Seat). z.session) (sym there) ∙ stored)
    (stored_at e index clock table ss at x t s is below there stored found).role_is none some
    ∙ ap (λ (b : Bool). b && is_active ss s) (and_parts s.is_open (publishes s.conclusion.role) publishing).1

-- the tests of draining
pub not_active : (a b c : Bool) (until : ℕ) → b ≡ false → None ≡ drain_if Libsrt (a && b && c) until
not_active a b c until h = sym (ap (λ (x : Bool). drain_if Libsrt (a && x && c) until) h ∙ by a)
  where
    by : (x : Bool) → drain_if Libsrt (x && false && c) until ≡ None
    by true = refl
    by false = refl

pub not_left : (a b c : Bool) (until : ℕ) → c ≡ false → None ≡ drain_if Libsrt (a && b && c) until
not_left a b c until h = sym (ap (λ (x : Bool). drain_if Libsrt (a && b && x) until) h ∙ by (a && b))
  where
    by : (x : Bool) → drain_if Libsrt (x && false) until ≡ None
    by true = refl
    by false = refl

pub drains_now : (a b c : Bool) (now until : ℕ) → a ≡ true → b ≡ true → c ≡ true → now ≡ until → Some now ≡ drain_if Libsrt (a && b && c) until
drains_now a b c now until x y z same =
    ap (λ (n : ℕ). Some n) same
    ∙ sym (ap (λ (k : Bool). drain_if Libsrt (k && b && c) until) x
    ∙ (ap (λ (k : Bool). drain_if Libsrt (k && c) until) y ∙ ap (λ (k : Bool). drain_if Libsrt k until) z))

-- the session of a seat drains and has nothing left
pub draining_ends : (publishers : List Publisher) (x : Seat) (t : TheSession) (left : Bool)
    → x.session ≡ Some t → is_some (until_of t.part) ≡ true → TellsOf publishers x (λ e o. left ≡ left_in e o)
    → TellsOf publishers x (λ e o. not left ≡ drained_in e o)
draining_ends publishers x t left stored drains tells e index clock at p ss is =
    by (find (is_open_in at) ss) (subst (λ (o : Option TheSession). IsStored e index o (find (is_open_in at) ss)) stored is.session_is)
    (tells e index clock at p ss is)
  where
    by : (f : Option Session) → IsStored e index (Some t) f → left ≡ left_in e f → not left ≡ drained_in e f
    by None h k = absurd h
    by (Some s) h k =
        ap not k
        ∙ ap (λ (d : Bool). d && not (has_left (terms_of e s) s.past)) (sym (ap is_some (sym h.drains_is) ∙ drains))

pub staying_ends : (publishers : List Publisher) (x : Seat) (t : TheSession) → x.session ≡ Some t → is_some (until_of t.part) ≡ false
    → TellsOf publishers x (λ e o. false ≡ drained_in e o)
staying_ends publishers x t stored drains e index clock at p ss is =
    by (find (is_open_in at) ss) (subst (λ (o : Option TheSession). IsStored e index o (find (is_open_in at) ss)) stored is.session_is)
  where
    by : (f : Option Session) → IsStored e index (Some t) f → false ≡ drained_in e f
    by None h = absurd h
    by (Some s) h = ap (λ (d : Bool). d && not (has_left (terms_of e s) s.past)) (sym (ap is_some (sym h.drains_is) ∙ drains))

pub vacant_ends : (publishers : List Publisher) (x : Seat) → x.session ≡ None → TellsOf publishers x (λ e o. false ≡ drained_in e o)
vacant_ends publishers x none e index clock at p ss is =
    by (find (is_open_in at) ss) (subst (λ (o : Option TheSession). IsStored e index o (find (is_open_in at) ss)) none is.session_is)
  where
    by : (f : Option Session) → IsStored e index None f → false ≡ drained_in e f
    by None h = refl
    by (Some s) h = absurd h

-- whether the active publisher delivers something
room_counts : (mode : Mode) (terms : publishing.Terms) (time room : ℕ) (least : Option ℕ) (q : Publishing)
    → (mode ≡ Buffer → room ≡ unwrap_or least 0)
    → publishing.deliveries mode terms time (Some room) q ≡ publishing.deliveries mode terms time least q
unfolding publishing.deliveries
room_counts Live terms time room least q same = refl
room_counts Buffer terms time room None q same = ap (λ (n : ℕ). in_order terms.width n q.receiving) (same refl)
room_counts Buffer terms time room (Some n) q same = ap (λ (n : ℕ). in_order terms.width n q.receiving) (same refl)

some_first : (xs : List Arrival) → is_some (payload_in (first_of xs)) ≡ is_some_payload (map payload_of xs)
some_first [] = refl
some_first (a ∷ xs) = refl

pub copied_some : (x : Option (Bor (List ℕ))) → is_some (option_copied x) ≡ is_some x
copied_some None = refl
copied_some (Some p) = refl

pub none_given : (e : Terms) (index clock : ℕ) (table : Table) (ss : List Session)
    → IsTable e index clock table ss → NonePublishes ss → false ≡ gives_some e clock ss
none_given e index clock table ss body none =
    sym (ap (λ (o : Option Session). is_some_payload (delivery_of e clock (least_room e ss) o)) (no_active (active ss) refl))
  where
    no_active : (o : Option Session) → active ss ≡ o → active ss ≡ None
    no_active None was = was
    no_active (Some t) was =
        let there = active_in_slot ss t (alone_apart e.sessions ss body.alone).0 was in
        absurd (let bad : true ≡ false = sym (active_publishes ss t was) ∙ none t.slot t there in cc)

pub gives_is : (e : Terms) (index clock : ℕ) (table : Table) (ss : List Session) (which : PublisherBuffers) (room place : ℕ) (p : Publisher)
    (payload : Option (List ℕ))
    → (h : HasActive ss table which) → IsTable e index clock table ss → (e.mode ≡ Buffer → room ≡ unwrap_or (least_room e ss) 0)
    → place ≡ place_of which → p ≡ get_or table.publishers.items place p
    → HoldsOfAt clock p (λ terms time m. payload ≡ payload_in (next_delivery terms time room m))
    → is_some payload ≡ gives_some e clock ss
gives_is e index clock table ss which room place p payload h body same place_is there holds =
    let s = h.session in
    let terms = (terms_of e s).publisher in
    let buffers = publisher_at e index clock table ss h.at s h.past which place p (record { body = body; here = h.here; uses = h.uses }) place_is there in
    ap is_some (holds terms s.conclusion.initial s.opening s.stamp s.conclusion.caller (time_in s clock) h.past buffers.moment buffers.stands)
    ∙ (some_first (publishing.deliveries terms.mode terms (time_in s clock) (Some room) h.past)
    ∙ (ap (λ (xs : List Arrival). is_some_payload (map payload_of xs))
    (room_counts terms.mode terms (time_in s clock) room (least_room e ss) h.past same)
    ∙ sym (ap (λ (o : Option Session). is_some_payload (delivery_of e clock (least_room e ss) o)) h.active_is
    ∙ ap (λ (q : Past). is_some_payload (payloads_of (terms_of e s) (time_in s clock) (least_room e ss) q)) h.here.past_is)))

-- a seat after the deliveries of an event
pub record Settles (publishers : List Publisher) (mode : Mode) (given : Bool) (clock : ℕ) (x y : Seat) : Type 0 where
  pub ends : Bool
  pub ends_is : TellsOf publishers x (λ e o. ends ≡ drained_in e o)
  pub seat_is : y ≡ seat_settled ends mode given clock x

settled_stored : (e : Terms) (index : ℕ) (ends : Bool) (given : Bool) (clock : ℕ) (t : TheSession) (s : Session) (d : Option ℕ)
    → s.is_open ≡ true → IsSession e index t s → s.drains ≡ d → ends ≡ (is_some d && not (has_left (terms_of e s) s.past))
    → IsStored e index (stored_settled ends e.mode given clock (Some t)) (while_open (settled_at d e given clock s))
settled_stored e index ends given clock t s None opens is drains same =
    subst (λ (b : Bool). IsStored e index (stored_settled b e.mode given clock (Some t)) (while_open s)) (sym same)
    (subst (λ (b : Bool). IsStored e index (stored_settled false e.mode given clock (Some t)) (cond b (Some s) None)) (sym opens)
    (record {
      peer_is = is.peer_is;
      caller_is = is.caller_is;
      id_is = is.id_is;
      role_is = extended_role (renewed e.mode given clock) t.part ∙ is.role_is;
      opened_is = is.opened_is;
      heard_is = is.heard_is;
      drains_is = extended_until (renewed e.mode given clock) t.part ∙ ap (option_map (renewed e.mode given clock)) (is.drains_is ∙ drains) ∙ sym drains;
      file_is = extended_records (renewed e.mode given clock) t.part s.file_ended is.file_is;
      given_up_is = extended_lasts (renewed e.mode given clock) t.part ∙ is.given_up_is;
      answer_is = is.answer_is;
    }))
settled_stored e index ends given clock t s (Some until) opens is drains same =
    subst
    (λ (b : Bool). IsStored e index (stored_settled b e.mode given clock (Some t))
    (while_open (settled_at (Some until) e given clock s)))
    (sym same)
    (subst
    (λ (o : Bool). IsStored e index (stored_settled (not left) e.mode given clock (Some t))
    (cond (o && left) (Some (settled_at (Some until) e given clock s)) None))
    (sym opens) (by left))
  where
    left : Bool
    left = has_left (terms_of e s) s.past

    by : (b : Bool) → IsStored e index (stored_settled (not b) e.mode given clock (Some t)) (cond b (Some (settled_at (Some until) e given clock s)) None)
    by false = tt
    by true = record {
      peer_is = is.peer_is;
      caller_is = is.caller_is;
      id_is = is.id_is;
      role_is = extended_role (renewed e.mode given clock) t.part ∙ is.role_is;
      opened_is = is.opened_is;
      heard_is = is.heard_is;
      drains_is = extended_until (renewed e.mode given clock) t.part ∙ ap (option_map (renewed e.mode given clock)) (is.drains_is ∙ drains);
      file_is = extended_records (renewed e.mode given clock) t.part s.file_ended is.file_is;
      given_up_is = extended_lasts (renewed e.mode given clock) t.part ∙ is.given_up_is;
      answer_is = is.answer_is;
    }

slot_settled : (e : Terms) (index : ℕ) (ends : Bool) (given : Bool) (clock : ℕ) (o : Option TheSession) (f : Option Session)
    → ((s : Session) → f ≡ Some s → s.is_open ≡ true) → IsStored e index o f → ends ≡ drained_in e f
    → IsStored e index (stored_settled ends e.mode given clock o) (changed (settled e given clock) f)
slot_settled e index ends given clock None None opens is same = tt
slot_settled e index ends given clock None (Some s) opens is same = absurd is
slot_settled e index ends given clock (Some t) None opens is same = absurd is
slot_settled e index ends given clock (Some t) (Some s) opens is same =
    settled_stored e index ends given clock t s s.drains (opens s refl) is refl same

settled_seated : (e : Terms) (given : Bool) (clock now : ℕ) (p : Publisher) (x : Subscriber) (s : Session) (d : Option ℕ)
    → IsSeated e now p x s → IsSeated e now p x (settled_at d e given clock s)
settled_seated e given clock now p x s None is = is
settled_seated e given clock now p x s (Some until) is = record { past_is = by s.past is.past_is; opened = is.opened }
  where
    by : (past : Past) → IsPast e now p x s past → IsPast e now p x (settled_at (Some until) e given clock s) past
    by (Publishes m) h = h
    by (Subscribes m) h = h

settled_becomes : (e : Terms) (index clock at : ℕ) (publishers : List Publisher) (p : Publisher) (given : Bool) (x y : Seat) (ss : List Session)
    → IsSeat e index clock at (buffers_of publishers x p) x ss → Settles publishers e.mode given clock x y
    → Becomes (settled e given clock) e index clock at (buffers_of publishers x p) x y ss
settled_becomes e index clock at publishers p given x y ss is h =
    subst (λ (z : Seat). Becomes (settled e given clock) e index clock at (buffers_of publishers x p) x z ss) (sym h.seat_is)
    (record {
      count_is = refl;
      session_is = slot_settled e index h.ends given clock x.session (find (is_open_in at) ss) (λ s found. (is_there at ss s found).0) is.session_is
          (h.ends_is e index clock at p ss is);
      buffers_stay = keeps h.ends x.session;
      wide = is.wide;
      seated = λ s found opens. settled_seated e given clock clock (buffers_of publishers x p) x.subscriber s s.drains (is.seated s found);
    })
  where
    keeps : (ends : Bool) (o : Option TheSession) → KeepsBuffers o (stored_settled ends e.mode given clock o)
    keeps ends None = tt
    keeps true (Some t) = tt
    keeps false (Some t) = extended_buffers (renewed e.mode given clock) t.part

-- all seats
pub all_settled : (e : Terms) (index clock at : ℕ) (given : Bool) (old new : Table) (ss : List Session) → IsTable e index clock old ss
    → UpTo (Settles old.publishers.items old.mode given clock) at old new → length old.seats.items ≤ at
    → IsTable e index clock new (map (settled e given clock) ss)
all_settled e index clock at given old new ss is h all =
    table_kept (settled e given clock) (settles e given clock) (settles_marks e given clock) e index clock clock old new ss is is.early h.alike
    (subst (λ (v : _). AreWide e.buffer v.items) (sym h.publishers_are) is.publishers_wide) h.seats.same_length
    (λ k d p below. subst
    (λ (v : _). Becomes (settled e given clock) e index clock k (buffers_of v.items (get_or old.seats.items k d) p) (get_or old.seats.items k d)
    (get_or new.seats.items k d) ss)
    (sym h.publishers_are)
    (settled_becomes e index clock k old.publishers.items p given (get_or old.seats.items k d) (get_or new.seats.items k d) ss
    (is.seats_are k d p below)
    (subst (λ (m : Mode). Settles old.publishers.items m given clock (get_or old.seats.items k d) (get_or new.seats.items k d)) is.mode_is
    (h.seats.done k d (omega (arith, below, all)) below))))

-- while no session drains
drains_through : (e : Terms) (clock : ℕ) (room : Session → Option ℕ) (fed : List (List ℕ)) (ss : List Session)
    → how_many drains_open (map (λ s. passed e clock (room s) fed s) ss) ≡ how_many drains_open ss
drains_through e clock room fed [] = refl
drains_through e clock room fed (s ∷ ss) = by (drains_open s) refl (drains_through e clock room fed ss)
  where
    f : Session → Session
    f u = passed e clock (room u) fed u

    same : (b : Bool) → s.is_open ≡ b → drains_open (passed_at e b (time_in s clock) (room s) fed s) ≡ drains_open s
    same true h = refl
    same false h = refl

    by : (b : Bool) → drains_open s ≡ b → how_many drains_open (map f ss) ≡ how_many drains_open ss
        → how_many drains_open (f s ∷ map f ss) ≡ how_many drains_open (s ∷ ss)
    by true h rest = one_more drains_open (f s) (map f ss) true (same s.is_open refl ∙ h) ∙ (ap suc rest ∙ sym (one_more drains_open s ss true h))
    by false h rest = one_more drains_open (f s) (map f ss) false (same s.is_open refl ∙ h) ∙ (rest ∙ sym (one_more drains_open s ss false h))

some_session : (x y : Session) → Some x ≡ Some y → x ≡ y
some_session x y h = cc

none_draining : (ss : List Session) (at : ℕ) (s : Session) → how_many drains_open ss ≡ 0 → find (is_open_in at) ss ≡ Some s → is_draining s ≡ false
none_draining [] at s none found = absurd (let bad : None ≡ Some s = found in cc)
none_draining (t ∷ ss) at s none found = by (drains_open t) (is_open_in at t) refl refl (λ fewer later. none_draining ss at s fewer later)
  where
    by : (b c : Bool) → drains_open t ≡ b → is_open_in at t ≡ c
        → (how_many drains_open ss ≡ 0 → find (is_open_in at) ss ≡ Some s → is_draining s ≡ false)
        → is_draining s ≡ false
    by true c h there rest = absurd (let more = one_more drains_open t ss true h in omega (arith, more, none))
    by false true h there rest =
        let it : t ≡ s = some_session t s (rw there at found) in
        let opens : t.is_open ≡ true = (open_parts at t there).0 in
        let not_it : is_draining t ≡ false = rw opens at h in
        ap is_draining (sym it) ∙ not_it
    by false false h there rest = rest (sym (one_more drains_open t ss false h) ∙ none) (rw there at found)

settled_same : (e : Terms) (given : Bool) (clock : ℕ) (s : Session) (d : Option ℕ) → is_some d ≡ false → settled_at d e given clock s ≡ s
settled_same e given clock s None h = refl
settled_same e given clock s (Some until) h = absurd (let bad : true ≡ false = h in cc)

pub still_settled : (e : Terms) (index clock : ℕ) (given : Bool) (table : Table) (ss : List Session) → IsTable e index clock table ss
    → how_many drains_open ss ≡ 0 → IsTable e index clock table (settled_by Libsrt e clock given ss)
still_settled e index clock given table ss is none =
    subst (λ (x : Option Bool). IsTable e index clock table (map (with_end x) later)) (sym no_end)
    (none_kept e index clock table later later_is)
  where
    later : List Session
    later = map (settled e given clock) ss

    later_is : IsTable e index clock table later
    later_is =
        table_kept (settled e given clock) (settles e given clock) (settles_marks e given clock) e index clock clock table table ss is is.early
        (refl, refl, refl, refl, refl, refl) is.publishers_wide refl
        (λ at d p below. seat_stays (settled e given clock) e index clock at (buffers_of table.publishers.items (get_or table.seats.items at d) p)
        (buffers_of table.publishers.items (get_or table.seats.items at d) p) (get_or table.seats.items at d) ss (is.seats_are at d p below)
        (λ s found. settled_same e given clock s s.drains (none_draining ss at s none found)) (λ s found h. h))

    as_many : open_publishers later ≡ open_publishers ss
    as_many = sym (publishers_among e index clock table later later_is) ∙ publishers_among e index clock table ss is

    no_more : (n m : ℕ) → m ≡ n → drain_end n m ≡ None
    no_more n m same = let e : nat_lt m n ≡ false = grind (arith, nat_tests, same) in rw e refl

    no_end : drain_end (open_publishers ss) (open_publishers later) ≡ None
    no_end = no_more (open_publishers ss) (open_publishers later) as_many

pub none_drained : (e : Terms) (index clock : ℕ) (ss : List Session) (kept : Kept)
    → how_many drains_open ss ≡ 0 → EndsAre e index (settled_ending Libsrt e) clock ss kept kept
none_drained e index clock ss kept none =
    none_notified e index (settled_ending Libsrt e) clock ss kept kept
    (λ at s found. ap (λ (b : Bool). drained_cause (b && not (has_left (terms_of e s) s.past))) (none_draining ss at s none found)) (λ at. refl) refl

-- none drains after the deliveries if none did before
pub still_none : (e : Terms) (index clock : ℕ) (table : Table) (ss : List Session) → IsTable e index clock table ss
    → count_by has_draining table.seats.items ≡ 0 → how_many drains_open (delivered e clock ss) ≡ 0
still_none e index clock table ss is none =
    drains_through e clock (λ s. room_if (is_active ss s) (least_room e ss)) (delivery e clock (least_room e ss) ss) ss
    ∙ (sym (draining_among e index clock table ss is) ∙ none)

-- the ends of the slots below `at` are recorded
pub record EndsUpTo (clock at : ℕ) (table : Table) (old new : Ledger) : Type 0 where
  pub done : (e : Terms) (index : ℕ) (ss : List Session) → IsTable e index clock table ss → (k : ℕ) → k < at
      → EndsIn e index ss (settled_ending Libsrt e) clock (find (is_open_in k) ss) (entry_of old k) (entry_of new k)
  pub ahead : (k : ℕ) → at ≤ k → entry_of new k ≡ entry_of old k
  pub counts : CountsStay old new
  pub grow : SumsGrow old.totals new.totals
  pub sums : (e : Terms) (index : ℕ) (ss : List Session) → IsTable e index clock table ss
      → new.totals ≡ sums_to (cause_of_slot (settled_end Libsrt e) ss) (entry_of new) at old.totals

pub none_ended : (clock : ℕ) (table : Table) (ledger : Ledger) → EndsUpTo clock 0 table ledger ledger
none_ended clock table ledger =
    record {
      done = λ e index ss is k lt. absurd (omega (arith, lt));
      ahead = λ k le. refl;
      counts = (refl, refl);
      grow = ([], refl);
      sums = λ e index ss is. refl;
    }

drained_alike : (e : Terms) (index : ℕ) (ends : Bool) (o : Option TheSession) (f : Option Session) → IsStored e index o f → ends ≡ drained_in e f
    → cause_if (drained_cause ends) o ≡ cause_in (settled_end Libsrt e) f
drained_alike e index ends None None is same = refl
drained_alike e index ends None (Some s) is same = absurd is
drained_alike e index ends (Some t) None is same = absurd is
drained_alike e index ends (Some t) (Some s) is same = ap drained_cause same

pub one_ended : (clock at : ℕ) (table now : Table) (old new later : Ledger) (x : Seat) (ends : Bool)
    → EndsUpTo clock at table old new → at < length table.seats.items → x ≡ get_or table.seats.items at x → x ≡ get_or now.seats.items at x
    → TellsOf table.publishers.items x (λ e o. ends ≡ drained_in e o)
    → ((d : Seat) → NotesAt (active_in table) table.publishers.items at (drained_cause ends) clock (get_or now.seats.items at d) new later)
    → EndsUpTo clock (at + 1) table old later
one_ended clock at table now old new later x ends h inside there still tells notes =
    record {
      done = λ e index ss is k lt. one e index ss is k lt;
      ahead = λ k le. it.others k (λ same. omega (arith, le, same)) ∙ h.ahead k (omega (arith, le));
      counts = (it.counts.0 ∙ h.counts.0, it.counts.1 ∙ h.counts.1);
      grow = grow_both old.totals new.totals later.totals h.grow
          (end_grows (cause_if (drained_cause ends) x.session) (entry_of later at) new.totals later.totals it.sums);
      sums = λ e index ss is.
          one_summed (cause_of_slot (settled_end Libsrt e) ss) (cause_if (drained_cause ends) x.session) at old new later (sym (alike e index ss is)) it.others
          (h.sums e index ss is) it.sums;
    }
  where
    it : NotesAt (active_in table) table.publishers.items at (drained_cause ends) clock x new later
    it = subst (λ (z : Seat). NotesAt (active_in table) table.publishers.items at (drained_cause ends) clock z new later) (sym still) (notes x)

    seat_is : (e : Terms) (index : ℕ) (ss : List Session) → IsTable e index clock table ss
        → IsSeat e index clock at (buffers_of table.publishers.items x (some_buffers table)) x ss
    seat_is e index ss is = seat_at e index clock table ss at x (some_buffers table) is inside there

    alike : (e : Terms) (index : ℕ) (ss : List Session) → IsTable e index clock table ss
        → cause_if (drained_cause ends) x.session ≡ cause_of_slot (settled_end Libsrt e) ss at
    alike e index ss is =
        drained_alike e index ends x.session (find (is_open_in at) ss) (seat_is e index ss is).session_is
        (tells e index clock at (some_buffers table) ss (seat_is e index ss is))

    one : (e : Terms) (index : ℕ) (ss : List Session) → IsTable e index clock table ss → (k : ℕ) → k < at + 1
        → EndsIn e index ss (settled_ending Libsrt e) clock (find (is_open_in k) ss) (entry_of old k) (entry_of later k)
    one e index ss is k lt = elim (cases_eq k at) [
      | inl here ↦
          let seat = seat_is e index ss is in
          subst (λ (n : ℕ). EndsIn e index ss (settled_ending Libsrt e) clock (find (is_open_in n) ss) (entry_of old n) (entry_of later n)) (sym here)
          (subst (λ (y : Option EndedSession). EndsIn e index ss (settled_ending Libsrt e) clock (find (is_open_in at) ss) y (entry_of later at))
          (h.ahead at (omega arith))
          (slot_notified e index clock ss (active_in table) table.publishers.items x (settled_ending Libsrt e) (drained_cause ends) clock
          (some_buffers table) x.session (find (is_open_in at) ss) (entry_of new at) (entry_of later at) (λ s. refl) seat.session_is (alike e index ss is)
          (λ t s stored found. active_stored e index clock table ss at x s t is found (ap (λ (z : Seat). z.session) (sym there) ∙ stored)
          (same_role e index x.session (find (is_open_in at) ss) t s seat.session_is stored found))
          (λ s found. seat.seated s found) it.notified))
      | inr apart ↦
          subst (λ (y : Option EndedSession). EndsIn e index ss (settled_ending Libsrt e) clock (find (is_open_in k) ss) (entry_of old k) y)
          (sym (it.others k apart)) (h.done e index ss is k (omega (arith, lt, apart)))
    ]

pub all_ends : (clock at : ℕ) (table : Table) (old new : Ledger) → EndsUpTo clock at table old new → length table.seats.items ≡ at
    → (e : Terms) (index : ℕ) (ss : List Session) → IsTable e index clock table ss
    → EndsAre e index (settled_ending Libsrt e) clock ss (kept_of old) (kept_of new)
all_ends clock at table old new h all e index ss is =
    record {
      entries = λ k. elim (cases_lt k at) [
        | inl low ↦ h.done e index ss is k low
        | inr high ↦ by k (find (is_open_in k) ss) refl high
      ];
      sums = h.sums e index ss is
          ∙ ap (λ (n : ℕ). sums_to (cause_of_slot (settled_end Libsrt e) ss) (entry_of new) n old.totals) (sym all ∙ is.places_are);
    }
  where
    by : (k : ℕ) (f : Option Session) → find (is_open_in k) ss ≡ f → at ≤ k
        → EndsIn e index ss (settled_ending Libsrt e) clock f (entry_of old k) (entry_of new k)
    by k None found high = h.ahead k high
    by k (Some s) found high = absurd (omega (arith, high, all, below_seats e index clock table ss k s is found))
