-- The output at the end of an event.
use Rattle.std.proofs.Common.{◌≡◌, ◌≢◌, ℕ, zero, suc, ◌+◌, ◌-◌, ◌<◌, ◌≤◌, ◌==◌, nat_lt, Bool, true, false, not, cond, Option, None, Some}
use Rattle.std.proofs.Common.{List, [], ◌∷◌, ◌++◌, length, map, find, get_or, inl, inr, refl, sym, ap, subst, ◌∙◌, append_assoc, append-nil}
use Rattle.std.proofs.Common.{arith}
use Rattle.std.specs.Prelude.{◌&&◌}
use Rattle.std.specs.Option.{is_some, option_map}
use Rattle.std.specs.List.{cons_option, flat_map}
use Rattle.std.proofs.lemmas.Bool.{and_parts, cases_eq, eq-eqb, eqb-true, false_from_ne_true}
use Rattle.std.proofs.lemmas.Bool.Decides.{nat_tests}
use Rattle.std.proofs.lemmas.List.{length-map, length-append, map-append, get_or_default}
use Rattle.srt_types.specs.declared.shared.Mode.{Mode}
use Rattle.srt_types.specs.declared.shared.Mode.TheVariants.{Live, Buffer}
use Rattle.srt_types.specs.declared.shared.Peer.{Peer}
use Rattle.srt_types.specs.Terms.{Terms}
use Rattle.srt_types.specs.Items.{Datagram}
use Rattle.srt_packet.specs.declared.encoded.EncodedPacket.{EncodedPacket}
use Rattle.srt_packet.specs.Encoded.{bytes_of}
use Rattle.srt_sendbuf.specs.Sending.{Sending, Mark, sent as marked_sent, all_lost}
use Rattle.srt_pub.specs.Publishing as publishing
use Rattle.srt_pub.specs.Publishing.{Publishing}
use Rattle.srt_pub.specs.Says as publisher_text
use Rattle.srt_pub.specs.Calls.{texts}
use Rattle.srt_pub.specs.declared.session.Publisher.{Publisher}
use Rattle.srt_sub.specs.Subscribing as subscribing
use Rattle.srt_sub.specs.Says as subscriber_text
use Rattle.srt_sub.specs.Stands as subscribers
use Rattle.srt_sub.specs.Emission.{Emitting, IsNext}
use Rattle.srt_sub.specs.Held.{held, released}
use Rattle.srt_sub.proofs.Bounds.{stays_below_bounds}
use Rattle.srt_session_keys.specs.Subscriber.{Subscriber as Keys}
use Rattle.srt_route.specs.EncryptedOutput.{KeyedOutput, has_few, keyed_text, outputs_with, payloads_confirmed, reported_if}
use Rattle.srt_route.specs.Past.{outputs_of, reported_under}
use Rattle.srt_route.specs.Route.{keyed_by, keyed_packets_at, served_at}
use Rattle.srt_route.specs.inside.Files.{texts_under}
use Rattle.srt_sub.proofs.Freshness.{none_given_up}
use Rattle.srt_sub.proofs.Sound.{begins}
use Rattle.srt_sub.specs.declared.session.Subscriber.{Subscriber}
use Rattle.srt_route.specs.declared.publisher_buffers.PublisherBuffers.{PublisherBuffers}
use Rattle.srt_route.specs.declared.replies.Reply.{Reply}
use Rattle.srt_route.specs.declared.seat.Session.{Session as TheSession}
use Rattle.srt_route.specs.declared.seat.Seat.{Seat}
use Rattle.srt_route.specs.declared.table.Table.{Table}
use Rattle.srt_route.specs.Written.{written}
use Rattle.srt_route.specs.Past.{Past, Publishes, Subscribes, Agreed, ToPublisher, ToSubscriber, reports_of, reported_past}
use Rattle.srt_route.specs.Sessions.{Session, is_draining, is_open_in, is_publisher, is_recent, is_subscriber, publishes, speaks, terms_of, time_in}
use Rattle.srt_route.specs.Route.{Reply as Answer, sent, said_by, packets_at, packets_where}
use Rattle.srt_route.specs.Buffers.{IsPast, IsSeated, datagrams_to}
use Rattle.srt_route.specs.Parts.{buffers_used, role_of, until_of}
use Rattle.srt_route.specs.Tables.{IsStored, IsSeat, IsTable, IsPublishing, Uses, buffers_by, used_buffers, has_speaker}
use Rattle.srt_route.specs.Seats.{session_passes}
use Rattle.srt_route.specs.Tables.{is_heard_recently}
use Rattle.srt_route.specs.inside.Delivery.{PublisherStands, IsPublisherOf, changed, amid}
use Rattle.srt_route.specs.inside.Delivery.{IsPublisherAt, after_publisher, publisher_reported, reported_in, after_publisher_in}
use Rattle.srt_route.specs.inside.Delivery.{packets_of, packets_in, after_subscriber, subscriber_reported}
use Rattle.srt_route.specs.inside.Reports.{AreSaid}
use Rattle.srt_route.specs.PublisherBuffers.{place_of}
use Rattle.srt_route.proofs.model.Counts.{subscriber_few}
use Rattle.srt_route.proofs.model.Changes.{is_there, find_changed}
use Rattle.srt_route.proofs.stored.Kept.{Becomes, some_buffers, seat_at}
use Rattle.srt_route.proofs.steps.Feeding.{IsFed, Changes, seat_becomes, seated_with, changed_is, wide_by, publisher_subscribes}
use Rattle.srt_route.proofs.steps.Feeding.{subscriber_subscribes, subscribes, Stays}
use Rattle.srt_route.proofs.stored.Stored.{same_read}
use Rattle.srt_route.proofs.steps.Passing.{IsTurned, Publishing_is, publisher_at, same_everywhere, unchanged, the_one, slot_is, slot_is_not}
use Rattle.srt_route.proofs.steps.Passing.{amid_here, amid_elsewhere, gone_on, compose_all, inside}
use Rattle.srt_route.proofs.steps.Delivered.{from_places, has_past, past_publishes}

pub nothing_said : (waiting : List Reply) (places : ℕ) → AreSaid waiting waiting places places []
nothing_said waiting places = record { kept = omega arith; waiting = λ room. sym (append-nil (map written waiting)) }

pub same_said : {a b : List Reply} {p q : ℕ} {xs ys : List Datagram} → xs ≡ ys → AreSaid a b p q xs → AreSaid a b p q ys
same_said {a} {b} {p} {q} e h = subst (λ (ds : List Datagram). AreSaid a b p q ds) e h

pub said_then : (a b c : List Reply) (p q r : ℕ) (xs ys : List Datagram) → AreSaid a b p q xs → AreSaid b c q r ys → AreSaid a c p r (xs ++ ys)
said_then a b c p q r xs ys h k =
    record {
      kept = omega (arith, h.kept, k.kept);
      waiting = λ room.
          let all = length-append xs ys in
          let first : map written b ≡ map written a ++ xs = h.waiting (omega (arith, room, all)) in
          let many : length b ≡ length a + length xs = sym (length-map b written)
          ∙ (ap length first ∙ (length-append (map written a) xs ∙ ap (λ (n : ℕ). n + length xs) (length-map a written))) in
          k.waiting (omega (arith, room, all, many, h.kept)) ∙ (ap (λ (ds : List Datagram). ds ++ ys) first ∙ append_assoc (map written a) xs ys);
    }

to_append : (peer : Peer) (xs ys : List (List ℕ)) → datagrams_to peer (xs ++ ys) ≡ datagrams_to peer xs ++ datagrams_to peer ys
to_append peer xs ys = map-append (λ bytes. record { peer = peer; bytes = bytes }) xs ys

-- three calls one after another
pub three_said : (a b c d : List Reply) (p q r s : ℕ) (peer : Peer) (xs ys zs : List EncodedPacket) (all : List (List ℕ))
    → texts (xs ++ ys ++ zs) ≡ all → AreSaid a b p q (datagrams_to peer (texts xs)) → AreSaid b c q r (datagrams_to peer (texts ys))
    → AreSaid c d r s (datagrams_to peer (texts zs))
    → AreSaid a d p s (datagrams_to peer all)
three_said a b c d p q r s peer xs ys zs all is h k l =
    subst (λ (ds : List Datagram). AreSaid a d p s ds)
    (ap (λ (ds : List Datagram). datagrams_to peer (texts xs) ++ ds)
    (sym (to_append peer (texts ys) (texts zs)) ∙ ap (datagrams_to peer) (sym (map-append bytes_of ys zs)))
    ∙ (sym (to_append peer (texts xs) (texts (ys ++ zs)))
    ∙ (ap (datagrams_to peer) (sym (map-append bytes_of xs (ys ++ zs)))
    ∙ ap (datagrams_to peer) (ap texts (sym (append_assoc xs ys zs)) ∙ is))))
    (said_then a b d p q s (datagrams_to peer (texts xs)) (datagrams_to peer (texts ys) ++ datagrams_to peer (texts zs)) h
    (said_then b c d q r s (datagrams_to peer (texts ys)) (datagrams_to peer (texts zs)) k l))

-- packets of a range of slots
abbrev pub said_from : Terms → (clock : ℕ) → (Session → Bool) → List Session → (from count : ℕ) → List Datagram
said_from e clock test ss from count = map sent (flat_map (λ s. packets_at e (test s) clock s) (from_places ss from count))

said_more : (e : Terms) (clock : ℕ) (test : Session → Bool) (ss : List Session) (from count : ℕ) (s : Session)
    → find (is_open_in from) ss ≡ Some s
    → said_from e clock test ss from (suc count)
    ≡ map sent (packets_at e (test s) clock s) ++ said_from e clock test ss (from + 1) count
said_more e clock test ss from count s is =
    ap (λ (o : Option Session). map sent (flat_map (λ s. packets_at e (test s) clock s) (cons_option o (from_places ss (from + 1) count)))) is
    ∙ map-append sent (packets_at e (test s) clock s) (flat_map (λ s. packets_at e (test s) clock s) (from_places ss (from + 1) count))

said_vacant : (e : Terms) (clock : ℕ) (test : Session → Bool) (ss : List Session) (from count : ℕ)
    → find (is_open_in from) ss ≡ None → said_from e clock test ss from (suc count) ≡ said_from e clock test ss (from + 1) count
said_vacant e clock test ss from count is =
    ap (λ (o : Option Session). map sent (flat_map (λ s. packets_at e (test s) clock s) (cons_option o (from_places ss (from + 1) count)))) is

-- the publisher's packets
publisher_bytes : (clock : ℕ) (s : Session) (rs : List publishing.Report)
    → datagrams_to s.peer (map (publisher_text.says s.conclusion.caller s.conclusion.initial (time_in s clock)) rs)
    ≡ map sent (map (said_by (time_in s clock) s) (map ToPublisher rs))
publisher_bytes clock s [] = refl
publisher_bytes clock s (r ∷ rs) =
    ap
    (λ (ds : List Datagram).
    record { peer = s.peer; bytes = publisher_text.says s.conclusion.caller s.conclusion.initial (time_in s clock) r } ∷ ds)
    (publisher_bytes clock s rs)

pub publisher_said : (e : Terms) (clock : ℕ) (s : Session) (q : Publishing) → s.past ≡ Publishes q
    → datagrams_to s.peer
    (map (publisher_text.says s.conclusion.caller s.conclusion.initial (time_in s clock))
    (publishing.reports (terms_of e s).publisher (time_in s clock) q))
    ≡ map sent (packets_at e true clock s)
publisher_said e clock s q past =
    publisher_bytes clock s (publishing.reports (terms_of e s).publisher (time_in s clock) q)
    ∙ ap (λ (p : Past). map sent (map (said_by (time_in s clock) s) (reports_of (terms_of e s) (time_in s clock) (is_recent s clock) p))) (sym past)

-- a publisher's seat has a session with its peer
seat_session : (e : Terms) (index clock : ℕ) (table : Table) (ss : List Session) (at : ℕ) (x : Seat) (s : Session)
    → IsTable e index clock table ss → x ≡ get_or table.seats.items at x → find (is_open_in at) ss ≡ Some s
    → IsStored e index x.session (Some s)
seat_session e index clock table ss at x s body there found =
    let below : at < length table.seats.items = omega (arith, inside e index clock table ss body at s found, body.places_are) in
    subst (λ (o : Option Session). IsStored e index x.session o) found (seat_at e index clock table ss at x (some_buffers table) body below there).session_is

pub some_same : {A : Type 0} (a b : A) → Some a ≡ Some b → a ≡ b
some_same a b e = cc

-- the publisher of a slot has sent its packets
in_slot : (e : Terms) (clock at : ℕ) (t : Session) (mine : Bool)
    → t.slot == at ≡ mine → after_publisher_in e clock at t ≡ reported_in (is_draining t) (terms_of e t) (time_in t clock) mine t.past
in_slot e clock at t mine test = ap (λ (b : Bool). reported_in (is_draining t) (terms_of e t) (time_in t clock) b t.past) test

pub publisher_gone : (e : Terms) (index clock : ℕ) (table later : Table) (ss : List Session) (at : ℕ) (s : Session) (q : Publishing)
    (which : PublisherBuffers) (p : Publisher)
    → IsPublisherOf e index clock table ss at s q which → is_draining s ≡ false → IsTurned table later which p
    → PublisherStands e p s
    (publishing.reported (terms_of e s).publisher (time_in s clock) q)
    → IsTable e index clock later (map (changed (after_publisher_in e clock at)) ss)
publisher_gone e index clock table later ss at s q which p its speaking turned stands =
    subst (λ (ts : List Session). IsTable e index clock later ts)
    (same_everywhere (amid e clock at r []) (after_publisher_in e clock at) e.sessions ss its.body.alone by)
    (gone_on e index clock table later ss at s q r which p its turned stands)
  where
    r : Publishing
    r = publishing.reported (terms_of e s).publisher (time_in s clock) q

    by : (k : ℕ) (t : Session) → find (is_open_in k) ss ≡ Some t
        → amid e clock at (publishing.reported (terms_of e s).publisher (time_in s clock) q) [] t ≡ after_publisher_in e clock at t
    by k t is = elim (cases_eq k at) [
      | inl place ↦
          let one : t ≡ s = the_one ss at k s t its.here.found is place in
          let mine : t.past ≡ Publishes q = ap (λ (u : Session). u.past) one ∙ its.here.past_is in
          let test = slot_is ss at k t is place in
          amid_here e clock at r q [] t test mine
          ∙ (ap (λ (u : Session). Publishes (publishing.reported (terms_of e u).publisher (time_in u clock) q)) (sym one)
          ∙ sym (in_slot e clock at t true test
          ∙ (ap (publisher_reported (is_draining t) (terms_of e t) (time_in t clock)) mine
          ∙ ap (λ (d : Bool). publisher_reported d (terms_of e t) (time_in t clock) (Publishes q)) (ap is_draining one ∙ speaking))))
      | inr apart ↦ let test = slot_is_not ss at k t is apart in amid_elsewhere e clock at r t test ∙ sym (in_slot e clock at t false test)
    ]

-- a publisher that sends nothing drains
quiet_drains : (publishing draining : Bool) → publishing ≡ true → (publishing && not draining) ≡ false → draining ≡ true
quiet_drains true true p h = refl
quiet_drains true false p h = absurd (let bad : true ≡ false = h in cc)
quiet_drains false draining p h = absurd (let bad : false ≡ true = p in cc)

goes_on : (draining : Bool) → not draining ≡ true → draining ≡ false
goes_on true h = absurd (let bad : false ≡ true = h in cc)
goes_on false h = refl

pub no_publisher_gone : (e : Terms) (index clock : ℕ) (table : Table) (ss : List Session) (at : ℕ) → IsTable e index clock table ss
    → ((s : Session) → find (is_open_in at) ss ≡ Some s → speaks s ≡ false)
    → map (changed (after_publisher_in e clock at)) ss ≡ ss
no_publisher_gone e index clock table ss at body none =
    same_everywhere (after_publisher_in e clock at) (λ t. t.past) e.sessions ss body.alone by ∙ unchanged ss
  where
    by : (k : ℕ) (t : Session) → find (is_open_in k) ss ≡ Some t → after_publisher_in e clock at t ≡ t.past
    by k t is = elim (cases_eq k at) [
      | inl place ↦ in_slot e clock at t true (slot_is ss at k t is place)
          ∙ subscribed k t is (none t (subst (λ (n : ℕ). find (is_open_in n) ss ≡ Some t) place is)) t.past refl
      | inr apart ↦ in_slot e clock at t false (slot_is_not ss at k t is apart)
    ]
      where
        subscribed : (k : ℕ) (t : Session) → find (is_open_in k) ss ≡ Some t → speaks t ≡ false → (past : Past) → t.past ≡ past
            → publisher_reported (is_draining t) (terms_of e t) (time_in t clock) t.past ≡ t.past
        subscribed k t is none_is (Publishes m) past =
            let draining = quiet_drains (is_publisher t) (is_draining t) (past_publishes e index clock table ss k t m body is past).publishes none_is in
            ap (publisher_reported (is_draining t) (terms_of e t) (time_in t clock)) past
            ∙ (ap (λ (d : Bool). publisher_reported d (terms_of e t) (time_in t clock) (Publishes m)) draining ∙ sym past)
        subscribed k t is none_is (Subscribes m) past = ap (publisher_reported (is_draining t) (terms_of e t) (time_in t clock)) past ∙ sym past

-- the packets of a slot's publisher, and of a slot without one
pub publisher_packets : (e : Terms) (clock : ℕ) (ss : List Session) (at : ℕ) (s : Session) (q : Publishing) → IsPublisherAt ss at s q → is_draining s ≡ false
    → datagrams_to s.peer
    (map (publisher_text.says s.conclusion.caller s.conclusion.initial (time_in s clock))
    (publishing.reports (terms_of e s).publisher (time_in s clock) q))
    ≡ map sent (packets_in e clock speaks at ss)
publisher_packets e clock ss at s q here speaking =
    publisher_said e clock s q here.past_is
    ∙ sym (ap (λ (o : Option Session). map sent (packets_of e clock speaks o)) here.found
    ∙ ap (λ (b : Bool). map sent (packets_at e b clock s))
    (ap (λ (b : Bool). b && not (is_draining s)) here.publishes ∙ ap not speaking))

pub publisher_queued : (e : Terms) (clock : ℕ) (ss : List Session) (at : ℕ) (s : Session) (q : Publishing) (peer : Peer)
    (before later : List Reply) (places more : ℕ)
    → IsPublisherAt ss at s q → is_draining s ≡ false → peer ≡ s.peer
    → AreSaid before later places more
    (datagrams_to peer
    (map (publisher_text.says s.conclusion.caller s.conclusion.initial (time_in s clock))
    (publishing.reports (terms_of e s).publisher (time_in s clock) q)))
    → AreSaid before later places more (map sent (packets_in e clock speaks at ss))
publisher_queued e clock ss at s q peer before later places more here speaking same said =
    subst (λ (ds : List Datagram). AreSaid before later places more ds) (publisher_packets e clock ss at s q here speaking)
    (subst
    (λ (x : Peer). AreSaid before later places more
    (datagrams_to x
    (map (publisher_text.says s.conclusion.caller s.conclusion.initial (time_in s clock))
    (publishing.reports (terms_of e s).publisher (time_in s clock) q))))
    same said)

pub no_publisher_says : (e : Terms) (clock : ℕ) (ss : List Session) (at : ℕ)
    → ((s : Session) → find (is_open_in at) ss ≡ Some s → speaks s ≡ false) → map sent (packets_in e clock speaks at ss) ≡ []
no_publisher_says e clock ss at none = by (find (is_open_in at) ss) refl
  where
    by : (o : Option Session) → find (is_open_in at) ss ≡ o → map sent (packets_of e clock speaks o) ≡ []
    by None is = refl
    by (Some s) is = ap (λ (b : Bool). map sent (packets_at e b clock s)) (none s is)

-- the packets of a seat, by its session
pub seat_without : (e : Terms) (index clock : ℕ) (table : Table) (ss : List Session) (at : ℕ) (x : Seat) → IsTable e index clock table ss
    → x ≡ get_or table.seats.items at x → has_speaker x ≡ false → (s : Session) → find (is_open_in at) ss ≡ Some s
    → speaks s ≡ false
seat_without e index clock table ss at x body there none s found = by x.session (seat_session e index clock table ss at x s body there found) none
  where
    by : (o : Option TheSession) → IsStored e index o (Some s) → session_passes (λ t. publishes (role_of t.part) && not (is_some (until_of t.part))) o ≡ false
        → speaks s ≡ false
    by None is h = absurd is
    by (Some t) is h =
        ap (λ (b : Bool). b && publishes s.conclusion.role && not (is_draining s)) (is_there at ss s found).0
        ∙ (ap (λ (b : Bool). b && not (is_draining s)) (ap publishes (sym is.role_is))
        ∙ (ap (λ (d : Option ℕ). publishes (role_of t.part) && not (is_some d)) (sym is.drains_is) ∙ h))

pub seat_with : (e : Terms) (index clock : ℕ) (table : Table) (ss : List Session) (at : ℕ) (x : Seat) (t : TheSession)
    → IsTable e index clock table ss → at < length table.seats.items → x ≡ get_or table.seats.items at x → has_speaker x ≡ true
    → x.session ≡ Some t
    → (s : Session) × IsPublishing ss at s × (t.peer ≡ s.peer) × Uses table at (buffers_used t.part) × (is_draining s ≡ false)
seat_with e index clock table ss at x t body below there some stored =
    by x.session stored (find (is_open_in at) ss) refl (seat_at e index clock table ss at x (some_buffers table) body below there).session_is some
  where
    by : (o : Option TheSession) → o ≡ Some t → (f : Option Session) → find (is_open_in at) ss ≡ f → IsStored e index o f
        → session_passes (λ u. publishes (role_of u.part) && not (is_some (until_of u.part))) o ≡ true
        → (s : Session) × IsPublishing ss at s × (t.peer ≡ s.peer) × Uses table at (buffers_used t.part) × (is_draining s ≡ false)
    by None same f found is h = absurd (let bad : None ≡ Some t = same in cc)
    by (Some u) same None found is h = absurd is
    by (Some u) same (Some s) found is h =
        let one : u ≡ t = some_same u t same in
        let parts = and_parts (publishes (role_of u.part)) (not (is_some (until_of u.part))) h in
        let role : publishes s.conclusion.role ≡ true = ap publishes (sym is.role_is) ∙ parts.0 in (
          s,
          record { found = found; publishes = ap (λ (b : Bool). b && publishes s.conclusion.role) (is_there at ss s found).0 ∙ role },
          ap (λ (v : TheSession). v.peer) (sym one) ∙ is.peer_is,
          λ d. sym (ap buffers_by stored) ∙ ap used_buffers (there ∙ get_or_default table.seats.items at x d below),
          ap (λ (d : Option ℕ). is_some d) (sym is.drains_is) ∙ goes_on (is_some (until_of u.part)) parts.1,
        )

-- the publisher whose session is stored in a seat, with its buffers
pub record IsReporting (e : Terms) (index clock : ℕ) (table : Table) (ss : List Session) (at : ℕ) (t : TheSession) (p : Publisher) : Type 0 where
  pub session : Session
  pub past : Publishing
  pub its : IsPublisherOf e index clock table ss at session past (buffers_used t.part)
  pub speaking : is_draining session ≡ false
  pub peer_is : t.peer ≡ session.peer
  pub buffers : Publishing_is e clock p session past

pub reporting_at : (e : Terms) (index clock : ℕ) (table : Table) (ss : List Session) (at place : ℕ) (x y : Seat) (t : TheSession)
    (p : Publisher)
    → IsTable e index clock table ss → at < length table.seats.items → x ≡ get_or table.seats.items at x → y ≡ get_or table.seats.items at y
    → has_speaker x ≡ true → y.session ≡ Some t → place ≡ place_of (buffers_used t.part) → p ≡ get_or table.publishers.items place p
    → IsReporting e index clock table ss at t p
reporting_at e index clock table ss at place x y t p body below first again some stored place_is there =
    let same = same_read table.seats.items at y x below again first in
    let it = seat_with e index clock table ss at y t body below again (ap has_speaker same ∙ some) stored in
    let past = has_past e index clock table ss at it.0 body it.1 in
    let its : IsPublisherOf e index clock table ss at it.0 past.0 (buffers_used t.part) = record { body = body; here = past.1; uses = it.3 } in
    record {
      session = it.0;
      past = past.0;
      its = its;
      speaking = it.4;
      peer_is = it.2;
      buffers = publisher_at e index clock table ss at it.0 past.0 (buffers_used t.part) place p its place_is there;
    }

pub has_none : (x y : Seat) → y ≡ x → y.session ≡ None → has_speaker x ≡ true → ⊥
has_none x y same none some =
    let bad : false ≡ true =
    sym (ap (session_passes (λ (t : TheSession). publishes (role_of t.part) && not (is_some (until_of t.part)))) none) ∙ (ap has_speaker same ∙ some) in cc

-- the publishers of the slots below `at` have sent their packets
abbrev pub below_notified : Terms → (clock at : ℕ) → Session → Past
below_notified e clock at s = reported_in (is_draining s) (terms_of e s) (time_in s clock) (nat_lt s.slot at) s.past

notified_once : (draining : Bool) (terms : Agreed) (time slot at : ℕ) (past : Past)
    → reported_in draining terms time (slot == at) (reported_in draining terms time (nat_lt slot at) past)
    ≡ reported_in draining terms time (nat_lt slot (at + 1)) past
notified_once draining terms time slot at past = elim (cases_eq slot at) [
  | inl same ↦
      let here : slot == at ≡ true = eq-eqb slot at same in
      let first : nat_lt slot at ≡ false = grind (arith, nat_tests, same) in
      let later : nat_lt slot (at + 1) ≡ true = grind (arith, nat_tests, same) in
      ap (λ (b : Bool). reported_in draining terms time b (reported_in draining terms time (nat_lt slot at) past)) here
      ∙ (ap (λ (b : Bool). publisher_reported draining terms time (reported_in draining terms time b past)) first
      ∙ sym (ap (λ (b : Bool). reported_in draining terms time b past) later))
  | inr apart ↦
      let here : slot == at ≡ false = false_from_ne_true (slot == at) (λ h. absurd (apart (eqb-true slot at h))) in
      let same : nat_lt slot at ≡ nat_lt slot (at + 1) = still slot at (nat_lt slot at) (nat_lt slot (at + 1)) refl refl apart in
      ap (λ (b : Bool). reported_in draining terms time b (reported_in draining terms time (nat_lt slot at) past)) here
      ∙ ap (λ (b : Bool). reported_in draining terms time b past) same
]
  where
    still : (slot at : ℕ) (a b : Bool) → nat_lt slot at ≡ a → nat_lt slot (at + 1) ≡ b → slot ≢ at → a ≡ b
    still slot at true true h k apart = refl
    still slot at false false h k apart = refl
    still slot at true false h k apart = absurd (let l : slot < at = grind (arith, nat_tests, h) in
        let m : nat_lt slot (at + 1) ≡ true = grind (arith, nat_tests, l) in
        let bad : true ≡ false = sym m ∙ k in
        cc)
    still slot at false true h k apart = absurd (let l : slot < at + 1 = grind (arith, nat_tests, k) in
        let n : slot < at = omega (arith, l, apart) in
        let m : nat_lt slot at ≡ true = grind (arith, nat_tests, n) in
        let bad : true ≡ false = sym m ∙ h in
        cc)

pub notified_below : (e : Terms) (clock at : ℕ) (ss : List Session)
    → map (changed (after_publisher_in e clock at)) (map (changed (below_notified e clock at)) ss)
    ≡ map (changed (below_notified e clock (at + 1))) ss
notified_below e clock at ss =
    compose_all (after_publisher_in e clock at) (below_notified e clock at) (below_notified e clock (at + 1))
    (λ s. notified_once (is_draining s) (terms_of e s) (time_in s clock) s.slot at s.past) ss

pub none_below : (e : Terms) (clock : ℕ) (ss : List Session) → map (changed (below_notified e clock 0)) ss ≡ ss
none_below e clock ss = same_all ss ∙ unchanged ss
  where
    same_all : (ts : List Session) → map (changed (below_notified e clock 0)) ts ≡ map (changed (λ s. s.past)) ts
    same_all [] = refl
    same_all (t ∷ ts) =
        let test : nat_lt t.slot 0 ≡ false = grind (arith, nat_tests) in
        ap (λ (b : Bool). changed (λ s. reported_in (is_draining t) (terms_of e t) (time_in t clock) b t.past) t ∷ map (changed (below_notified e clock 0)) ts)
        test
        ∙ ap (λ (us : List Session). changed (λ s. s.past) t ∷ us) (same_all ts)

pub all_below : (e : Terms) (index clock at : ℕ) (table : Table) (ss : List Session) → IsTable e index clock table ss → e.sessions ≤ at
    → map (changed (below_notified e clock at)) ss ≡ map (changed (after_publisher e clock)) ss
all_below e index clock at table ss body all =
    same_everywhere (below_notified e clock at) (after_publisher e clock) e.sessions ss body.alone (λ k t is.
    let low : t.slot < at = omega (arith, all, inside e index clock table ss body k t is, (is_there k ss t is).1) in
    let test : nat_lt t.slot at ≡ true = grind (arith, nat_tests, low) in
    ap (λ (b : Bool). reported_in (is_draining t) (terms_of e t) (time_in t clock) b t.past) test)

-- the packets of a slot that hasn't sent any yet are those of before
pub same_in_slot : (e : Terms) (clock at : ℕ) (ss : List Session)
    → packets_in e clock speaks at (map (changed (below_notified e clock at)) ss) ≡ packets_in e clock speaks at ss
same_in_slot e clock at ss = ap (packets_of e clock speaks) (find_changed (below_notified e clock at) at ss) ∙ by (find (is_open_in at) ss) refl
  where
    by : (o : Option Session) → find (is_open_in at) ss ≡ o
        → packets_of e clock speaks (option_map (changed (below_notified e clock at)) o) ≡ packets_of e clock speaks o
    by None is = refl
    by (Some t) is =
        let there = is_there at ss t is in
        let test : nat_lt t.slot at ≡ false = let same = there.1 in grind (arith, nat_tests, same) in
        ap (λ (u : Session). packets_at e (speaks u) clock u)
        (changed_is t (below_notified e clock at) t.past there.0
        (ap (λ (b : Bool). reported_in (is_draining t) (terms_of e t) (time_in t clock) b t.past) test))

-- sending only adds marks of numbers, so nothing more is too old
marks_alone : (ns : List ℕ) (s : Sending) → (marks : List Mark) × (subscribing.sent_each ns s ≡ record s { marks = marks })
marks_alone [] s = (s.marks, refl)
marks_alone (n ∷ ns) s = let later = marks_alone ns (marked_sent n s) in (later.0, later.1)

presumed_marks : (b : Bool) (m : subscribing.Subscribing)
    → (marks : List Mark)
    × ((cond b (record m { sending = all_lost m.sending; notes = subscribing.Presumed ∷ m.notes }) m).sending ≡ record m.sending { marks = marks })
presumed_marks true m = ((all_lost m.sending).marks, refl)
presumed_marks false m = (m.sending.marks, refl)

reported_marks : (terms : subscribing.Terms) (time : ℕ) (recent : Bool) (m : subscribing.Subscribing)
    → (marks : List Mark) × ((subscribing.reported terms time recent m).sending ≡ record m.sending { marks = marks })
reported_marks terms time recent m =
    let t = subscribing.renewed terms time m in
    let n = subscribing.prepared terms time recent m in
    let count = subscribing.resends terms.resend_percent subscribing.most n.notes in
    let sent_numbers = subscribing.again_of count n.sending
    ++ subscribing.new_of subscribing.most count (subscribing.flow_window terms.window n.notes) n.sending in
    let all = marks_alone sent_numbers n.sending in
    let before = presumed_marks (subscribing.resend_due terms time recent t) t in
    (all.0, all.1 ∙ ap (λ (s : Sending). record s { marks = all.0 }) before.1)

fresh_marks : (mode : Mode) (terms : subscribing.Terms) (time : ℕ) (s : Sending) (marks : List Mark)
    → subscribing.expired_in mode terms time s ≡ s
    → subscribing.expired_in mode terms time (record s { marks = marks }) ≡ record s { marks = marks }
fresh_marks Live terms time s marks e1 = ap (λ (x : Sending). record s { expired = x.expired; marks = marks }) e1
fresh_marks Buffer terms time s marks e1 = refl

pub reported_fresh : (terms : subscribing.Terms) (time : ℕ) (recent : Bool) (m : subscribing.Subscribing)
    → subscribing.expired terms time m ≡ m
    → subscribing.expired terms time (subscribing.reported terms time recent m) ≡ subscribing.reported terms time recent m
reported_fresh terms time recent m e1 =
    let is = reported_marks terms time recent m in
    let fresh = fresh_marks terms.mode terms time m.sending is.0 (ap (λ (x : subscribing.Subscribing). x.sending) e1) in
    none_given_up (subscribing.reported terms time recent m) (subscribing.expired_in terms.mode terms time (subscribing.reported terms time recent m).sending)
    (ap (subscribing.expired_in terms.mode terms time) is.1 ∙ (fresh ∙ sym is.1))

-- with keys of its own a session is held meanwhile, and that makes nothing too old
keyed_fresh : (few : Bool) (keys : Keys) (terms : subscribing.Terms) (time : ℕ) (recent : Bool) (m : subscribing.Subscribing)
    → subscribing.expired terms time m ≡ m
    → subscribing.expired terms time (reported_if few keys terms time recent m) ≡ reported_if few keys terms time recent m
keyed_fresh true keys terms time recent m e1 =
    let n = held terms (payloads_confirmed keys) m in
    let w = subscribing.flow_window terms.window m.notes in
    let fresh = reported_fresh terms time recent n (stays_below_bounds.fresh terms time (payloads_confirmed keys) m e1) in
    none_given_up (released w (subscribing.reported terms time recent n))
    (subscribing.expired_in terms.mode terms time (subscribing.reported terms time recent n).sending)
    (ap (λ (x : subscribing.Subscribing). x.sending) fresh)
keyed_fresh false keys terms time recent m e1 = e1

under_fresh : (keys : Option Keys) (terms : subscribing.Terms) (time : ℕ) (recent : Bool) (m : subscribing.Subscribing)
    → subscribing.expired terms time m ≡ m
    → subscribing.expired terms time (reported_under keys terms time recent m) ≡ reported_under keys terms time recent m
under_fresh None terms time recent m e1 = reported_fresh terms time recent m e1
under_fresh (Some keys) terms time recent m e1 = keyed_fresh (has_few m) keys terms time recent m e1

-- the effect of a call on a slot's subscriber at the end of an event, with these keys of its own
abbrev pub Tells : (keys : Option Keys) → (clock : ℕ) → Option TheSession → (x y : Subscriber) → Type 0
Tells keys clock o x y =
    subscribes o ≡ true → (t : TheSession) → o ≡ Some t → (terms : subscribing.Terms) (initial : ℕ) (m : subscribing.Subscribing)
    → subscribers.StandsFor terms initial t.opened t.caller clock x m → subscribing.expired terms (clock - t.opened) m ≡ m
    → subscribers.StandsFor terms initial t.opened t.caller clock y
    (reported_under keys terms (clock - t.opened) (session_passes (is_heard_recently clock) o) m)

abbrev pub Says : (keys : Option Keys) → (clock : ℕ) → Option TheSession → (x : Subscriber) → (before later : List Reply) (places more : ℕ) → Type 0
Says keys clock o x before later places more =
    subscribes o ≡ true → (t : TheSession) → o ≡ Some t → (terms : subscribing.Terms) (initial : ℕ) (m : subscribing.Subscribing)
    → subscribers.StandsFor terms initial t.opened t.caller clock x m → subscribing.expired terms (clock - t.opened) m ≡ m
    → AreSaid before later places more
    (datagrams_to t.peer (texts_under keys terms t.caller initial (clock - t.opened) (session_passes (is_heard_recently clock) o) m))

-- when its peer was heard last
heard_recently : (e : Terms) (index clock : ℕ) (t : TheSession) (s : Session) → IsStored e index (Some t) (Some s)
    → is_heard_recently clock t ≡ is_recent s clock
heard_recently e index clock t s is = ap (λ (n : ℕ). nat_lt (clock - n) 1_000_000) is.heard_is

-- a stored subscriber's record, by the session that it is of
pub as_stored : (e : Terms) (index clock : ℕ) (t : TheSession) (s : Session) (terms : subscribing.Terms) (x : Subscriber) (m : subscribing.Subscribing)
    → IsStored e index (Some t) (Some s)
    → subscribers.StandsFor terms s.conclusion.initial s.opening s.conclusion.caller clock x m
    → subscribers.StandsFor terms s.conclusion.initial t.opened t.caller clock x m
as_stored e index clock t s terms x m is h =
    subst (λ (n : ℕ). subscribers.StandsFor terms s.conclusion.initial n t.caller clock x m) (sym is.opened_is)
    (subst (λ (n : ℕ). subscribers.StandsFor terms s.conclusion.initial s.opening n clock x m) (sym is.caller_is) h)

as_opened : (e : Terms) (index clock : ℕ) (t : TheSession) (s : Session) (terms : subscribing.Terms) (x : Subscriber) (m : subscribing.Subscribing)
    → IsStored e index (Some t) (Some s)
    → subscribers.StandsFor terms s.conclusion.initial t.opened t.caller clock x m
    → subscribers.StandsFor terms s.conclusion.initial s.opening s.conclusion.caller clock x m
as_opened e index clock t s terms x m is h =
    subst (λ (n : ℕ). subscribers.StandsFor terms s.conclusion.initial n s.conclusion.caller clock x m) is.opened_is
    (subst (λ (n : ℕ). subscribers.StandsFor terms s.conclusion.initial t.opened n clock x m) is.caller_is h)

pub still_fresh : (e : Terms) (index clock : ℕ) (t : TheSession) (s : Session) (terms : subscribing.Terms) (m : subscribing.Subscribing)
    → IsStored e index (Some t) (Some s) → subscribing.expired terms (time_in s clock) m ≡ m → subscribing.expired terms (clock - t.opened) m ≡ m
still_fresh e index clock t s terms m is h = subst (λ (n : ℕ). subscribing.expired terms (clock - n) m ≡ m) (sym is.opened_is) h

notified_seat : (keys : Option Keys) (e : Terms) (index clock : ℕ) (p : Publisher) (x y : Subscriber) (o : Option TheSession) (s : Session)
    → IsStored e index o (Some s) → IsSeated e clock p x s → s.is_open ≡ true → subscribers.IsWide e.buffer x → Stays o x y → Tells keys clock o x y
    → IsFed e clock p y (changed (after_subscriber keys e clock) s)
notified_seat keys e index clock p x y None s is seat opens wide stays tells = absurd is
notified_seat keys e index clock p x y (Some t) s is seat opens wide stays tells = by s.past refl seat.past_is
  where
    by : (past : Past) → s.past ≡ past → IsPast e clock p x s past → IsFed e clock p y (changed (after_subscriber keys e clock) s)
    by (Publishes m) q h =
        let same : y ≡ x = stays (publisher_subscribes e index t s is h.0) in
        subst (λ (z : Subscriber). IsFed e clock p z (changed (after_subscriber keys e clock) s)) (sym same)
        (record {
          wide = wide;
          seated = seated_with e clock p x s (after_subscriber keys e clock) (Publishes m) opens
              (ap (subscriber_reported keys (terms_of e s) (time_in s clock) (is_recent s clock)) q) h seat.opened;
        })
    by (Subscribes m) q h =
        let terms = (terms_of e s).subscriber in
        let recent = is_recent s clock in
        let then_ = as_opened e index clock t s terms y
        (reported_under keys terms (clock - t.opened) (session_passes (is_heard_recently clock) (Some t)) m) is
        (tells (subscriber_subscribes e index t s is h.0) t refl terms s.conclusion.initial m (as_stored e index clock t s terms x m is h.1)
        (still_fresh e index clock t s terms m is h.2)) in
        let now : subscribers.StandsFor terms s.conclusion.initial s.opening s.conclusion.caller clock y
        (reported_under keys terms (time_in s clock) recent m) =
        subst
        (λ (b : Bool). subscribers.StandsFor terms s.conclusion.initial s.opening s.conclusion.caller clock y
        (reported_under keys terms (time_in s clock) b m))
        (heard_recently e index clock t s is)
        (subst
        (λ (n : ℕ). subscribers.StandsFor terms s.conclusion.initial s.opening s.conclusion.caller clock y
        (reported_under keys terms (clock - n) (session_passes (is_heard_recently clock) (Some t)) m))
        is.opened_is then_) in
        record {
          wide = wide_by e clock y s (reported_under keys terms (time_in s clock) recent m) now;
          seated = seated_with e clock p y s (after_subscriber keys e clock) (Subscribes (reported_under keys terms (time_in s clock) recent m)) opens
              (ap (subscriber_reported keys (terms_of e s) (time_in s clock) recent) q)
              (h.0, now, under_fresh keys terms (time_in s clock) recent m h.2) seat.opened;
        }

subscriber_bytes : (clock : ℕ) (s : Session) (rs : List subscribing.Report)
    → datagrams_to s.peer (map (subscriber_text.says s.conclusion.caller s.conclusion.initial (time_in s clock)) rs)
    ≡ map sent (map (said_by (time_in s clock) s) (map ToSubscriber rs))
subscriber_bytes clock s [] = refl
subscriber_bytes clock s (r ∷ rs) =
    ap
    (λ (ds : List Datagram).
    record { peer = s.peer; bytes = subscriber_text.says s.conclusion.caller s.conclusion.initial (time_in s clock) r } ∷ ds)
    (subscriber_bytes clock s rs)

-- what a session with keys of its own sends
pub keyed_bytes : (s : Session) (os : List KeyedOutput) → datagrams_to s.peer (map keyed_text os) ≡ map sent (map (keyed_by s) os)
keyed_bytes s [] = refl
keyed_bytes s (o ∷ os) = ap (λ (ds : List Datagram). record { peer = s.peer; bytes = keyed_text o } ∷ ds) (keyed_bytes s os)

-- the packets of a subscriber
subscriber_packets : (keys : Option Keys) (e : Terms) (clock : ℕ) (s : Session) (m : subscribing.Subscribing) → s.past ≡ Subscribes m
    → is_subscriber s ≡ true
    → datagrams_to s.peer
    (texts_under keys (terms_of e s).subscriber s.conclusion.caller s.conclusion.initial (time_in s clock) (is_recent s clock) m)
    ≡ map sent (served_at false keys e clock s)
subscriber_packets None e clock s m q test =
    subscriber_bytes clock s (subscribing.reports (terms_of e s).subscriber (time_in s clock) (is_recent s clock) m)
    ∙ ap (λ (past : Past). map sent (map (said_by (time_in s clock) s) (reports_of (terms_of e s) (time_in s clock) (is_recent s clock) past))) (sym q)
    ∙ ap (λ (b : Bool). map sent (packets_at e b clock s)) (sym test)
subscriber_packets (Some keys) e clock s m q test =
    keyed_bytes s
    (outputs_with keys (terms_of e s).subscriber s.conclusion.caller s.conclusion.initial (time_in s clock) (is_recent s clock) m)
    ∙ ap
    (λ (past : Past).
    map sent
    (map (keyed_by s)
    (outputs_of keys (terms_of e s) s.conclusion.caller s.conclusion.initial (time_in s clock) (is_recent s clock) past)))
    (sym q)
    ∙ ap (λ (b : Bool). map sent (keyed_packets_at keys e b clock s)) (sym test)

-- a session that doesn't subscribe is sent nothing
none_served : (keys : Option Keys) (e : Terms) (clock : ℕ) (s : Session) → is_subscriber s ≡ false → served_at false keys e clock s ≡ []
none_served None e clock s test = ap (λ (b : Bool). packets_at e b clock s) test
none_served (Some keys) e clock s test = ap (λ (b : Bool). keyed_packets_at keys e b clock s) test

pub subscribes_or_not : (s : Session) (b : Bool) → s.is_open ≡ true → publishes s.conclusion.role ≡ b → is_subscriber s ≡ not b
subscribes_or_not s b opens r = ap (λ (d : Bool). d && not (publishes s.conclusion.role)) opens ∙ ap not r

-- the packets of a slot
pub place_said : (keys : Option Keys) (e : Terms) (index clock : ℕ) (p : Publisher) (x : Subscriber) (o : Option TheSession) (s : Session)
    (before later : List Reply) (places more : ℕ)
    → IsStored e index o (Some s) → IsSeated e clock p x s → s.is_open ≡ true → (subscribes o ≡ false → AreSaid before later places more [])
    → Says keys clock o x before later places more
    → AreSaid before later places more (map sent (served_at false keys e clock s))
place_said keys e index clock p x None s before later places more is seat opens silent says = absurd is
place_said keys e index clock p x (Some t) s before later places more is seat opens silent says = by s.past refl seat.past_is
  where
    by : (past : Past) → s.past ≡ past → IsPast e clock p x s past
        → AreSaid before later places more (map sent (served_at false keys e clock s))
    by (Publishes m) q h =
        same_said (ap (λ (rs : List Answer). map sent rs) (sym (none_served keys e clock s (subscribes_or_not s true opens h.0))))
        (silent (publisher_subscribes e index t s is h.0))
    by (Subscribes m) q h =
        let terms = (terms_of e s).subscriber in
        same_said
        (ap
        (λ (x : Peer). datagrams_to x
        (texts_under keys terms t.caller s.conclusion.initial (clock - t.opened) (session_passes (is_heard_recently clock) (Some t)) m))
        is.peer_is
        ∙ ap
        (λ (n : ℕ). datagrams_to s.peer
        (texts_under keys terms n s.conclusion.initial (clock - t.opened) (session_passes (is_heard_recently clock) (Some t)) m))
        is.caller_is
        ∙ ap
        (λ (n : ℕ). datagrams_to s.peer
        (texts_under keys terms s.conclusion.caller s.conclusion.initial (clock - n) (session_passes (is_heard_recently clock) (Some t)) m))
        is.opened_is
        ∙ ap
        (λ (b : Bool). datagrams_to s.peer
        (texts_under keys terms s.conclusion.caller s.conclusion.initial (time_in s clock) b m))
        (heard_recently e index clock t s is)
        ∙ subscriber_packets keys e clock s m q (subscribes_or_not s false opens h.0))
        (says (subscriber_subscribes e index t s is h.0) t refl terms s.conclusion.initial m (as_stored e index clock t s terms x m is h.1)
        (still_fresh e index clock t s terms m is h.2))

pub notified_becomes : (keys : Option Keys) (e : Terms) (index clock at : ℕ) (p : Publisher) (x y : Seat) (ss : List Session)
    → IsSeat e index clock at p x ss → Changes (Tells keys clock) x y → Becomes (changed (after_subscriber keys e clock)) e index clock at p x y ss
notified_becomes keys e index clock at p x y ss is h =
    seat_becomes (Tells keys clock) (after_subscriber keys e clock) e index clock at p x y ss is h
    (λ s found opens stored. notified_seat keys e index clock p x.subscriber y.subscriber x.session s stored (is.seated s found) opens is.wide
    h.stays h.changes)

-- the packets that the slots below `at` sent with those of the remaining slots are the packets of all
pub record IsReported (e : Terms) (clock : ℕ) (test : Session → Bool) (at : ℕ) (ss : List Session) (before now : List Reply) (places more : ℕ) : Type 0 where
  pub notified : List Datagram
  pub said : AreSaid before now places more notified
  pub whole : notified ++ said_from e clock test ss at (e.sessions - at) ≡ map sent (packets_where e clock test ss)

-- one more slot
pub tell_slot : (e : Terms) (clock : ℕ) (test : Session → Bool) (ss : List Session) (at : ℕ) (before now then_ : List Reply)
    (places more most : ℕ)
    → at < e.sessions → AreSaid now then_ more most (map sent (packets_in e clock test at ss))
    → IsReported e clock test at ss before now places more
    → IsReported e clock test (at + 1) ss before then_ places most
tell_slot e clock test ss at before now then_ places more most below says h =
    record {
      notified = h.notified ++ map sent (packets_in e clock test at ss);
      said = said_then before now then_ places more most h.notified (map sent (packets_in e clock test at ss)) h.said says;
      whole = append_assoc h.notified (map sent (packets_in e clock test at ss)) (said_from e clock test ss (at + 1) (e.sessions - (at + 1)))
          ∙ (ap (λ (ds : List Datagram). h.notified ++ ds) (sym (next (find (is_open_in at) ss) refl))
          ∙ (ap (λ (n : ℕ). h.notified ++ said_from e clock test ss at n) (sym count) ∙ h.whole));
    }
  where
    count : e.sessions - at ≡ suc (e.sessions - (at + 1))
    count = omega (arith, below)

    next : (o : Option Session) → find (is_open_in at) ss ≡ o
        → said_from e clock test ss at (suc (e.sessions - (at + 1)))
        ≡ map sent (packets_of e clock test o) ++ said_from e clock test ss (at + 1) (e.sessions - (at + 1))
    next None found = said_vacant e clock test ss at (e.sessions - (at + 1)) found
    next (Some s) found = said_more e clock test ss at (e.sessions - (at + 1)) s found

-- `turn` packets of a subscriber were queued, and these remain
pub record IsTelling (terms : subscribing.Terms) (initial opening caller clock : ℕ) (recent : Bool) (peer : Peer) (x : Subscriber)
    (m : subscribing.Subscribing) (before now : List Reply) (places more turn : ℕ) : Type 0 where
  pub gone : List subscribing.Report
  pub left : List subscribing.Report
  pub emitting : Emitting terms initial opening caller clock recent x m left
  pub whole : gone ++ left ≡ subscribing.reports terms (clock - opening) recent m
  pub count : length gone ≡ turn
  pub said : AreSaid before now places more (datagrams_to peer (map (subscriber_text.says caller initial (clock - opening)) gone))

pub telling_begins : (terms : subscribing.Terms) (initial opening caller clock : ℕ) (recent : Bool) (peer : Peer) (x : Subscriber)
    (m : subscribing.Subscribing) (waiting : List Reply) (places : ℕ)
    → subscribers.StandsFor terms initial opening caller clock x m → subscribing.expired terms (clock - opening) m ≡ m
    → IsTelling terms initial opening caller clock recent peer x m waiting waiting places places 0
telling_begins terms initial opening caller clock recent peer x m waiting places stands fresh =
    record {
      gone = [];
      left = subscribing.reports terms (clock - opening) recent m;
      emitting = subst
          (λ (k : subscribing.Subscribing). Emitting terms initial opening caller clock recent x m (subscribing.reports terms (clock - opening) recent k)) fresh
          (begins terms initial opening caller clock clock recent x m stands (omega arith));
      whole = refl;
      count = refl;
      said = nothing_said waiting places;
    }

pub telling_more : (terms : subscribing.Terms) (initial opening caller clock : ℕ) (recent : Bool) (peer : Peer) (y : Subscriber)
    (m : subscribing.Subscribing) (before now then_ : List Reply) (places more most turn : ℕ) (gone left : List subscribing.Report)
    (packet : EncodedPacket)
    → gone ++ left ≡ subscribing.reports terms (clock - opening) recent m → length gone ≡ turn
    → AreSaid before now places more (datagrams_to peer (map (subscriber_text.says caller initial (clock - opening)) gone))
    → IsNext terms initial opening caller clock recent packet y m left → AreSaid now then_ more most (datagrams_to peer (bytes_of packet ∷ []))
    → IsTelling terms initial opening caller clock recent peer y m before then_ places most (turn + 1)
telling_more terms initial opening caller clock recent peer y m before now then_ places more most turn gone left packet whole count said next one =
    let r = next.report in
    let says = subscriber_text.says caller initial (clock - opening) in
    record {
      gone = gone ++ r ∷ [];
      left = next.rest;
      emitting = next.goes_on;
      whole = append_assoc gone (r ∷ []) next.rest ∙ (ap (λ (rs : List subscribing.Report). gone ++ rs) (sym next.left_is) ∙ whole);
      count = omega (arith, length-append gone (r ∷ []), count);
      said = same_said (sym (to_append peer (map says gone) (says r ∷ [])) ∙ ap (datagrams_to peer) (sym (map-append says gone (r ∷ []))))
          (said_then before now then_ places more most (datagrams_to peer (map says gone)) (datagrams_to peer (says r ∷ [])) said
          (same_said (ap (λ (bytes : List ℕ). datagrams_to peer (bytes ∷ [])) next.text_is) one));
    }

pub telling_ends : (terms : subscribing.Terms) (initial opening caller clock : ℕ) (recent : Bool) (peer : Peer) (m : subscribing.Subscribing)
    (before now : List Reply) (places more : ℕ) (gone left : List subscribing.Report)
    → gone ++ left ≡ subscribing.reports terms (clock - opening) recent m → left ≡ []
    → AreSaid before now places more (datagrams_to peer (map (subscriber_text.says caller initial (clock - opening)) gone))
    → AreSaid before now places more
    (datagrams_to peer (map (subscriber_text.says caller initial (clock - opening)) (subscribing.reports terms (clock - opening) recent m)))
telling_ends terms initial opening caller clock recent peer m before now places more gone left whole none said =
    same_said
    (ap (λ (rs : List subscribing.Report). datagrams_to peer (map (subscriber_text.says caller initial (clock - opening)) rs))
    (sym (append-nil gone) ∙ (ap (λ (rs : List subscribing.Report). gone ++ rs) (sym none) ∙ whole)))
    said

pub never_so_many : (terms : subscribing.Terms) (initial opening caller clock : ℕ) (recent : Bool) (peer : Peer) (x : Subscriber)
    (m : subscribing.Subscribing) (before now : List Reply) (places more turn : ℕ)
    → IsTelling terms initial opening caller clock recent peer x m before now places more turn → 66 ≤ turn
    → ⊥
never_so_many terms initial opening caller clock recent peer x m before now places more turn h many =
    let all : length (h.gone ++ h.left) ≤ 65 = omega (arith, ap length h.whole, subscriber_few terms (clock - opening) recent m) in
    absurd (omega (arith, all, length-append h.gone h.left, h.count, many))

-- the publishers' packets, and then the subscribers'
pub both_reported : (keys : Option Keys) (draining : Bool) (terms : Agreed) (time : ℕ) (recent : Bool) (past : Past)
    → subscriber_reported keys terms time recent (publisher_reported draining terms time past) ≡ reported_past keys draining terms time recent past
both_reported keys draining terms time recent (Publishes p) = refl
both_reported keys draining terms time recent (Subscribes m) = refl

-- the publishers' packets don't change what the subscribers are sent
pub later_packets : (keys : Option Keys) (e : Terms) (clock : ℕ) (p : Publisher) (x : Subscriber) (s : Session)
    → s.is_open ≡ true → IsSeated e clock p x s
    → served_at false keys e clock (changed (after_publisher e clock) s) ≡ served_at false keys e clock s
later_packets keys e clock p x s opens seat = by s.past refl seat.past_is
  where
    by : (past : Past) → s.past ≡ past → IsPast e clock p x s past
        → served_at false keys e clock (changed (after_publisher e clock) s) ≡ served_at false keys e clock s
    by (Publishes m) q h =
        let t : Session = record s { past = after_publisher e clock s } in
        ap (served_at false keys e clock) (changed_is s (after_publisher e clock) (after_publisher e clock s) opens refl)
        ∙ (none_served keys e clock t (subscribes_or_not s true opens h.0)
        ∙ sym (none_served keys e clock s (subscribes_or_not s true opens h.0)))
    by (Subscribes m) q h =
        ap (served_at false keys e clock) (changed_is s (after_publisher e clock) s.past opens (ap (publisher_reported (is_draining s) (terms_of e s)
        (time_in s clock)) q ∙ sym q))

pub same_from : (e : Terms) (clock : ℕ) (f : Session → List Answer) (ss : List Session) (from count : ℕ)
    → ((k : ℕ) (t : Session) → find (is_open_in k) ss ≡ Some t → f (changed (after_publisher e clock) t) ≡ f t)
    → flat_map f (from_places (map (changed (after_publisher e clock)) ss) from count) ≡ flat_map f (from_places ss from count)
same_from e clock f ss from zero same = refl
same_from e clock f ss from (suc count) same =
    ap (λ (o : Option Session). flat_map f (cons_option o (from_places (map (changed (after_publisher e clock)) ss) (from + 1) count)))
    (find_changed (after_publisher e clock) from ss)
    ∙ by (same_from e clock f ss (from + 1) count same) (find (is_open_in from) ss) refl
  where
    by : flat_map f (from_places (map (changed (after_publisher e clock)) ss) (from + 1) count) ≡ flat_map f (from_places ss (from + 1) count)
        → (o : Option Session) → find (is_open_in from) ss ≡ o
        → flat_map f
        (cons_option (option_map (changed (after_publisher e clock)) o)
        (from_places (map (changed (after_publisher e clock)) ss) (from + 1) count))
        ≡ flat_map f (cons_option o (from_places ss (from + 1) count))
    by later None is = later
    by later (Some t) is =
        ap (λ (rs : List Answer). rs ++ flat_map f (from_places (map (changed (after_publisher e clock)) ss) (from + 1) count)) (same from t is)
        ∙ ap (λ (rs : List Answer). f t ++ rs) later
