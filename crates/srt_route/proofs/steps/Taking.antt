-- A packet arrives for a session.
use Rattle.std.proofs.Common.{◌≡◌, ℕ, ◌+◌, ◌-◌, ◌<◌, Bool, true, false, ◌||◌, ◌&&◌, cond, Bor, Option}
use Rattle.std.proofs.Common.{None, Some, List, [], ◌∷◌, ◌++◌, length, map, find, get_or, set, refl}
use Rattle.std.proofs.Common.{sym, ap, subst, ◌∙◌, append-nil, arith}
use Rattle.std.specs.Option.{is_some}
use Rattle.std.proofs.lemmas.List.{get_or_default}
use Rattle.srt_types.specs.declared.shared.Callers.{Callers}
use Rattle.srt_types.specs.declared.shared.Callers.TheVariants.{Draft, Libsrt}
use Rattle.srt_types.specs.declared.shared.Mode.{Mode}
use Rattle.srt_types.specs.declared.shared.Mode.TheVariants.{Live, Buffer}
use Rattle.srt_types.specs.declared.shared.Peer.{Peer}
use Rattle.srt_types.specs.declared.shared.Rules.{Rules}
use Rattle.srt_types.specs.Items.{Datagram}
use Rattle.srt_types.specs.Terms.{Terms}
use Rattle.srt_packet.specs.Grammar.{Packet, Body, Data, Handshake, KeepAlive, Ack, Nak, CongestionWarning, Shutdown, AckAck, DropRequest}
use Rattle.srt_packet.specs.Grammar.{PeerError, UserDefined}
use Rattle.srt_packet.specs.View.{body_of}
use Rattle.srt_packet.specs.declared.reading.Kind.{Kind}
use Rattle.srt_packet.specs.declared.reading.Kind.TheVariants as kinds
use Rattle.srt_pub.specs.Calls.{ended, lost_if}
use Rattle.srt_pub.specs.Heard as to_publisher
use Rattle.srt_pub.specs.Publishing as publishing
use Rattle.srt_pub.specs.Stands as publisher
use Rattle.srt_pub.specs.declared.ends.PubEnd.{PubEnd}
use Rattle.srt_pub.specs.declared.session.Publisher.{Publisher}
use Rattle.srt_sub.specs.Endings as endings
use Rattle.srt_sub.specs.Heard as to_subscriber
use Rattle.srt_sub.specs.Says.{says}
use Rattle.srt_sub.specs.Stands as subscriber
use Rattle.srt_sub.specs.Subscribing as subscribing
use Rattle.srt_sub.specs.declared.session.Subscriber.{Subscriber}
use Rattle.srt_route.specs.declared.publisher_buffers.PublisherBuffers.{PublisherBuffers}
use Rattle.srt_route.specs.declared.seat.Session.{Session as TheSession}
use Rattle.srt_route.specs.declared.seat.Seat.{Seat}
use Rattle.srt_route.specs.declared.table.Table.{Table}
use Rattle.srt_route.specs.Past.{Past, Publishes, Subscribes, Agreed, Report, ToSubscriber, is_shutdown, ends_with}
use Rattle.srt_route.specs.Past.{loses_window, publisher_end, has_left, took_past}
use Rattle.srt_route.specs.Past.{answers_to}
use Rattle.srt_route.specs.Sessions.{Session, ends_unless, is_active, publishes, terms_of, time_in, stamp_in, took, answered_at_once}
use Rattle.srt_route.specs.Route.{drain_if, drain_of, packet_end, took_packet}
use Rattle.srt_route.specs.Sessions.{of_libsrt, with_end}
use Rattle.srt_route.specs.inside.Calls.{TableBecomes}
use Rattle.srt_route.specs.inside.Files.{shutdown_end}
use Rattle.srt_route.specs.Route.{Reply, is_for, took_if, notified_if, lost_notified, said_by, sent, answered_by, arrived, concludes}
use Rattle.srt_route.specs.Buffers.{IsPast, IsSeated, datagrams_to}
use Rattle.srt_route.specs.Parts.{role_of}
use Rattle.srt_route.specs.PublisherBuffers.{place_of}
use Rattle.srt_route.specs.Tables.{IsSeat, IsTable, IsTaken, IsPublishing, AreWide, Uses, used_buffers, buffers_of}
use Rattle.srt_route.specs.Seats.{has_publisher}
use Rattle.srt_route.specs.Tables.{stored_after, with_stored}
use Rattle.srt_route.specs.Seats.{session_passes}
use Rattle.srt_route.specs.inside.OneSession.{PublisherTook, PublisherEnds, PublisherEndsFor, SubscriberTook, SubscriberAnswers}
use Rattle.srt_route.specs.inside.OneSession.{end_unless, is_lost, shutdowns_if}
use Rattle.srt_route.proofs.model.Ending.{notified_alike}
use Rattle.srt_route.proofs.model.Found.{for_parts, same_peer_is}
use Rattle.srt_route.proofs.model.Lists.{map_twice}
use Rattle.srt_route.proofs.stored.Stored.{IsHere, IsForNone, takes, takes_marks, took_becomes, none_changes, none_found_for}
use Rattle.srt_route.proofs.stored.Kept.{Alike, Becomes, some_buffers, table_kept, table_same, table_put, seat_at, seat_put, seat_stays}
use Rattle.srt_route.proofs.stored.Publishers.{set_here, wide_set, others_stay}
use Rattle.srt_route.proofs.stored.Seats.{took_kept}
use Rattle.srt_route.proofs.steps.Notified.{subscriber_goes_on}

-- how a publisher's session ends
lost_is : (b : Bool) → is_some (lost_if b) ≡ b
lost_is true = refl
lost_is false = refl

pub ended_is : (terms : publishing.Terms) (initial : ℕ) (body : Body) (m : publishing.Publishing)
    → is_some (ended terms initial body m)
    ≡ is_shutdown body || publishing.loses_window terms.mode terms (to_publisher.heard_from initial body) m
ended_is terms initial Shutdown m = refl
ended_is terms initial (Data number encryption payload) m =
    lost_is (publishing.loses_window terms.mode terms (to_publisher.heard_from initial (Data number encryption payload)) m)
ended_is terms initial (Handshake info) m = lost_is (publishing.loses_window terms.mode terms (to_publisher.heard_from initial (Handshake info)) m)
ended_is terms initial KeepAlive m = lost_is (publishing.loses_window terms.mode terms (to_publisher.heard_from initial KeepAlive) m)
ended_is terms initial (Ack number info) m = lost_is (publishing.loses_window terms.mode terms (to_publisher.heard_from initial (Ack number info)) m)
ended_is terms initial (Nak info) m = lost_is (publishing.loses_window terms.mode terms (to_publisher.heard_from initial (Nak info)) m)
ended_is terms initial CongestionWarning m = lost_is (publishing.loses_window terms.mode terms (to_publisher.heard_from initial CongestionWarning) m)
ended_is terms initial (AckAck number) m = lost_is (publishing.loses_window terms.mode terms (to_publisher.heard_from initial (AckAck number)) m)
ended_is terms initial (DropRequest message first last) m =
    lost_is (publishing.loses_window terms.mode terms (to_publisher.heard_from initial (DropRequest message first last)) m)
ended_is terms initial PeerError m = lost_is (publishing.loses_window terms.mode terms (to_publisher.heard_from initial PeerError) m)
ended_is terms initial UserDefined m = lost_is (publishing.loses_window terms.mode terms (to_publisher.heard_from initial UserDefined) m)

-- whether its window was lost
lost_only : (b : Bool) → is_lost (lost_if b) ≡ b
lost_only true = refl
lost_only false = refl

not_lost : (mode : Mode) (terms : publishing.Terms) (m : publishing.Publishing) → false ≡ publishing.loses_window mode terms to_publisher.Other m
not_lost Live terms m = refl
not_lost Buffer terms m = refl

pub lost_is_notified : (terms : publishing.Terms) (initial : ℕ) (body : Body) (m : publishing.Publishing)
    → is_lost (ended terms initial body m) ≡ publishing.loses_window terms.mode terms (to_publisher.heard_from initial body) m
lost_is_notified terms initial Shutdown m = not_lost terms.mode terms m
lost_is_notified terms initial (Data number encryption payload) m =
    lost_only (publishing.loses_window terms.mode terms (to_publisher.heard_from initial (Data number encryption payload)) m)
lost_is_notified terms initial (Handshake info) m = lost_only (publishing.loses_window terms.mode terms (to_publisher.heard_from initial (Handshake info)) m)
lost_is_notified terms initial KeepAlive m = lost_only (publishing.loses_window terms.mode terms (to_publisher.heard_from initial KeepAlive) m)
lost_is_notified terms initial (Ack number info) m = lost_only (publishing.loses_window terms.mode terms (to_publisher.heard_from initial (Ack number info)) m)
lost_is_notified terms initial (Nak info) m = lost_only (publishing.loses_window terms.mode terms (to_publisher.heard_from initial (Nak info)) m)
lost_is_notified terms initial CongestionWarning m =
    lost_only (publishing.loses_window terms.mode terms (to_publisher.heard_from initial CongestionWarning) m)
lost_is_notified terms initial (AckAck number) m = lost_only (publishing.loses_window terms.mode terms (to_publisher.heard_from initial (AckAck number)) m)
lost_is_notified terms initial (DropRequest message first last) m =
    lost_only (publishing.loses_window terms.mode terms (to_publisher.heard_from initial (DropRequest message first last)) m)
lost_is_notified terms initial PeerError m = lost_only (publishing.loses_window terms.mode terms (to_publisher.heard_from initial PeerError) m)
lost_is_notified terms initial UserDefined m = lost_only (publishing.loses_window terms.mode terms (to_publisher.heard_from initial UserDefined) m)

-- whether it ended by its own SHUTDOWN
end_only : (b : Bool) → shutdown_end (lost_if b) ≡ cond b (Some false) None
end_only true = refl
end_only false = refl

pub end_is_notified : (terms : Agreed) (initial : ℕ) (body : Body) (m : publishing.Publishing)
    → shutdown_end (ended terms.publisher initial body m) ≡ publisher_end terms initial body (Publishes m)
end_is_notified terms initial Shutdown m = refl
end_is_notified terms initial (Data number encryption payload) m =
    end_only (loses_window terms initial (Data number encryption payload) (Publishes m))
end_is_notified terms initial (Handshake info) m = end_only (loses_window terms initial (Handshake info) (Publishes m))
end_is_notified terms initial KeepAlive m = end_only (loses_window terms initial KeepAlive (Publishes m))
end_is_notified terms initial (Ack number info) m = end_only (loses_window terms initial (Ack number info) (Publishes m))
end_is_notified terms initial (Nak info) m = end_only (loses_window terms initial (Nak info) (Publishes m))
end_is_notified terms initial CongestionWarning m = end_only (loses_window terms initial CongestionWarning (Publishes m))
end_is_notified terms initial (AckAck number) m = end_only (loses_window terms initial (AckAck number) (Publishes m))
end_is_notified terms initial (DropRequest message first last) m = end_only (loses_window terms initial (DropRequest message first last) (Publishes m))
end_is_notified terms initial PeerError m = end_only (loses_window terms initial PeerError (Publishes m))
end_is_notified terms initial UserDefined m = end_only (loses_window terms initial UserDefined (Publishes m))

-- how a subscriber's session ends
shutdown_is : (body : Body) → endings.is_shutdown body ≡ is_shutdown body || false
shutdown_is Shutdown = refl
shutdown_is (Data number encryption payload) = refl
shutdown_is (Handshake info) = refl
shutdown_is KeepAlive = refl
shutdown_is (Ack number info) = refl
shutdown_is (Nak info) = refl
shutdown_is CongestionWarning = refl
shutdown_is (AckAck number) = refl
shutdown_is (DropRequest message first last) = refl
shutdown_is PeerError = refl
shutdown_is UserDefined = refl

-- a session drains only from a SHUTDOWN on
abbrev pub EndsByShutdown : (drains : Option ℕ) → Body → Type 0
EndsByShutdown drains body = (until : ℕ) → drains ≡ Some until → is_shutdown body ≡ true

some_unless : (drains : Option ℕ) (end : Option PubEnd) → is_some (end_unless drains end) ≡ ends_unless drains (is_some end)
some_unless None end = refl
some_unless (Some until) end = refl

shutdown_keeps : (terms : Agreed) (initial : ℕ) (body : Body) (past : Past) → is_shutdown body ≡ true → loses_window terms initial body past ≡ false
shutdown_keeps terms initial Shutdown (Publishes m) h = by terms.publisher.mode
  where
    by : (mode : Mode) → publishing.loses_window mode terms.publisher to_publisher.Other m ≡ false
    by Live = refl
    by Buffer = refl
shutdown_keeps terms initial Shutdown (Subscribes m) h = refl
shutdown_keeps terms initial (Data number encryption payload) past h = absurd (let bad : false ≡ true = h in cc)
shutdown_keeps terms initial (Handshake info) past h = absurd (let bad : false ≡ true = h in cc)
shutdown_keeps terms initial KeepAlive past h = absurd (let bad : false ≡ true = h in cc)
shutdown_keeps terms initial (Ack number info) past h = absurd (let bad : false ≡ true = h in cc)
shutdown_keeps terms initial (Nak info) past h = absurd (let bad : false ≡ true = h in cc)
shutdown_keeps terms initial CongestionWarning past h = absurd (let bad : false ≡ true = h in cc)
shutdown_keeps terms initial (AckAck number) past h = absurd (let bad : false ≡ true = h in cc)
shutdown_keeps terms initial (DropRequest message first last) past h = absurd (let bad : false ≡ true = h in cc)
shutdown_keeps terms initial PeerError past h = absurd (let bad : false ≡ true = h in cc)
shutdown_keeps terms initial UserDefined past h = absurd (let bad : false ≡ true = h in cc)

lost_unless : (drains : Option ℕ) (end : Option PubEnd) (terms : Agreed) (initial : ℕ) (body : Body) (past : Past)
    → EndsByShutdown drains body → is_lost end ≡ loses_window terms initial body past
    → is_lost (end_unless drains end) ≡ loses_window terms initial body past
lost_unless None end terms initial body past by_shutdown h = h
lost_unless (Some until) end terms initial body past by_shutdown h = sym (shutdown_keeps terms initial body past (by_shutdown until refl))

libsrt_none : (callers : Callers) → of_libsrt callers None ≡ None
libsrt_none Draft = refl
libsrt_none Libsrt = refl

end_of : (drains : Option ℕ) (e : Terms) (body : Body) (s : Session) (end : Option PubEnd)
    → shutdown_end end ≡ publisher_end (terms_of e s) s.conclusion.initial body s.past
    → of_libsrt e.rules.callers (shutdown_end (end_unless drains end)) ≡ packet_end drains e body (Some s)
end_of None e body s end h = ap (of_libsrt e.rules.callers) h
end_of (Some until) e body s end h = libsrt_none e.rules.callers

-- a publisher's session after a packet
record PublisherIs (drains : Option ℕ) (e : Terms) (clock : ℕ) (packet : Packet) (new : Publisher) (x y : Seat) (end : Option PubEnd)
    (s : Session) : Type 0 where
  wide : publisher.width_of new ≡ e.buffer
  seated : (z : Subscriber) → IsSeated e clock new z (took drains e clock packet.stamp packet.body s)
  seat_is : y ≡ with_stored (stored_after (ends_unless drains (ends_with (terms_of e s) s.conclusion.initial packet.body s.past)) drains clock x.session) x
  silent : answered_at_once packet.body s ≡ []
  lost : is_lost (end_unless drains end) ≡ loses_window (terms_of e s) s.conclusion.initial packet.body s.past
  end_is : of_libsrt e.rules.callers (shutdown_end (end_unless drains end)) ≡ packet_end drains e packet.body (Some s)

publisher_is : (drains : Option ℕ) (e : Terms) (clock : ℕ) (packet : Packet) (old new : Publisher) (x y : Seat) (end : Option PubEnd) (s : Session)
    → publishes s.conclusion.role ≡ true → (EndsByShutdown drains packet.body) → PublisherTook clock packet old new → PublisherEnds drains clock packet old x y
    → PublisherEndsFor packet old end → IsSeated e clock old x.subscriber s
    → PublisherIs drains e clock packet new x y end s
publisher_is drains e clock packet old new x y end s role by_shutdown took_it ends end_is is = by s.past refl is.past_is
  where
    now_is : clock ≡ s.opening + (clock - s.opening)
    now_is = omega (arith, is.opened)

    by : (past : Past) → s.past ≡ past → IsPast e clock old x.subscriber s past → PublisherIs drains e clock packet new x y end s
    by (Subscribes m) same h = absurd (let bad : true ≡ false = sym role ∙ h.0 in cc)
    by (Publishes m) same h =
        let stands = took_it (terms_of e s).publisher s.conclusion.initial s.opening s.stamp s.conclusion.caller (clock - s.opening) m now_is h.1 in
        let over = ends (terms_of e s).publisher s.conclusion.initial s.opening s.stamp s.conclusion.caller m h.1 in
        record {
          wide = stands.buffer.0;
          seated = λ z. record {
            past_is = subst
                (λ (q : Past). IsPast e clock new z s
                (took_past (terms_of e s) s.conclusion.initial (time_in s clock) (stamp_in s packet.stamp) packet.body q))
                (sym same) (role, stands);
            opened = is.opened;
          };
          seat_is = over
              ∙ ap (λ (b : Bool). with_stored (stored_after b drains clock x.session) x)
              (some_unless drains (ended (terms_of e s).publisher s.conclusion.initial packet.body m)
              ∙ ap (ends_unless drains)
              (ended_is (terms_of e s).publisher s.conclusion.initial packet.body m
              ∙ ap (ends_with (terms_of e s) s.conclusion.initial packet.body) (sym same)));
          silent = ap (answers_to s.conclusion.initial packet.body) same;
          lost = lost_unless drains end (terms_of e s) s.conclusion.initial packet.body s.past by_shutdown
              (ap is_lost (end_is (terms_of e s).publisher s.conclusion.initial s.opening s.stamp s.conclusion.caller m h.1)
              ∙ lost_is_notified (terms_of e s).publisher s.conclusion.initial packet.body m
              ∙ ap (loses_window (terms_of e s) s.conclusion.initial packet.body) (sym same));
          end_is = end_of drains e packet.body s end
              (ap shutdown_end (end_is (terms_of e s).publisher s.conclusion.initial s.opening s.stamp s.conclusion.caller m h.1)
              ∙ end_is_notified (terms_of e s) s.conclusion.initial packet.body m
              ∙ ap (publisher_end (terms_of e s) s.conclusion.initial packet.body) (sym same));
        }

-- a subscriber's session after a packet
record SubscriberIs (e : Terms) (clock : ℕ) (peer : Peer) (packet : Packet) (p : Publisher) (x y : Seat) (replies : List Datagram) (s : Session) : Type 0 where
  wide : subscriber.IsWide e.buffer y.subscriber
  seated : IsSeated e clock p y.subscriber (took None e clock packet.stamp packet.body s)
  stored : y.session ≡ stored_after (ends_with (terms_of e s) s.conclusion.initial packet.body s.past) None clock x.session
  answered : replies ≡ map sent (map (said_by (time_in s clock) s) (answered_at_once packet.body s))
  lost : lost_notified e clock packet.body s ≡ []
  endless : packet_end None e packet.body (Some s) ≡ None

no_end : (callers : Callers) → of_libsrt callers None ≡ None
no_end Draft = refl
no_end Libsrt = refl

none_notified : (callers : Callers) (clock : ℕ) (s : Session) → notified_if callers false clock s ≡ []
none_notified Draft clock s = refl
none_notified Libsrt clock s = refl

-- bytes of reports
said_to : (peer : Peer) (time : ℕ) (s : Session) → s.peer ≡ peer → (reports : List subscribing.Report)
    → datagrams_to peer (map (says s.conclusion.caller s.conclusion.initial time) reports)
    ≡ map sent (map (said_by time s) (map ToSubscriber reports))
said_to peer time s same [] = refl
said_to peer time s same (r ∷ reports) =
    ap (λ (p : Peer). datagram p ∷ datagrams_to peer (map (says s.conclusion.caller s.conclusion.initial time) reports)) (sym same)
    ∙ ap (λ (ds : List Datagram). datagram s.peer ∷ ds) (said_to peer time s same reports)
  where
    datagram : Peer → Datagram
    datagram p = record { peer = p; bytes = says s.conclusion.caller s.conclusion.initial time r }

subscriber_is : (e : Terms) (clock : ℕ) (peer : Peer) (packet : Packet) (p : Publisher) (x y : Seat) (replies : List Datagram) (s : Session)
    → publishes s.conclusion.role ≡ false → s.peer ≡ peer → SubscriberTook clock packet x.subscriber y.subscriber
    → y.session ≡ stored_after (endings.is_shutdown packet.body) None clock x.session → SubscriberAnswers clock peer packet x.subscriber replies
    → IsSeated e clock p x.subscriber s
    → SubscriberIs e clock peer packet p x y replies s
subscriber_is e clock peer packet p x y replies s role same_peer took_it end answers is = by s.past refl is.past_is
  where
    by : (past : Past) → s.past ≡ past → IsPast e clock p x.subscriber s past → SubscriberIs e clock peer packet p x y replies s
    by (Publishes m) same h = absurd (let bad : true ≡ false = sym h.0 ∙ role in cc)
    by (Subscribes m) same h =
        let terms = (terms_of e s).subscriber in
        let heard = to_subscriber.heard_from s.conclusion.initial packet.body in
        let first = took_it terms s.conclusion.initial s.opening s.conclusion.caller clock m h.1 (omega arith) in
        let stands = subst
        (λ (k : subscribing.Subscribing). subscriber.StandsFor terms s.conclusion.initial s.opening s.conclusion.caller clock y.subscriber
        (subscribing.took (clock - s.opening) heard k))
        h.2 first in
        record {
          wide = (s.conclusion.initial, (subscribing.took (clock - s.opening) heard m).sending, stands.buffer_is);
          seated = record {
            past_is = subst
                (λ (q : Past). IsPast e clock p y.subscriber s
                (took_past (terms_of e s) s.conclusion.initial (time_in s clock) (stamp_in s packet.stamp) packet.body q))
                (sym same) (role, stands, took_kept terms (clock - s.opening) heard m h.2);
            opened = is.opened;
          };
          stored = end
              ∙ ap (λ (b : Bool). stored_after b None clock x.session)
              (shutdown_is packet.body ∙ ap (ends_with (terms_of e s) s.conclusion.initial packet.body) (sym same));
          answered = answers terms s.conclusion.initial s.opening s.conclusion.caller clock m h.1 (omega arith)
              ∙ (said_to peer (clock - s.opening) s same_peer (subscribing.answers heard)
              ∙ ap (λ (q : Past). map sent (map (said_by (time_in s clock) s) (answers_to s.conclusion.initial packet.body q))) (sym same));
          lost = ap (λ (q : Past). notified_if e.rules.callers (loses_window (terms_of e s) s.conclusion.initial packet.body q) clock s) same
              ∙ none_notified e.rules.callers clock s;
          endless = ap (λ (q : Past). of_libsrt e.rules.callers (publisher_end (terms_of e s) s.conclusion.initial packet.body q)) same
              ∙ no_end e.rules.callers;
        }

-- the sessions after a packet, by how it ended a publisher's session
by_end : (e : Terms) (index clock : ℕ) (peer : Peer) (packet : Packet) (table : Table) (ss : List Session) (o : Option Session) (drains : Option ℕ)
    (end : Option Bool)
    → find (is_for index peer packet.dest) ss ≡ o → drain_of e clock packet.body ss o ≡ drains → packet_end drains e packet.body o ≡ end
    → IsTable e index clock table (map (took_packet drains end e index clock peer packet) ss)
    → IsTable e index clock table (arrived e index clock peer packet ss).sessions
by_end e index clock peer packet table ss o drains end found drains_is is body =
    subst
    (λ (f : Option Session).
    IsTable e index clock table
    (map
    (took_packet (drain_of e clock packet.body ss f) (packet_end (drain_of e clock packet.body ss f) e packet.body f) e index clock peer packet) ss))
    (sym found)
    (subst (λ (d : Option ℕ). IsTable e index clock table (map (took_packet d (packet_end d e packet.body o) e index clock peer packet) ss)) (sym drains_is)
    (subst (λ (x : Option Bool). IsTable e index clock table (map (took_packet drains x e index clock peer packet) ss)) (sym is) body))

-- the packet is for no session
pub none_arrived : (e : Terms) (index clock : ℕ) (peer : Peer) (packet : Packet) (table later : Table) (ss : List Session)
    → IsTable e index clock table ss → Alike table later → later.publishers ≡ table.publishers → later.seats ≡ table.seats
    → IsForNone index peer packet.dest e.sessions ss
    → IsTaken e index clock later [] (arrived e index clock peer packet ss)
none_arrived e index clock peer packet table later ss is alike same_publisher same none =
    record {
      table_is = by_end e index clock peer packet later ss None None None nobody refl refl
          (table_same e index clock table later (map f ss) (table_kept f (takes None e index clock peer packet)
          (takes_marks None e index clock peer packet) e index clock clock table
          table ss is is.early (refl, refl, refl, refl, refl, refl) is.publishers_wide refl
          (λ at d p below. seat_stays f e index clock at (buffers_of table.publishers.items (get_or table.seats.items at d) p)
          (buffers_of table.publishers.items (get_or table.seats.items at d) p) (get_or table.seats.items at d) ss (is.seats_are at d p below)
          (λ s found. none_changes None e index clock peer packet s (none at s (omega (arith, below, is.places_are)) found)) (λ s found h. h)))
          alike same_publisher same);
      replies_are = ap (λ (o : Option Session). map sent (answered_by e clock packet.body o)) (sym nobody);
    }
  where
    nobody : find (is_for index peer packet.dest) ss ≡ None
    nobody = none_found_for index peer packet.dest e.sessions ss is.alone none (find (is_for index peer packet.dest) ss) refl

    f : Session → Session
    f s = took_if None (is_for index peer packet.dest s) e clock packet s

-- a draining session received its SHUTDOWN
drains_by_shutdown : (e : Terms) (clock : ℕ) (body : Body) (ss : List Session) (s : Session) (until : ℕ)
    → drain_of e clock body ss (Some s) ≡ Some until → is_shutdown body ≡ true
drains_by_shutdown e clock body ss s until h = by e.rules.callers (is_shutdown body) h
  where
    by : (c : Callers) (b : Bool)
        → drain_if c (b && is_active ss s && has_left (terms_of e s) s.past) (clock + (terms_of e s).publisher.delay + 5_000_000) ≡ Some until
        → b ≡ true
    by c true k = refl
    by Draft false k = absurd (let bad : None ≡ Some until = k in cc)
    by Libsrt false k = absurd (let bad : None ≡ Some until = k in cc)

-- it is a publisher's
pub publisher_arrived : (e : Terms) (index clock : ℕ) (peer : Peer) (packet : Packet) (old new last : Table) (drains : Option ℕ) (noted : Option Bool)
    (ss : List Session) (at : ℕ)
    (which : PublisherBuffers) (p q : Publisher) (x y : Seat) (end : Option PubEnd) (replies : List Datagram) (t : TheSession) (s : Session)
    → IsTable e index clock old ss → x ≡ get_or old.seats.items at x → IsHere e index ss peer packet.dest at x t s
    → publishes s.conclusion.role ≡ true → which ≡ used_buffers x → p ≡ get_or old.publishers.items (place_of which) p
    → drain_of e clock packet.body ss (Some s) ≡ drains
    → PublisherTook clock packet p q → PublisherEnds drains clock packet p x y → PublisherEndsFor packet p end
    → replies ≡ shutdowns_if old.rules.callers (is_lost (end_unless drains end)) clock x.session → Alike old new → new.seats.items ≡ set old.seats.items at y
    → new.publishers.items ≡ set old.publishers.items (place_of which) q → noted ≡ of_libsrt new.rules.callers (shutdown_end (end_unless drains end))
    → ((n : ℕ) → TableBecomes n new last (λ d. map (with_end noted)))
    → IsTaken e index clock last replies (arrived e index clock peer packet ss)
publisher_arrived e index clock peer packet old new last drains noted ss at which p q x y end replies t s is there here role which_is p_is
    drains_is took_them ends end_is notified alike put turned noted_is notes =
    record {
      table_is = by_end e index clock peer packet last ss (Some s) drains noted here.found_for drains_is
          (sym now.end_is
          ∙ ap (λ (c : Callers). of_libsrt c (shutdown_end (end_unless drains end))) (sym (ap (λ (r : Rules). r.callers) mid.rules_are))
          ∙ sym noted_is)
          (subst (λ (ts : List Session). IsTable e index clock last ts)
          (map_twice (λ u. took_if drains (is_for index peer packet.dest u) e clock packet u) (with_end noted) ss)
          (notes clock e index (map (λ u. took_if drains (is_for index peer packet.dest u) e clock packet u) ss) mid));
      replies_are = notified
          ∙ ap (λ (c : Callers). shutdowns_if c (is_lost (end_unless drains end)) clock x.session) (ap (λ (r : Rules). r.callers) is.rules_are)
          ∙ ap (λ (b : Bool). shutdowns_if e.rules.callers b clock x.session) now.lost
          ∙ ap (shutdowns_if e.rules.callers (loses_window (terms_of e s) s.conclusion.initial packet.body s.past) clock) here.stored_is
          ∙ notified_alike e index clock e.rules.callers (loses_window (terms_of e s) s.conclusion.initial packet.body s.past) t s here.session_is
          ∙ ap (λ (rs : List Reply). map sent rs) (sym (append-nil (lost_notified e clock packet.body s)))
          ∙ ap (λ (rs : List Report). map sent (lost_notified e clock packet.body s ++ map (said_by (time_in s clock) s) rs)) (sym now.silent)
          ∙ sym (ap (λ (o : Option Session). map sent (answered_by e clock packet.body o)) here.found_for);
    }
  where
    inside : at < length old.seats.items
    inside = omega (arith, here.below, is.places_are)

    seat : IsSeat e index clock at p x ss
    seat =
        subst (λ (z : Publisher). IsSeat e index clock at z x ss)
        (ap (λ (b : PublisherBuffers). get_or old.publishers.items (place_of b) p) (sym which_is) ∙ sym p_is)
        (seat_at e index clock old ss at x p is inside there)

    now : PublisherIs drains e clock packet q x y end s
    now = publisher_is drains e clock packet p q x y end s role (λ until some.
        drains_by_shutdown e clock packet.body ss s until (drains_is ∙ some)) took_them ends end_is (seat.seated s here.found_is)

    mine : (o : Publisher) → buffers_of new.publishers.items x o ≡ q
    mine o =
        ap (λ (ps : List Publisher). buffers_of ps x o) turned
        ∙ (ap (λ (b : PublisherBuffers). get_or (set old.publishers.items (place_of which) q) (place_of b) o) (sym which_is)
        ∙ set_here old.publishers.items which q o old.two)

    publishing : IsPublishing ss at s
    publishing = record { found = here.found_is; publishes = rw (here.is_open, role) refl }

    uses : Uses old at which
    uses d = which_is ∙ ap used_buffers (there ∙ get_or_default old.seats.items at x d inside)

    mid : IsTable e index clock new (map (λ u. took_if drains (is_for index peer packet.dest u) e clock packet u) ss)
    mid = table_put (λ u. took_if drains (is_for index peer packet.dest u) e clock packet u) (takes drains e index clock peer packet)
        (takes_marks drains e index clock peer packet) e index clock
        old new ss at x y is alike
        (subst (λ (ps : List Publisher). AreWide e.buffer ps) (sym turned)
        (wide_set e.buffer old.publishers.items which q old.two is.publishers_wide now.wide))
        inside there put
        (λ o. subst (λ (z : Publisher). Becomes (λ u. took_if drains (is_for index peer packet.dest u) e clock packet u) e index clock at z x y ss) (sym
        (mine o))
        (took_becomes drains e index clock q ss peer packet at x y t s here (ap (λ (z : Seat). z.generation) now.seat_is)
        (ap (λ (z : Seat). z.session) now.seat_is) (λ no_one. absurd (let bad : true ≡ false = sym role ∙ no_one in cc))
        (subst (λ (z : Subscriber). subscriber.IsWide e.buffer z) (sym (ap (λ (z : Seat). z.subscriber) now.seat_is)) seat.wide) (now.seated y.subscriber)))
        (λ k u other below found. none_changes drains e index clock peer packet u (here.others k u other below found))
        (λ k d o u other found h. others_stay e index clock old new.publishers.items ss at s which q is publishing uses turned k d o u
        (get_or old.seats.items k d).subscriber other found h)

-- it is a subscriber's
pub subscriber_arrived : (e : Terms) (index clock : ℕ) (peer : Peer) (packet : Packet) (old new : Table) (ss : List Session) (at : ℕ)
    (x y : Seat) (replies : List Datagram) (t : TheSession) (s : Session)
    → IsTable e index clock old ss → x ≡ get_or old.seats.items at x → IsHere e index ss peer packet.dest at x t s
    → publishes s.conclusion.role ≡ false → SubscriberTook clock packet x.subscriber y.subscriber → y.generation ≡ x.generation
    → y.session ≡ stored_after (endings.is_shutdown packet.body) None clock x.session → SubscriberAnswers clock peer packet x.subscriber replies
    → Alike old new → new.publishers ≡ old.publishers → new.seats.items ≡ set old.seats.items at y
    → IsTaken e index clock new replies (arrived e index clock peer packet ss)
subscriber_arrived e index clock peer packet old new ss at x y replies t s is there here role took_them count end answers alike same put =
    record {
      table_is = by_end e index clock peer packet new ss (Some s) None None here.found_for
          (subscriber_goes_on e clock packet.body (buffers_of old.publishers.items x (some_buffers old)) x.subscriber ss s role
          ((seat_at e index clock old ss at x (some_buffers old) is inside there).seated s here.found_is))
          (one (some_buffers old)).endless
          (seat_put (λ u. took_if None (is_for index peer packet.dest u) e clock packet u) (takes None e index clock peer packet)
          (takes_marks None e index clock peer packet) e index clock
          old new ss at x y is alike same inside there put
          (λ p.
          let now = one p in
          took_becomes None e index clock (buffers_of old.publishers.items x p) ss peer packet at x y t s here count now.stored (λ no_one. refl) now.wide
          now.seated)
          (λ k u other below found. none_changes None e index clock peer packet u (here.others k u other below found)));
      replies_are = (one (some_buffers old)).answered
          ∙ ap (λ (rs : List Reply). map sent (rs ++ map (said_by (time_in s clock) s) (answered_at_once packet.body s)))
          (sym (one (some_buffers old)).lost)
          ∙ sym (ap (λ (o : Option Session). map sent (answered_by e clock packet.body o)) here.found_for);
    }
  where
    inside : at < length old.seats.items
    inside = omega (arith, here.below, is.places_are)

    peer_is : s.peer ≡ peer
    peer_is = same_peer_is s.peer peer (for_parts index peer packet.dest s here.for_it).1

    one : (p : Publisher) → SubscriberIs e clock peer packet (buffers_of old.publishers.items x p) x y replies s
    one p = subscriber_is e clock peer packet (buffers_of old.publishers.items x p) x y replies s role peer_is took_them end answers
        ((seat_at e index clock old ss at x p is inside there).seated s here.found_is)

-- the role of a session that is found here
pub stored_role : (e : Terms) (index : ℕ) (ss : List Session) (peer : Peer) (dest at : ℕ) (seat : Seat) (t : TheSession) (s : Session)
    (b : Bool)
    → IsHere e index ss peer dest at seat t s → has_publisher seat ≡ b
    → publishes s.conclusion.role ≡ b
stored_role e index ss peer dest at seat t s b here h =
    ap publishes (sym here.session_is.role_is) ∙ (sym (ap (session_passes (λ (u : TheSession). publishes (role_of u.part))) here.stored_is) ∙ h)

-- a packet that isn't a handshake isn't a conclusion
pub no_conclusion : (kind : Kind) → ((info : Bor (List ℕ)) → kind ≡ kinds.Handshake info → ⊥) → concludes (body_of kind) ≡ None
no_conclusion (kinds.Data number encryption payload) other = refl
no_conclusion (kinds.Handshake info) other = absurd (other info refl)
no_conclusion kinds.KeepAlive other = refl
no_conclusion (kinds.Ack number info) other = refl
no_conclusion (kinds.Nak info) other = refl
no_conclusion kinds.CongestionWarning other = refl
no_conclusion kinds.Shutdown other = refl
no_conclusion (kinds.AckAck number) other = refl
no_conclusion (kinds.DropRequest message first last) other = refl
no_conclusion kinds.PeerError other = refl
no_conclusion kinds.UserDefined other = refl
