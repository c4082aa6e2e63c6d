-- The effect of a call on the buffers and the seat of one session, whatever they represented before.
use Rattle.std.specs.Prelude.{◌≡◌, ℕ, ◌+◌, ◌-◌, ◌%◌, ◌^◌, ◌<◌, ◌≤◌, Bool, true, false, Option, None, Some, List, [], ◌∷◌, length, map}
use Rattle.std.specs.Option.{is_some}
use Rattle.srt_types.specs.declared.shared.Peer.{Peer}
use Rattle.srt_types.specs.declared.shared.Mode.TheVariants.{Buffer}
use Rattle.srt_types.specs.declared.shared.Callers.{Callers}
use Rattle.srt_types.specs.declared.shared.Callers.TheVariants.{Draft, Libsrt}
use Rattle.srt_types.specs.declared.shared.Role.{Role}
use Rattle.srt_types.specs.declared.shared.Role.TheVariants.{Publish, Request}
use Rattle.srt_types.specs.Terms.{Terms}
use Rattle.srt_types.specs.Lift.{stamped_from}
use Rattle.srt_types.specs.Items.{Datagram}
use Rattle.srt_packet.specs.declared.writing.Body.TheVariants.{Shutdown}
use Rattle.srt_packet.specs.declared.writing.Packet.{Packet as WrittenPacket}
use Rattle.srt_packet.specs.Grammar.{Packet}
use Rattle.srt_packet.specs.Text.{text}
use Rattle.srt_sendbuf.specs.Sending.{room}
use Rattle.srt_pub.specs.Calls.{ended}
use Rattle.srt_pub.specs.Heard as to_publisher
use Rattle.srt_pub.specs.Publishing as publishing
use Rattle.srt_pub.specs.Says as publisher_text
use Rattle.srt_pub.specs.Stands as publisher
use Rattle.srt_pub.specs.declared.ends.PubEnd.{PubEnd}
use Rattle.srt_pub.specs.declared.ends.PubEnd.TheVariants as ends
use Rattle.srt_pub.specs.declared.session.Publisher.{Publisher}
use Rattle.srt_sub.specs.Heard as to_subscriber
use Rattle.srt_sub.specs.Says as subscriber_text
use Rattle.srt_sub.specs.Stands as subscriber
use Rattle.srt_sub.specs.Subscribing as subscribing
use Rattle.srt_sub.specs.declared.session.Subscriber.{Subscriber}
use Rattle.srt_route.specs.declared.agreement.Agreement.{Agreement}
use Rattle.srt_route.specs.declared.arrival.Arrival.{Arrival}
use Rattle.srt_route.specs.declared.reply_queue.ReplyQueue.{ReplyQueue}
use Rattle.srt_route.specs.declared.conclusion_reading.Conclusion.{Conclusion}
use Rattle.srt_route.specs.declared.seat.Seat.{Seat}
use Rattle.srt_route.specs.declared.seat.Session.{Session as StoredSession}
use Rattle.srt_route.specs.Sessions.{agreed_terms}
use Rattle.srt_route.specs.Admission.{agreement_of}
use Rattle.srt_route.specs.Buffers.{datagrams_to}
use Rattle.srt_route.specs.Tables.{has_subscriber, hears_recently, stored_after, with_stored}
use Rattle.srt_route.specs.inside.Reports.{Queues}

-- a session begins with this conclusion: the publisher's buffers or those of the seat represent its beginning, and
-- everything else is unchanged
abbrev pub BeginsAs : Role → Terms → (clock stamp : ℕ) → Conclusion → (p q : Publisher) → (seat new : Seat) → Type 0
BeginsAs Publish e clock stamp c p q seat new =
    publisher.StandsFor (agreed_terms e c).publisher c.initial clock stamp c.caller q publishing.opened × (new ≡ seat)
BeginsAs Request e clock stamp c p q seat new =
    subscriber.StandsFor (agreed_terms e c).subscriber c.initial clock c.caller clock new.subscriber subscribing.opened
    × (q ≡ p) × (new.generation ≡ seat.generation) × (new.session ≡ seat.session)

abbrev pub Begins : Terms → (clock stamp : ℕ) → Conclusion → (p q : Publisher) → (seat new : Seat) → Type 0
Begins e clock stamp c p q seat new = BeginsAs c.role e clock stamp c p q seat new

-- the same for all terms under which this was agreed
abbrev pub BeginsUnder : Agreement → Arrival → Conclusion → (p q : Publisher) → (seat new : Seat) → Type 0
BeginsUnder agreement arrival c p q seat new =
    (e : Terms) → agreement ≡ agreement_of e c → e.buffer ≤ 8192
    → publisher.width_of p ≡ e.buffer → subscriber.IsWide e.buffer seat.subscriber
    → Begins e arrival.clock arrival.stamp c p q seat new

-- the same of the publisher's buffers alone, and of the subscriber's
abbrev pub PublisherBegins : Agreement → Arrival → (initial caller : ℕ) → (old new : Publisher) → Type 0
PublisherBegins agreement arrival initial caller old new =
    (e : Terms) (c : Conclusion) → agreement ≡ agreement_of e c → caller ≡ c.caller → publisher.width_of old ≡ e.buffer → e.buffer ≤ 8192
    → publisher.StandsFor (agreed_terms e c).publisher initial arrival.clock arrival.stamp c.caller new publishing.opened

abbrev pub SubscriberBegins : Agreement → (clock : ℕ) → Conclusion → (initial : ℕ) → (old new : Subscriber) → Type 0
SubscriberBegins agreement clock c initial old new =
    (e : Terms) → agreement ≡ agreement_of e c → subscriber.IsWide e.buffer old
    → subscriber.StandsFor (agreed_terms e c).subscriber initial clock c.caller clock new subscribing.opened

-- a publisher's buffers after a packet
abbrev pub PublisherTook : (clock : ℕ) → Packet → (old new : Publisher) → Type 0
PublisherTook clock packet old new =
    (terms : publishing.Terms) (initial opening stamp caller time : ℕ) (m : publishing.Publishing) → clock ≡ opening + time
    → publisher.StandsFor terms initial opening stamp caller old m
    → publisher.StandsFor terms initial opening stamp caller new
    (publishing.took terms time (stamped_from stamp packet.stamp) (to_publisher.heard_from initial packet.body) m)

-- the cause for which the packet ends the publisher's session, if it does
abbrev pub PublisherEndsFor : Packet → Publisher → Option PubEnd → Type 0
PublisherEndsFor packet old end =
    (terms : publishing.Terms) (initial opening stamp caller : ℕ) (m : publishing.Publishing)
    → publisher.StandsFor terms initial opening stamp caller old m
    → end ≡ ended terms initial packet.body m

-- the end of a session by a packet, unless it drains from then on
abbrev pub end_unless : (drains : Option ℕ) → Option PubEnd → Option PubEnd
end_unless None end = end
end_unless (Some until) end = None

-- the publisher's seat after the packet, from which on it drains or not
abbrev pub PublisherEnds : (drains : Option ℕ) → (clock : ℕ) → Packet → Publisher → (seat new : Seat) → Type 0
PublisherEnds drains clock packet old seat new =
    (terms : publishing.Terms) (initial opening stamp caller : ℕ) (m : publishing.Publishing)
    → publisher.StandsFor terms initial opening stamp caller old m
    → new ≡ with_stored (stored_after (is_some (end_unless drains (ended terms initial packet.body m))) drains clock seat.session) seat

-- a subscriber's buffers after a packet
abbrev pub SubscriberTook : (clock : ℕ) → Packet → (old new : Subscriber) → Type 0
SubscriberTook clock packet old new =
    (terms : subscribing.Terms) (initial opening caller last : ℕ) (m : subscribing.Subscribing)
    → subscriber.StandsFor terms initial opening caller last old m → last ≤ clock
    → subscriber.StandsFor terms initial opening caller clock new
    (subscribing.took (clock - opening) (to_subscriber.heard_from initial packet.body) (subscribing.expired terms (clock - opening) m))

-- the datagrams with which the subscriber answers at once
abbrev pub SubscriberAnswers : (clock : ℕ) → Peer → Packet → Subscriber → List Datagram → Type 0
SubscriberAnswers clock peer packet old replies =
    (terms : subscribing.Terms) (initial opening caller last : ℕ) (m : subscribing.Subscribing)
    → subscriber.StandsFor terms initial opening caller last old m → last ≤ clock
    → replies
    ≡ datagrams_to peer
    (map (subscriber_text.says caller initial (clock - opening)) (subscribing.answers (to_subscriber.heard_from initial packet.body)))

-- the room in a subscriber's send buffer, in payloads
abbrev pub IsRoomOf : Subscriber → Option ℕ → Type 0
IsRoomOf x places =
    (terms : subscribing.Terms) (initial opening caller last : ℕ) (m : subscribing.Subscribing)
    → subscriber.StandsFor terms initial opening caller last x m → places ≡ Some (room terms.width m.sending)

-- a subscriber was fed a payload; in buffer mode only if it has room
abbrev pub SubscriberFed : (clock : ℕ) → List ℕ → (old new : Subscriber) → Type 0
SubscriberFed clock payload old new =
    (terms : subscribing.Terms) (initial opening caller : ℕ) (m : subscribing.Subscribing)
    → subscriber.StandsFor terms initial opening caller clock old m → 0 < length payload → (terms.mode ≡ Buffer → 0 < room terms.width m.sending)
    → subscriber.StandsFor terms initial opening caller clock new
    (subscribing.fed terms (clock - opening) payload (subscribing.expired terms (clock - opening) m))

-- a standby's buffers after it delivered to nobody
abbrev pub PublisherStoodBy : (clock : ℕ) → (old new : Publisher) → Type 0
PublisherStoodBy clock old new =
    (terms : publishing.Terms) (initial opening stamp caller time : ℕ) (m : publishing.Publishing) → clock ≡ opening + time
    → publisher.StandsFor terms initial opening stamp caller old m
    → publisher.StandsFor terms initial opening stamp caller new (publishing.delivered terms time None m)

-- a publisher's buffers after its output at the end of an event
abbrev pub PublisherReported : (clock : ℕ) → (old new : Publisher) → Type 0
PublisherReported clock old new =
    (terms : publishing.Terms) (initial opening stamp caller time : ℕ) (m : publishing.Publishing) → clock ≡ opening + time
    → publisher.StandsFor terms initial opening stamp caller old m
    → publisher.StandsFor terms initial opening stamp caller new (publishing.reported terms time m)

-- that output was queued
abbrev pub PublisherSaid : (clock : ℕ) → Peer → Publisher → (before after : ReplyQueue) → Type 0
PublisherSaid clock peer old before after =
    (terms : publishing.Terms) (initial opening stamp caller time : ℕ) (m : publishing.Publishing) → clock ≡ opening + time
    → publisher.StandsFor terms initial opening stamp caller old m
    → Queues before after (datagrams_to peer (map (publisher_text.says caller initial time) (publishing.reports terms time m)))

-- the same of a subscriber that has already dropped what is too late; `recent` is whether its peer was heard less than a
-- second ago
abbrev pub SubscriberReported : (clock : ℕ) → (recent : Bool) → (old new : Subscriber) → Type 0
SubscriberReported clock recent old new =
    (terms : subscribing.Terms) (initial opening caller : ℕ) (m : subscribing.Subscribing)
    → subscriber.StandsFor terms initial opening caller clock old m → subscribing.expired terms (clock - opening) m ≡ m
    → subscriber.StandsFor terms initial opening caller clock new (subscribing.reported terms (clock - opening) recent m)

abbrev pub SubscriberSaid : (clock : ℕ) → (recent : Bool) → Peer → Subscriber → (before after : ReplyQueue) → Type 0
SubscriberSaid clock recent peer old before after =
    (terms : subscribing.Terms) (initial opening caller : ℕ) (m : subscribing.Subscribing)
    → subscriber.StandsFor terms initial opening caller clock old m → subscribing.expired terms (clock - opening) m ≡ m
    → Queues before after
    (datagrams_to peer (map (subscriber_text.says caller initial (clock - opening)) (subscribing.reports terms (clock - opening) recent m)))

-- the same of the subscriber in this seat, if one is open
abbrev pub SeatSaid : (clock : ℕ) → Seat → (before after : ReplyQueue) → Type 0
SeatSaid clock seat before after =
    has_subscriber seat ≡ true → (t : StoredSession) → seat.session ≡ Some t
    → SubscriberSaid clock (hears_recently clock seat) t.peer seat.subscriber before after

-- a stored session's SHUTDOWN (section 3.2.7)
abbrev pub shutdown_of : (clock : ℕ) → StoredSession → WrittenPacket
shutdown_of clock t = record { stamp = (clock - t.opened) % 2 ^ 32; dest = t.caller; body = Shutdown }

abbrev pub shutdowns_to : (clock : ℕ) → Option StoredSession → List Datagram
shutdowns_to clock None = []
shutdowns_to clock (Some t) = datagrams_to t.peer (text (shutdown_of clock t) ∷ [])

-- the same if it is sent: on a route for libsrt callers, to a session that ends by silence or by a lost window
abbrev pub shutdowns_if : Callers → (ends : Bool) → (clock : ℕ) → Option StoredSession → List Datagram
shutdowns_if Draft ends clock o = []
shutdowns_if Libsrt true clock o = shutdowns_to clock o
shutdowns_if Libsrt false clock o = []

-- whether a publisher's session ended by a lost window
abbrev pub is_lost : Option PubEnd → Bool
is_lost None = false
is_lost (Some ends.Shutdown) = false
is_lost (Some ends.WindowLost) = true
