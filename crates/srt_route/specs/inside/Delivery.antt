-- The steps of a delivery and of an event's output: payload by payload, and session by session.
use Rattle.std.specs.Prelude.{◌≡◌, ℕ, ◌<◌, ◌≤◌, Bool, true, false, Option, None, Some, List, [], ◌∷◌, map, find, length, slice_index_or}
use Rattle.std.specs.Prelude.{unwrap_or, ⊤, ◌==◌, if◌then◌else◌}
use Rattle.srt_types.specs.declared.shared.Mode.TheVariants.{Buffer}
use Rattle.srt_types.specs.Terms.{Terms}
use Rattle.srt_recvbuf.specs.Receiving.{Arrival}
use Rattle.srt_sendbuf.specs.Sending.{room}
use Rattle.srt_pub.specs.Calls.{next_delivery, after_delivery}
use Rattle.srt_pub.specs.Publishing as publisher
use Rattle.srt_pub.specs.Stands as buffers
use Rattle.srt_pub.specs.declared.session.Publisher.{Publisher}
use Rattle.srt_sub.specs.Subscribing as subscriber
use Rattle.srt_session_keys.specs.Subscriber.{Subscriber as Keys}
use Rattle.srt_route.specs.Past.{Past, Publishes, Subscribes, Agreed, least, reported_if, reported_under}
use Rattle.srt_route.specs.Sessions.{Session, is_draining, is_recent, terms_of, is_publisher, is_open_in, time_in, payloads}
use Rattle.srt_route.specs.Route.{Reply, packets_at, least_room}
use Rattle.srt_route.specs.declared.publisher_buffers.PublisherBuffers.{PublisherBuffers}
use Rattle.srt_route.specs.declared.seat.Seat.{Seat}
use Rattle.srt_route.specs.declared.table.Table.{Table}
use Rattle.srt_route.specs.inside.OneSession.{SubscriberFed}
use Rattle.srt_route.specs.Tables.{IsTable, Uses, has_subscriber}

-- a session, with another past if it is open
abbrev pub changed : (Session → Past) → Session → Session
changed past s = if s.is_open then record s { past = past s } else s

-- a past amid a delivery: that of the publisher in slot `at` is q, and a subscriber was fed these payloads
abbrev pub amid_past : Agreed → (time : ℕ) → (mine : Bool) → publisher.Publishing → List (List ℕ) → Past → Past
amid_past terms time mine q payloads (Publishes p) = Publishes (if mine then q else p)
amid_past terms time mine q payloads (Subscribes m) = Subscribes (subscriber.fed_all terms.subscriber time payloads m)

abbrev pub amid : Terms → (clock at : ℕ) → publisher.Publishing → List (List ℕ) → Session → Past
amid e clock at q payloads s = amid_past (terms_of e s) (time_in s clock) (s.slot == at) q payloads s.past

-- a past after one payload: a subscriber is fed it, and a publisher stays
abbrev pub fed_past : Agreed → (time : ℕ) → List ℕ → Past → Past
fed_past terms time payload (Publishes p) = Publishes p
fed_past terms time payload (Subscribes m) = Subscribes (subscriber.fed terms.subscriber time payload m)

abbrev pub fed : Terms → (clock : ℕ) → List ℕ → Session → Past
fed e clock payload s = fed_past (terms_of e s) (time_in s clock) payload s.past

-- the open session of slot `at` publishes, and its past is q
pub record IsPublisherAt (sessions : List Session) (at : ℕ) (s : Session) (q : publisher.Publishing) : Type 0 where
  pub found : find (is_open_in at) sessions ≡ Some s
  pub publishes : is_publisher s ≡ true
  pub past_is : s.past ≡ Publishes q

-- a publisher's buffers represent this past of a session
abbrev pub PublisherStands : Terms → Publisher → Session → publisher.Publishing → Type 0
PublisherStands e p s q =
    buffers.StandsFor (terms_of e s).publisher s.conclusion.initial s.opening s.stamp s.conclusion.caller p q

-- the publisher of slot `at` in a table that represents these sessions: its session s, its past q, and its buffers
pub record IsPublisherOf (e : Terms) (index clock : ℕ) (t : Table) (sessions : List Session) (at : ℕ) (s : Session) (q : publisher.Publishing)
    (which : PublisherBuffers)
    : Type 0 where
  pub body : IsTable e index clock t sessions
  pub here : IsPublisherAt sessions at s q
  pub uses : Uses t at which

-- in buffer mode the subscriber's send buffer has room for this number of payloads
abbrev pub HasRoom : Terms → (places : ℕ) → Past → Type 0
HasRoom e places (Publishes p) = ⊤
HasRoom e places (Subscribes m) = e.mode ≡ Buffer → places ≤ room e.buffer m.sending

abbrev pub HaveRoom : Terms → (places : ℕ) → List Session → Type 0
HaveRoom e places sessions = (at : ℕ) (s : Session) → find (is_open_in at) sessions ≡ Some s → HasRoom e places s.past

-- the smaller of a slot's room and the smallest room so far
abbrev pub lesser : Option ℕ → Option ℕ → Option ℕ
lesser found None = found
lesser found (Some room) = Some (least found room)

-- a seat after its subscriber, if one is open, was fed this payload
pub record IsFedSeat (clock : ℕ) (payload : List ℕ) (old new : Seat) : Type 0 where
  pub generation_is : new.generation ≡ old.generation
  pub session_is : new.session ≡ old.session
  pub stays : has_subscriber old ≡ false → new.subscriber ≡ old.subscriber
  pub fed : has_subscriber old ≡ true → SubscriberFed clock payload old.subscriber new.subscriber

-- the same of all seats
pub record AreFed (clock : ℕ) (payload : List ℕ) (old new : List Seat) : Type 0 where
  pub same_length : length new ≡ length old
  pub fed : (at : ℕ) (d : Seat) → at < length old → IsFedSeat clock payload (slice_index_or old at d) (slice_index_or new at d)

-- the seats after a delivery: fed with its payload, which isn't empty, or unchanged if there is none
abbrev pub AreGiven : (clock : ℕ) → Option Arrival → (old new : List Seat) → Type 0
AreGiven clock None old new = new ≡ old
AreGiven clock (Some a) old new = (0 < length a.payload) × AreFed clock a.payload old new

-- the sessions after the next payload of the publisher in slot `at`, if there is one
abbrev pub turned : Terms → (clock at : ℕ) → Option Arrival → publisher.Publishing → List Session → List Session
turned e clock at None q sessions = sessions
turned e clock at (Some a) q sessions = map (changed (amid e clock at q (a.payload ∷ []))) sessions

-- the sessions after all payloads of the publisher s in slot `at`, whose past is q
abbrev pub passed_on : Terms → (clock at : ℕ) → (room : Option ℕ) → Session → publisher.Publishing → List Session → List Session
passed_on e clock at room s q sessions =
    map (changed (amid e clock at (publisher.delivered (terms_of e s).publisher (time_in s clock) room q) (payloads e clock room s))) sessions

abbrev pub is_given : Option Arrival → Bool
is_given None = false
is_given (Some a) = true

-- the pasts after the publishers' output, and after the subscribers' output
abbrev pub publisher_reported : (draining : Bool) → Agreed → (time : ℕ) → Past → Past
publisher_reported draining terms time (Publishes p) = Publishes (reported_if draining terms.publisher time p)
publisher_reported draining terms time (Subscribes m) = Subscribes m

abbrev pub after_publisher : Terms → (clock : ℕ) → Session → Past
after_publisher e clock s = publisher_reported (is_draining s) (terms_of e s) (time_in s clock) s.past

-- the same after the output of the publisher in slot `at`
abbrev pub reported_in : (draining : Bool) → Agreed → (time : ℕ) → (mine : Bool) → Past → Past
reported_in draining terms time mine past = if mine then publisher_reported draining terms time past else past

abbrev pub after_publisher_in : Terms → (clock at : ℕ) → Session → Past
after_publisher_in e clock at s = reported_in (is_draining s) (terms_of e s) (time_in s clock) (s.slot == at) s.past

-- the packets that the open session of slot `at` sends if it passes the test
abbrev pub packets_of : Terms → (clock : ℕ) → (Session → Bool) → Option Session → List Reply
packets_of e clock test None = []
packets_of e clock test (Some s) = packets_at e (test s) clock s

abbrev pub packets_in : Terms → (clock : ℕ) → (Session → Bool) → (at : ℕ) → List Session → List Reply
packets_in e clock test at sessions = packets_of e clock test (find (is_open_in at) sessions)

abbrev pub subscriber_reported : (keys : Option Keys) → Agreed → (time : ℕ) → (recent : Bool) → Past → Past
subscriber_reported keys terms time recent (Publishes p) = Publishes p
subscriber_reported keys terms time recent (Subscribes m) = Subscribes (reported_under keys terms.subscriber time recent m)

abbrev pub after_subscriber : (keys : Option Keys) → Terms → (clock : ℕ) → Session → Past
after_subscriber keys e clock s = subscriber_reported keys (terms_of e s) (time_in s clock) (is_recent s clock) s.past

-- the calls of a delivery, for all sessions that the table represents; s is the publisher of slot `at`, which uses
-- these buffers, and its past is q

-- whether that publisher has a next payload
abbrev pub GivesNext : (which : PublisherBuffers) → (clock room : ℕ) → Table → (given : Bool) → Type 0
GivesNext which clock room old given =
    (e : Terms) (index : ℕ) (sessions : List Session) (at : ℕ) (s : Session) (q : publisher.Publishing)
    → IsPublisherOf e index clock old sessions at s q which
    → given ≡ is_given (next_delivery (terms_of e s).publisher (time_in s clock) room q)

-- the table after its next payload
abbrev pub turned_by : Terms → (clock room at : ℕ) → Session → publisher.Publishing → List Session → List Session
turned_by e clock room at s q sessions =
    turned e clock at (next_delivery (terms_of e s).publisher (time_in s clock) room q)
    (after_delivery (terms_of e s).publisher (next_delivery (terms_of e s).publisher (time_in s clock) room q) q) sessions

abbrev pub TurnsTo : (which : PublisherBuffers) → (clock room : ℕ) → (old new : Table) → Type 0
TurnsTo which clock room old new =
    (e : Terms) (index : ℕ) (sessions : List Session) (at : ℕ) (s : Session) (q : publisher.Publishing)
    → IsPublisherOf e index clock old sessions at s q which → HaveRoom e room sessions
    → IsTable e index clock new (turned_by e clock room at s q sessions)

-- in buffer mode this is the room of all open subscribers, 0 without one; in live mode, where the room is ignored, any
-- number
abbrev pub IsRoomOfAll : Table → (room : ℕ) → Type 0
IsRoomOfAll t room =
    (e : Terms) (index clock : ℕ) (sessions : List Session)
    → IsTable e index clock t sessions → e.mode ≡ Buffer → room ≡ unwrap_or (least_room e sessions) 0

-- the table after all its payloads
abbrev pub PassesOn : (which : PublisherBuffers) → (clock room : ℕ) → (old new : Table) → Type 0
PassesOn which clock room old new =
    (e : Terms) (index : ℕ) (sessions : List Session) (at : ℕ) (s : Session) (q : publisher.Publishing)
    → IsPublisherOf e index clock old sessions at s q which
    → (e.mode ≡ Buffer → room ≡ unwrap_or (least_room e sessions) 0)
    → IsTable e index clock new (passed_on e clock at (least_room e sessions) s q sessions)
