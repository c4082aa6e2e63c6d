-- The end of a file, in terms of a route's table.
use Rattle.std.specs.Prelude.{◌≡◌, ℕ, ◌-◌, ◌++◌, Bool, true, false, Option, None, Some, List, [], find, map}
use Rattle.srt_types.specs.declared.shared.Role.TheVariants.{Request}
use Rattle.srt_types.specs.Terms.{Terms}
use Rattle.srt_pub.specs.declared.ends.PubEnd.{PubEnd}
use Rattle.srt_pub.specs.declared.ends.PubEnd.TheVariants as ends
use Rattle.srt_pub.specs.declared.session.Publisher.{Publisher}
use Rattle.srt_session_keys.specs.Subscriber.{Subscriber as Keys}
use Rattle.srt_sub.specs.Says as subscriber_text
use Rattle.srt_sub.specs.Stands as subscriber
use Rattle.srt_sub.specs.Subscribing as subscribing
use Rattle.srt_sub.specs.declared.session.Subscriber.{Subscriber}
use Rattle.srt_route.specs.declared.encrypted_transmit.KeyReceiver.{KeyReceiver}
use Rattle.srt_route.specs.declared.reply_queue.ReplyQueue.{ReplyQueue}
use Rattle.srt_route.specs.declared.route_keys.RouteKeys.{RouteKeys as TheRouteKeys}
use Rattle.srt_route.specs.declared.seat.Session.{Session as TheSession}
use Rattle.srt_route.specs.declared.seat.Seat.{Seat}
use Rattle.srt_route.specs.declared.table.Table.{Table}
use Rattle.srt_route.specs.Sessions.{Session, is_open_in}
use Rattle.srt_route.specs.EncryptedOutput.{announcement_if, is_announced, keyed_text, keys_reported, outputs_with}
use Rattle.srt_route.specs.Past.{Subscribes, reported_under}
use Rattle.srt_route.specs.RouteKeys.{RouteKeys, SlotKeys, own_in, own_keys, secures}
use Rattle.srt_route.specs.StoredKeys.{AreKeys}
use Rattle.srt_route.specs.Buffers.{datagrams_to}
use Rattle.srt_route.specs.Route.{ended, has_whole_file, is_file_over, keys_finished, keys_said, sent, served}
use Rattle.srt_route.specs.Ends.{EndsAre, file_ending, kept_of}
use Rattle.srt_route.specs.Tables.{IsSeat, IsTable, has_subscriber, hears_recently, with_stored}
use Rattle.srt_route.specs.declared.ledger.Ledger.{Ledger}
use Rattle.srt_route.specs.inside.Calls.{TableBecomes, Transmits}
use Rattle.srt_route.specs.inside.Delivery.{after_subscriber, changed}
use Rattle.srt_route.specs.inside.OneSession.{SeatSaid, SubscriberReported, shutdowns_to}
use Rattle.srt_route.specs.inside.Reports.{Queues}

-- whether a packet ended a publisher's session, and if so whether by its own SHUTDOWN
abbrev pub shutdown_end : Option PubEnd → Option Bool
shutdown_end None = None
shutdown_end (Some ends.Shutdown) = Some true
shutdown_end (Some ends.WindowLost) = Some false

-- whether the open session of a slot has the whole file
abbrev pub whole_in : (over : Bool) → Option Session → Bool
whole_in over None = false
whole_in over (Some s) = has_whole_file over s

-- the same of a seat, for all sessions that it can represent
abbrev pub HasWhole : (over : Bool) → Seat → (whole : Bool) → Type 0
HasWhole over seat whole =
    (e : Terms) (index clock at : ℕ) (p : Publisher) (sessions : List Session)
    → IsSeat e index clock at p seat sessions → whole ≡ whole_in over (find (is_open_in at) sessions)

-- whether the file is complete
abbrev pub IsOver : Table → (over : Bool) → Type 0
IsOver table over = (e : Terms) (index clock : ℕ) (sessions : List Session) → IsTable e index clock table sessions → over ≡ is_file_over e sessions

-- a session after step 6: one that has the whole file ends; any other subscriber's has sent its packets
abbrev pub finished_subscriber_at : (whole : Bool) → (keys : Option Keys) → Terms → (clock : ℕ) → Session → Session
finished_subscriber_at true keys e clock s = ended s
finished_subscriber_at false keys e clock s = changed (after_subscriber keys e clock) s

abbrev pub finished_subscriber : (own : ℕ → Option Keys) → Terms → (clock : ℕ) → (over : Bool) → Session → Session
finished_subscriber own e clock over s = finished_subscriber_at (has_whole_file over s) (own s.slot) e clock s

-- without keys
abbrev pub none_own : (slot : ℕ) → Option Keys
none_own slot = None

-- a seat whose session ends with its SHUTDOWN
pub record SeatEnds (clock : ℕ) (seat new : Seat) (before after : ReplyQueue) : Type 0 where
  pub seat_is : new ≡ with_stored None seat
  pub said : Queues before after (shutdowns_to clock seat.session)

-- what a subscriber's session sends, as bytes
abbrev pub texts_under : (keys : Option Keys) → subscribing.Terms → (caller initial time : ℕ) → (recent : Bool) → subscribing.Subscribing → List (List ℕ)
texts_under None terms caller initial time recent m = map (subscriber_text.says caller initial time) (subscribing.reports terms time recent m)
texts_under (Some keys) terms caller initial time recent m = map keyed_text (outputs_with keys terms caller initial time recent m)

-- the KMREQ that a session is sent before its SHUTDOWN, if one is due, as bytes
abbrev pub ending_texts : (keys : Option Keys) → (caller time : ℕ) → subscribing.Subscribing → List (List ℕ)
ending_texts None caller time m = []
ending_texts (Some keys) caller time m = map keyed_text (announcement_if (is_announced keys time m) (keys_reported time m keys) caller time)

-- that KMREQ was queued
pub record IsAnnounced (to : KeyReceiver) (earlier later : SlotKeys) (before after : ReplyQueue) (m : subscribing.Subscribing) : Type 0 where
  pub keys_are : later ≡ keys_said to.time (Subscribes m) earlier
  pub said : Queues before after (datagrams_to to.peer (ending_texts (own_keys earlier) to.caller to.time m))

abbrev pub AnnouncesAs : KeyReceiver → (earlier later : SlotKeys) → Subscriber → (before after : ReplyQueue) → Type 0
AnnouncesAs to earlier later x before after =
    (terms : subscribing.Terms) (initial opening : ℕ) (m : subscribing.Subscribing)
    → subscriber.StandsFor terms initial opening to.caller to.clock x m → IsAnnounced to earlier later before after m

-- a subscriber's session, which may have keys, is at the end of an event
pub record IsTransmitted (to : KeyReceiver) (earlier later : SlotKeys) (new : Subscriber) (before after : ReplyQueue) (terms : subscribing.Terms)
    (initial opening : ℕ) (m : subscribing.Subscribing) : Type 0 where
  pub keys_are : later ≡ keys_said to.time (Subscribes m) earlier
  pub stands : subscriber.StandsFor terms initial opening to.caller to.clock new (reported_under (own_keys earlier) terms to.time to.recent m)
  pub said : Queues before after (datagrams_to to.peer (texts_under (own_keys earlier) terms to.caller initial to.time to.recent m))

abbrev pub TransmitsAs : KeyReceiver → (earlier later : SlotKeys) → (old new : Subscriber) → (before after : ReplyQueue) → Type 0
TransmitsAs to earlier later old new before after =
    (terms : subscribing.Terms) (initial opening : ℕ) (m : subscribing.Subscribing)
    → subscriber.StandsFor terms initial opening to.caller to.clock old m → subscribing.expired terms (to.clock - opening) m ≡ m
    → to.time ≡ to.clock - opening
    → IsTransmitted to earlier later new before after terms initial opening m

-- the peer of a stored session
abbrev pub receiver_of : (clock : ℕ) → (recent : Bool) → TheSession → KeyReceiver
receiver_of clock recent t = record { peer = t.peer; caller = t.caller; time = clock - t.opened; clock = clock; recent = recent }

-- a seat whose session ends with its SHUTDOWN, after the KMREQ of the next key of its slot, if one is due
pub record IsEndedWith (clock : ℕ) (earlier later : SlotKeys) (seat : Seat) (before after : ReplyQueue) (t : TheSession) (m : subscribing.Subscribing)
    : Type 0 where
  pub keys_are : later ≡ keys_said (clock - t.opened) (Subscribes m) earlier
  pub said : Queues before after
      (datagrams_to t.peer (ending_texts (own_keys earlier) t.caller (clock - t.opened) m) ++ shutdowns_to clock seat.session)

pub record SeatEndsWith (clock : ℕ) (earlier later : SlotKeys) (seat new : Seat) (before after : ReplyQueue) : Type 0 where
  pub seat_is : new ≡ with_stored None seat
  pub tells : (t : TheSession) → seat.session ≡ Some t → (terms : subscribing.Terms) (initial opening : ℕ) (m : subscribing.Subscribing)
      → subscriber.StandsFor terms initial opening t.caller clock seat.subscriber m → IsEndedWith clock earlier later seat before after t m

-- a seat whose subscriber, if one is open there, has sent its packets under the keys of its slot
pub record SeatServedWith (clock : ℕ) (earlier later : SlotKeys) (seat new : Seat) (before after : ReplyQueue) : Type 0 where
  pub generation : new.generation ≡ seat.generation
  pub session : new.session ≡ seat.session
  pub none : has_subscriber seat ≡ false → new.subscriber ≡ seat.subscriber
  pub silent : has_subscriber seat ≡ false → Queues before after []
  pub unchanged : has_subscriber seat ≡ false → later ≡ earlier
  pub transmits : has_subscriber seat ≡ true → (t : TheSession) → seat.session ≡ Some t
      → TransmitsAs (receiver_of clock (hears_recently clock seat) t) earlier later seat.subscriber new.subscriber before after

-- a seat whose subscriber, if one is open there, has sent its packets
pub record SeatServed (clock : ℕ) (seat new : Seat) (before after : ReplyQueue) : Type 0 where
  pub generation : new.generation ≡ seat.generation
  pub session : new.session ≡ seat.session
  pub none : has_subscriber seat ≡ false → new.subscriber ≡ seat.subscriber
  pub silent : has_subscriber seat ≡ false → Queues before after []
  pub stands : has_subscriber seat ≡ true → SubscriberReported clock (hears_recently clock seat) seat.subscriber new.subscriber
  pub said : SeatSaid clock seat before after

-- step 6 without keys, for all sessions that the table represents: the sessions after it, the queued packets, and the recorded
-- ends
abbrev pub FinishesInClear : (clock : ℕ) → (old new : Table) → Type 0
FinishesInClear clock old new = TableBecomes clock old new (λ e sessions. map (finished_subscriber none_own e clock (is_file_over e sessions)) sessions)

abbrev pub ServesInClear : (clock : ℕ) → Table → (before after : ReplyQueue) → Type 0
ServesInClear clock table before after = Transmits clock table before after (λ e sessions. served none_own e clock (is_file_over e sessions) sessions)

-- the same with the keys that the route has then, and the keys after it
pub record IsServed (e : Terms) (index clock : ℕ) (keys : RouteKeys) (sessions : List Session) (new : Table) (later : TheRouteKeys)
    (before after : ReplyQueue) : Type 0 where
  pub table_is : IsTable e index clock new (map (finished_subscriber (own_in e keys) e clock (is_file_over e sessions)) sessions)
  pub keys_are : AreKeys e later (keys_finished e clock sessions keys)
  pub said : Queues before after (map sent (served (own_in e keys) e clock (is_file_over e sessions) sessions))

abbrev pub ServesSubscribers : (clock : ℕ) → (old new : Table) → (earlier later : TheRouteKeys) → (before after : ReplyQueue) → Type 0
ServesSubscribers clock old new earlier later before after =
    (e : Terms) (index : ℕ) (sessions : List Session) (keys : RouteKeys)
    → IsTable e index clock old sessions → AreKeys e earlier keys → IsServed e index clock keys sessions new later before after

-- the same of a route whose subscribers have keys
abbrev pub ServesWithKeys : (clock : ℕ) → (old new : Table) → (earlier later : TheRouteKeys) → (before after : ReplyQueue) → Type 0
ServesWithKeys clock old new earlier later before after =
    (e : Terms) (index : ℕ) (sessions : List Session) (keys : RouteKeys)
    → IsTable e index clock old sessions → AreKeys e earlier keys → secures e Request ≡ true
    → IsServed e index clock keys sessions new later before after

abbrev pub EndsFiles : (clock : ℕ) → Table → (old new : Ledger) → Type 0
EndsFiles clock table old new =
    (e : Terms) (index : ℕ) (sessions : List Session)
    → IsTable e index clock table sessions
    → EndsAre e index (file_ending (is_file_over e sessions)) clock sessions (kept_of old) (kept_of new)
