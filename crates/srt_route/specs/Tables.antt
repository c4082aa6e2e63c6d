-- The sessions that a route's table represents.
use Rattle.std.specs.Prelude.{◌≡◌, ℕ, ◌-◌, ◌%◌, ◌^◌, ◌<◌, Bool, true, false, Option, None, Some, List, [], ◌∷◌, map, length, find}
use Rattle.std.specs.Prelude.{slice_index_or, option_map, not, ◌==◌, ◌&&◌, ◌||◌, if◌then◌else◌, ⊤}
use Rattle.std.specs.Option.{is_some, option_to_list}
use Rattle.srt_types.specs.declared.shared.Peer.{Peer}
use Rattle.srt_types.specs.declared.shared.Mode.{Mode}
use Rattle.srt_types.specs.Access.{is_same_site}
use Rattle.srt_types.specs.Terms.{Terms}
use Rattle.srt_types.specs.Items.{Datagram}
use Rattle.srt_route.specs.declared.replies.Reply.{Reply as TheReply}
use Rattle.srt_types.specs.Entries.{in_limits}
use Rattle.srt_pub.specs.Stands as publisher
use Rattle.srt_pub.specs.declared.session.Publisher.{Publisher}
use Rattle.srt_sub.specs.Stands as subscriber
use Rattle.srt_route.specs.declared.seat.Session.{Session as TheSession}
use Rattle.srt_route.specs.declared.seat.Seat.{Seat}
use Rattle.srt_route.specs.declared.seat.Sort.{Sort}
use Rattle.srt_route.specs.declared.seat.Sort.TheVariants as sorts
use Rattle.srt_route.specs.declared.table.Table.{Table}
use Rattle.srt_route.specs.Written.{written}
use Rattle.srt_route.specs.Sessions.{Session, is_same_peer, session_id, answer_of, publishes, is_publisher, active, is_open_in, generation_of}
use Rattle.srt_route.specs.Sessions.{is_over_at, is_recent_at, is_silent_at, renewed}
use Rattle.srt_route.specs.Route.{Taken, Answers, is_of, sent}
use Rattle.srt_session_keys.specs.Subscriber.{Subscriber as Keys}
use Rattle.srt_route.specs.GivingUp.{is_unconfirmed}
use Rattle.srt_route.specs.Buffers.{IsSeated}
use Rattle.srt_route.specs.declared.publisher_buffers.PublisherBuffers.{PublisherBuffers}
use Rattle.srt_route.specs.declared.publisher_buffers.PublisherBuffers.TheVariants.{First}
use Rattle.srt_route.specs.Seats.{has_publisher, session_passes}
use Rattle.srt_route.specs.Parts.{RecordsEnd, buffers_used, is_given_up, part_after, part_extended, part_given_up, part_with_end, role_of, until_of}
use Rattle.srt_route.specs.PublisherBuffers.{place_of, is_same}

-- the stored session is this one; its end and its past aren't stored in it, nor the end of a file in a publisher's
pub record IsSession (e : Terms) (index : ℕ) (t : TheSession) (s : Session) : Type 0 where
  pub peer_is : t.peer ≡ s.peer
  pub caller_is : t.caller ≡ s.conclusion.caller
  pub id_is : t.id ≡ session_id index s
  pub role_is : (role_of t.part) ≡ s.conclusion.role
  pub opened_is : t.opened ≡ s.opening
  pub heard_is : t.heard ≡ s.heard
  pub drains_is : (until_of t.part) ≡ s.drains
  pub file_is : RecordsEnd t.part s.file_ended
  pub given_up_is : is_given_up t.part ≡ s.is_given_up
  pub answer_is : t.answer ≡ answer_of e index s

abbrev pub IsStored : Terms → (index : ℕ) → Option TheSession → Option Session → Type 0
IsStored e index None None = ⊤
IsStored e index (Some t) (Some s) = IsSession e index t s
IsStored e index None (Some s) = ⊥
IsStored e index (Some t) None = ⊥

-- which of the route's two publisher buffers a stored session uses, and which a seat's session; the first if none is
-- open
abbrev pub buffers_by : Option TheSession → PublisherBuffers
buffers_by None = First
buffers_by (Some t) = buffers_used t.part

abbrev pub used_buffers : Seat → PublisherBuffers
used_buffers seat = buffers_by seat.session

-- the publisher buffers that a seat's session uses, from the route's two
abbrev pub buffers_of : List Publisher → Seat → (other : Publisher) → Publisher
buffers_of publishers seat other = slice_index_or publishers (place_of (used_buffers seat)) other

-- a seat represents its slot: its session is the slot's open one, its buffers have the route's width, and its
-- generation is the number of sessions that were opened in it, modulo 2^16
pub record IsSeat (e : Terms) (index clock at : ℕ) (p : Publisher) (seat : Seat) (sessions : List Session) : Type 0 where
  pub session_is : IsStored e index seat.session (find (is_open_in at) sessions)
  pub count_is : seat.generation ≡ generation_of sessions at % 65536
  pub wide : subscriber.IsWide e.buffer seat.subscriber
  pub seated : (s : Session) → find (is_open_in at) sessions ≡ Some s → IsSeated e clock p seat.subscriber s

abbrev pub AreSeats : Terms → (index clock : ℕ) → List Publisher → List Seat → List Session → Type 0
AreSeats e index clock publishers seats sessions =
    (at : ℕ) (d : Seat) (p : Publisher) → at < length seats
    → IsSeat e index clock at (buffers_of publishers (slice_index_or seats at d) p) (slice_index_or seats at d) sessions

-- an open session has a slot below `places`, and no older session is open in that slot or of the same caller
pub record IsAlone (places : ℕ) (s : Session) (older : List Session) : Type 0 where
  pub inside : s.slot < places
  pub slot_alone : find (is_open_in s.slot) older ≡ None
  pub caller_alone : find (is_of s.peer s.conclusion.caller) older ≡ None

abbrev pub AreAlone : (places : ℕ) → List Session → Type 0
AreAlone places [] = ⊤
AreAlone places (s ∷ older) = (s.is_open ≡ true → IsAlone places s older) × AreAlone places older

-- session `s` is open in slot `at` and publishes
pub record IsPublishing (sessions : List Session) (at : ℕ) (s : Session) : Type 0 where
  pub found : find (is_open_in at) sessions ≡ Some s
  pub publishes : is_publisher s ≡ true

-- open publishers use different buffers, and one that uses the leading ones is active; one that is open alone may use
-- either
pub record ArePublishers (leading : PublisherBuffers) (seats : List Seat) (sessions : List Session) : Type 0 where
  pub apart : (at k : ℕ) (d : Seat) (s t : Session) → IsPublishing sessions at s → IsPublishing sessions k t
      → used_buffers (slice_index_or seats at d) ≡ used_buffers (slice_index_or seats k d) → at ≡ k
  pub leading_is_active : (at : ℕ) (d : Seat) (s : Session) → IsPublishing sessions at s
      → used_buffers (slice_index_or seats at d) ≡ leading → active sessions ≡ Some s

-- the session of slot `at` uses these publisher buffers
abbrev pub Uses : Table → (at : ℕ) → (which : PublisherBuffers) → Type 0
Uses t at which = (d : Seat) → which ≡ used_buffers (slice_index_or t.seats.items at d)

-- the seats' sessions use the same publisher buffers as before
abbrev pub UseSameBuffers : (old new : List Seat) → Type 0
UseSameBuffers old new = (at : ℕ) (d : Seat) → used_buffers (slice_index_or new at d) ≡ used_buffers (slice_index_or old at d)

abbrev pub UseTheSame : (old new : Table) → Type 0
UseTheSame old new = UseSameBuffers old.seats.items new.seats.items

-- both publisher buffers have this width
abbrev pub AreWide : (width : ℕ) → List Publisher → Type 0
AreWide width publishers = (which : PublisherBuffers) (p : Publisher) → publisher.width_of (slice_index_or publishers (place_of which) p) ≡ width

-- table `t` represents these sessions at this clock
pub record IsTable (e : Terms) (index clock : ℕ) (t : Table) (sessions : List Session) : Type 0 where
  pub limits : in_limits e ≡ true
  pub early : clock < 2 ^ 62
  pub index_is : t.index ≡ index
  pub mode_is : t.mode ≡ e.mode
  pub latency_is : t.latency_ms ≡ e.latency_ms
  pub buffer_is : t.buffer ≡ e.buffer
  pub rules_are : t.rules ≡ e.rules
  pub publishers_wide : AreWide e.buffer t.publishers.items
  pub places_are : length t.seats.items ≡ e.sessions
  pub seats_are : AreSeats e index clock t.publishers.items t.seats.items sessions
  pub alone : AreAlone e.sessions sessions
  pub publishers_are : ArePublishers t.leading t.seats.items sessions

-- the datagram of a reply, or none
abbrev pub written_of : Option TheReply → List Datagram
written_of r = map written (option_to_list r)

-- the table after an item and the replies to it are those of `taken`
pub record IsTaken (e : Terms) (index clock : ℕ) (t : Table) (replies : List Datagram) (taken : Taken) : Type 0 where
  pub table_is : IsTable e index clock t taken.sessions
  pub replies_are : replies ≡ map sent taken.answers

-- the tests with which a stored session is searched
abbrev pub is_session_of : Peer → (caller : ℕ) → TheSession → Bool
is_session_of peer caller t = is_same_peer t.peer peer && t.caller == caller && not (is_some (until_of t.part))

abbrev pub holds : Peer → (caller : ℕ) → Seat → Bool
holds peer caller seat = session_passes (is_session_of peer caller) seat.session

-- whether a seat's session is a publisher's that sends packets, and whether it drains
abbrev pub has_speaker : Seat → Bool
has_speaker seat = session_passes (λ t. publishes (role_of t.part) && not (is_some (until_of t.part))) seat.session

abbrev pub has_draining : Seat → Bool
has_draining seat = session_passes (λ t. is_some (until_of t.part)) seat.session

-- whether a seat's session is a publisher's with these buffers
abbrev pub publishes_from : (which : PublisherBuffers) → Seat → Bool
publishes_from which seat = session_passes (λ t. publishes (role_of t.part) && is_same (buffers_used t.part) which) seat.session

-- whether a session of this address's site is open in a seat
abbrev pub has_address : (ip : List ℕ) → Seat → Bool
has_address ip seat = session_passes (λ t. is_same_site t.peer.ip ip) seat.session

abbrev pub has_subscriber : Seat → Bool
has_subscriber seat = session_passes (λ t. not (publishes (role_of t.part))) seat.session

abbrev pub is_vacant : Seat → Bool
is_vacant seat = no_session seat.session
  where
    no_session : Option TheSession → Bool
    no_session None = true
    no_session (Some t) = false

-- a seat with another session
abbrev pub with_stored : Option TheSession → Seat → Seat
with_stored session seat = record { generation = seat.generation; session = session; subscriber = seat.subscriber }

-- a seat after an event's deliveries: its session ends, or its time is extended if it drains
abbrev pub stored_settled : (ends : Bool) → Mode → (delivered : Bool) → (clock : ℕ) → Option TheSession → Option TheSession
stored_settled ends mode given clock None = None
stored_settled ends mode given clock (Some t) =
    if ends then None else Some (record t { part = part_extended (renewed mode given clock) t.part })

abbrev pub seat_settled : (ends : Bool) → Mode → (delivered : Bool) → (clock : ℕ) → Seat → Seat
seat_settled ends mode given clock seat = with_stored (stored_settled ends mode given clock seat.session) seat

-- a stored session whose peer is heard at this clock
abbrev pub heard_at : (clock : ℕ) → TheSession → TheSession
heard_at clock t = record t { heard = clock }

-- the answer to a repeated conclusion
abbrev pub again_of : Peer → Option TheSession → List Datagram
again_of peer None = []
again_of peer (Some t) = sent (record { peer = peer; packet = Answers t.caller t.answer }) ∷ []

-- whether a packet is for a stored session
abbrev pub is_stored_for : Peer → (dest : ℕ) → TheSession → Bool
is_stored_for peer dest t = is_same_peer t.peer peer && t.id == dest && not (is_some (until_of t.part))

-- the stored session after such a packet, from which on it drains or not
abbrev pub stored_after : (ends : Bool) → (drains : Option ℕ) → (clock : ℕ) → Option TheSession → Option TheSession
stored_after ends drains clock None = None
stored_after ends drains clock (Some t) = if ends then None else Some (record t { heard = clock; part = part_after drains t.part })

-- the stored session of a seat after a publisher's session ended, by its own SHUTDOWN or not
abbrev pub stored_end : (by_shutdown : Bool) → TheSession → TheSession
stored_end by_shutdown t = record t { part = part_with_end by_shutdown t.part }

abbrev pub seat_with_end : (by_shutdown : Bool) → Seat → Seat
seat_with_end by_shutdown seat = with_stored (option_map (stored_end by_shutdown) seat.session) seat

-- whether a stored session has expired (our choice), and whether because its peer sent nothing for 5 s or because it is
-- given up
abbrev pub is_stored_over : (clock : ℕ) → TheSession → Bool
is_stored_over clock t = is_given_up t.part || is_over_at (until_of t.part) t.heard clock

abbrev pub peer_idle : (clock : ℕ) → TheSession → Bool
peer_idle clock t = is_given_up t.part || is_silent_at (until_of t.part) t.heard clock

-- a seat with these keys at this clock: its session is given up if the next key isn't confirmed in time
abbrev pub stored_given_up : (keys : Option Keys) → (clock : ℕ) → TheSession → TheSession
stored_given_up keys clock t = record t { part = part_given_up (is_unconfirmed keys (clock - t.opened)) t.part }

abbrev pub seat_given_up : (keys : Option Keys) → (clock : ℕ) → Seat → Seat
seat_given_up keys clock seat = with_stored (option_map (stored_given_up keys clock) seat.session) seat

-- whether the peer of a stored session was heard less than a second ago, and whether that of a seat's session was
abbrev pub is_heard_recently : (clock : ℕ) → TheSession → Bool
is_heard_recently clock t = is_recent_at t.heard clock

abbrev pub hears_recently : (clock : ℕ) → Seat → Bool
hears_recently clock seat = session_passes (is_heard_recently clock) seat.session

abbrev pub has_expired : (clock : ℕ) → Seat → Bool
has_expired clock seat = session_passes (is_stored_over clock) seat.session

-- the test by which seats are counted
abbrev pub is_of_sort : Sort → Seat → Bool
is_of_sort sorts.Publisher seat = has_publisher seat
is_of_sort (sorts.From peer) seat = has_address peer.ip seat
is_of_sort sorts.Draining seat = has_draining seat
is_of_sort (sorts.Expired clock) seat = has_expired clock seat
is_of_sort sorts.Vacant seat = is_vacant seat

-- the stored session after time has advanced
abbrev pub stored_aged : (clock : ℕ) → Option TheSession → Option TheSession
stored_aged clock None = None
stored_aged clock (Some t) = if is_stored_over clock t then None else Some t

-- whether a stored session is a subscriber's that hasn't expired
abbrev pub is_kept_subscriber : (clock : ℕ) → TheSession → Bool
is_kept_subscriber clock t = not (is_stored_over clock t) && not (publishes (role_of t.part))
