-- Which publisher is active, and the deliveries of the standby.
use Rattle.std.specs.Prelude.{◌≡◌, ℕ, Bool, false, Option, None, Some, List, find, map, ◌==◌, ◌&&◌, if◌then◌else◌}
use Rattle.std.specs.List.{list_any}
use Rattle.srt_types.specs.declared.shared.Role.{Role}
use Rattle.srt_types.specs.declared.shared.Role.TheVariants.{Publish, Request}
use Rattle.srt_types.specs.Terms.{Terms}
use Rattle.srt_pub.specs.Publishing as publisher
use Rattle.srt_route.specs.declared.publisher_buffers.PublisherBuffers.{PublisherBuffers}
use Rattle.srt_route.specs.declared.publisher_buffers.PublisherBuffers.TheVariants.{First, Second}
use Rattle.srt_route.specs.declared.seat.Seat.{Seat}
use Rattle.srt_route.specs.declared.seat.Session.{Session as TheSession}
use Rattle.srt_route.specs.declared.table.Table.{Table}
use Rattle.srt_route.specs.Past.{Past, Publishes, Subscribes, Agreed}
use Rattle.srt_route.specs.Sessions.{Session, active, has_failed, is_open_in, is_publisher, publishes, standby, takes_over, terms_of, time_in}
use Rattle.srt_route.specs.Parts.{buffers_used, role_of}
use Rattle.srt_route.specs.PublisherBuffers.{is_same, other_buffers}
use Rattle.srt_route.specs.Tables.{IsTable, Uses, publishes_from}
use Rattle.srt_route.specs.inside.Delivery.{IsPublisherAt, IsPublisherOf, changed}

-- the buffers for a publisher that opens while at most one is open
abbrev pub unused_buffers : List Seat → PublisherBuffers
unused_buffers seats = if list_any (publishes_from First) seats then Second else First

-- the buffers of the active one of two open publishers after a session opened; a subscriber's session changes nothing
abbrev pub leading_after : PublisherBuffers → Role → (opened : PublisherBuffers) → PublisherBuffers
leading_after leading Publish opened = other_buffers opened
leading_after leading Request opened = leading

-- whether a stored session is the active publisher's, given the buffers that the active one uses
abbrev pub is_active_by : Option PublisherBuffers → TheSession → Bool
is_active_by None t = false
is_active_by (Some which) t = publishes (role_of t.part) && is_same (buffers_used t.part) which

-- the buffers of the active publisher: the leading ones if a publisher is open that uses them, otherwise the other ones
abbrev pub active_in : Table → Option PublisherBuffers
active_in t =
    if list_any (publishes_from t.leading) t.seats.items then Some t.leading
    else if list_any (publishes_from (other_buffers t.leading)) t.seats.items then Some (other_buffers t.leading) else None

-- no open session publishes
abbrev pub NonePublishes : List Session → Type 0
NonePublishes sessions = (at : ℕ) (s : Session) → find (is_open_in at) sessions ≡ Some s → is_publisher s ≡ false

-- the active publisher exists and uses these buffers
pub record HasActive (sessions : List Session) (t : Table) (which : PublisherBuffers) : Type 0 where
  pub at : ℕ
  pub session : Session
  pub past : publisher.Publishing
  pub here : IsPublisherAt sessions at session past
  pub active_is : active sessions ≡ Some session
  pub uses : Uses t at which

-- the publishers of slots other than `at` are standbys, which deliver to nobody
abbrev pub stood_past : Agreed → (time : ℕ) → (is_active : Bool) → Past → Past
stood_past terms time is_active (Publishes p) = Publishes (if is_active then p else publisher.delivered terms.publisher time None p)
stood_past terms time is_active (Subscribes m) = Subscribes m

abbrev pub stood_by : Terms → (clock at : ℕ) → Session → Past
stood_by e clock at s = stood_past (terms_of e s) (time_in s clock) (s.slot == at) s.past

-- the table after the payloads of the publisher with the other buffers, if one is open; s is the active publisher, of
-- slot `at`, and its past is q
abbrev pub StandsBy : (active : PublisherBuffers) → (clock : ℕ) → (old new : Table) → Type 0
StandsBy active clock old new =
    (e : Terms) (index : ℕ) (sessions : List Session) (at : ℕ) (s : Session) (q : publisher.Publishing)
    → IsPublisherOf e index clock old sessions at s q active
    → IsTable e index clock new (map (changed (stood_by e clock at)) sessions)

-- no publisher is open
abbrev pub HasNone : Table → Type 0
HasNone t = (e : Terms) (index clock : ℕ) (sessions : List Session) → IsTable e index clock t sessions → NonePublishes sessions

-- whether the active one of two open publishers has failed at this clock
abbrev pub HasFailed : (limit clock : ℕ) → Table → Bool → Type 0
HasFailed limit clock t failed =
    (e : Terms) (index : ℕ) (sessions : List Session)
    → IsTable e index clock t sessions → failed ≡ has_failed limit clock (active sessions) (standby sessions)

-- whether a take-over is due
abbrev pub IsDue : (clock : ℕ) → Table → Bool → Type 0
IsDue clock t due = (e : Terms) (index : ℕ) (sessions : List Session) → IsTable e index clock t sessions → due ≡ takes_over e clock sessions

abbrev pub IsActiveOf : Table → (which : PublisherBuffers) → Type 0
IsActiveOf t which = (e : Terms) (index clock : ℕ) (sessions : List Session) → IsTable e index clock t sessions → HasActive sessions t which
