-- The part of an open session: a publisher's, a draining publisher's or a subscriber's.
use Rattle.std.specs.Prelude.{◌≡◌, ◌||◌, ℕ, Bool, false, Option, None, Some, ⊤}
use Rattle.srt_types.specs.declared.shared.Role.{Role}
use Rattle.srt_types.specs.declared.shared.Role.TheVariants.{Publish, Request}
use Rattle.srt_route.specs.declared.part.Part.{Part}
use Rattle.srt_route.specs.declared.part.Part.TheVariants.{Publisher, Draining, Subscriber}
use Rattle.srt_route.specs.declared.publisher_buffers.PublisherBuffers.{PublisherBuffers}
use Rattle.srt_route.specs.declared.publisher_buffers.PublisherBuffers.TheVariants.{First}

-- the role of the session's caller
abbrev pub role_of : Part → Role
role_of (Publisher buffers) = Publish
role_of (Draining buffers until) = Publish
role_of (Subscriber file_ended given_up) = Request

-- whether a subscriber's session is given up
abbrev pub is_given_up : Part → Bool
is_given_up (Publisher buffers) = false
is_given_up (Draining buffers until) = false
is_given_up (Subscriber file_ended given_up) = given_up

-- the time at which a session that drains ends if something is still left to deliver
abbrev pub until_of : Part → Option ℕ
until_of (Publisher buffers) = None
until_of (Draining buffers until) = Some until
until_of (Subscriber file_ended given_up) = None

-- which of the route's two publisher buffers a publisher's session uses; the first for a subscriber's, which uses none
abbrev pub buffers_used : Part → PublisherBuffers
buffers_used (Publisher buffers) = buffers
buffers_used (Draining buffers until) = buffers
buffers_used (Subscriber file_ended given_up) = First

-- a subscriber's session has recorded this end of a file; a publisher's records none
abbrev pub RecordsEnd : Part → (file_ended : Bool) → Type 0
RecordsEnd (Publisher buffers) file_ended = ⊤
RecordsEnd (Draining buffers until) file_ended = ⊤
RecordsEnd (Subscriber recorded given_up) file_ended = recorded ≡ file_ended

-- whether a subscriber's session has recorded the end of a file
abbrev pub saw_end : Part → Bool
saw_end (Publisher buffers) = false
saw_end (Draining buffers until) = false
saw_end (Subscriber file_ended given_up) = file_ended

-- the part after a packet, from which on a publisher's session drains or not
abbrev pub publisher_after : (drains : Option ℕ) → PublisherBuffers → Part
publisher_after None buffers = Publisher buffers
publisher_after (Some until) buffers = Draining buffers until

abbrev pub part_after : (drains : Option ℕ) → Part → Part
part_after drains (Publisher buffers) = publisher_after drains buffers
part_after drains (Draining buffers until) = Draining buffers until
part_after drains (Subscriber file_ended given_up) = Subscriber file_ended given_up

-- the part of a session whose time is extended if it drains
abbrev pub part_extended : (ℕ → ℕ) → Part → Part
part_extended extended (Publisher buffers) = Publisher buffers
part_extended extended (Draining buffers until) = Draining buffers (extended until)
part_extended extended (Subscriber file_ended given_up) = Subscriber file_ended given_up

-- the part after a publisher's session ended, by its own SHUTDOWN or not
abbrev pub part_with_end : (by_shutdown : Bool) → Part → Part
part_with_end by_shutdown (Publisher buffers) = Publisher buffers
part_with_end by_shutdown (Draining buffers until) = Draining buffers until
part_with_end by_shutdown (Subscriber file_ended given_up) = Subscriber by_shutdown given_up

-- the part of a session whose key isn't confirmed in time, or is; a publisher's stays
abbrev pub part_given_up : (late : Bool) → Part → Part
part_given_up late (Publisher buffers) = Publisher buffers
part_given_up late (Draining buffers until) = Draining buffers until
part_given_up late (Subscriber file_ended given_up) = Subscriber file_ended (late || given_up)

-- the part of a session that opens: a publisher's with these buffers, or a subscriber's
abbrev pub part_opened : Role → PublisherBuffers → Part
part_opened Publish buffers = Publisher buffers
part_opened Request buffers = Subscriber false false
