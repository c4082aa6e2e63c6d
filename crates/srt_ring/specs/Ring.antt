-- The payloads of a ring, by their distance from its front, the place.
use Rattle.std.specs.Prelude.{ℕ, List}
use Rattle.srt_ring.specs.Buffers.{bytes_at, slot_of}
use Rattle.srt_ring.specs.Slots.{buffer_of_slot, slots_of}
use Rattle.srt_ring.specs.declared.ring.PayloadRing.{PayloadRing}

-- the number of places
abbrev pub width_of : PayloadRing → ℕ
width_of r = slots_of r.order

-- the slot of place 0, the front
abbrev pub first_of : PayloadRing → ℕ
first_of r = r.first

-- the number of warm buffers, which are those of the last places
abbrev pub warm_of : PayloadRing → ℕ
warm_of r = r.warm

-- the payload of a place
abbrev pub payload_at : PayloadRing → ℕ → List ℕ
payload_at r at = bytes_at r.buffers.items (buffer_of_slot r.order (slot_of (width_of r) r.first at))
