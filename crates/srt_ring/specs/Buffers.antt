-- Payload buffers, and the slots of a ring.
use Rattle.std.specs.Prelude.{ℕ, zero, suc, ◌+◌, ◌-◌, List, [], ◌∷◌, take, nat_lt, if◌then◌else◌}
use Rattle.srt_ring.specs.declared.buffers.PayloadBuffer.{PayloadBuffer}

-- the payload of a buffer: the first `len` bytes of its array
abbrev pub bytes_of : PayloadBuffer → List ℕ
bytes_of t = take t.len t.array.bytes

-- the payload of the buffer at an index; empty past the end
abbrev pub bytes_at : List PayloadBuffer → ℕ → List ℕ
bytes_at [] at = []
bytes_at (t ∷ ts) zero = bytes_of t
bytes_at (t ∷ ts) (suc at) = bytes_at ts at

-- the slot of the place `at`, if `first` is the slot of place 0: slots wrap at the width
abbrev pub slot_of : (width first at : ℕ) → ℕ
slot_of width first at = if nat_lt (first + at) width then first + at else first + at - width
