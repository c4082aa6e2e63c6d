-- The map from slots of a ring to payload buffers.
use Rattle.std.specs.Prelude.{ℕ, slice_index_or, vec_len}
use Rattle.srt_ring.specs.declared.order.BufferOrder.{BufferOrder}

-- the index of a slot's buffer
abbrev pub buffer_of_slot : BufferOrder → ℕ → ℕ
buffer_of_slot o slot = slice_index_or o.buffers.items slot 0

-- the number of slots, and of buffers
abbrev pub slots_of : BufferOrder → ℕ
slots_of o = vec_len o.buffers
