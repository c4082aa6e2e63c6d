-- The flags of blocks of 64 slots.
use Rattle.std.specs.Prelude.{ℕ, ◌/◌, Bool, false, slice_index_or}
use Rattle.srt_sendbuf.specs.declared.hints.Hints.{Hints}

-- the flag of a slot's block
abbrev pub hint_at : Hints → ℕ → Bool
hint_at h slot = slice_index_or h.blocks (slot / 64) false
