-- The buffers that are filled again, and when a copy of a datagram allocates.
use Rattle.std.specs.Prelude.{◌≡◌, ℕ, ◌<◌, ◌-◌, Option, None, Some, nat_lt, if◌then◌else◌, List, [], ◌∷◌, ◌++◌, IfSome, length, slice_get, take}
use Rattle.std.specs.Vec.{vec_capacity}
use Rattle.srt_poller.specs.declared.buffers.Buffers.{Buffers}

-- a copy of these bytes allocates: there are some, and no buffer is kept, or the one that was kept last has less room
abbrev pub Allocates : Buffers → (bytes : List ℕ) → Type 0
Allocates b bytes = (0 < length bytes) × IfSome (slice_get b.kept.items (length b.kept.items - 1)) (λ buffer. vec_capacity buffer < length bytes)

-- a copy of these bytes takes a new buffer: there are some, and no buffer is kept
abbrev pub IsCopiedAnew : Buffers → (bytes : List ℕ) → Type 0
IsCopiedAnew b bytes = (0 < length bytes) × (b.kept.items ≡ [])

-- the buffers after one came back, if it did: it is kept if there is room
abbrev pub kept_with : {A : Type 0} → Option A → List A → List A
kept_with None kept = kept
kept_with (Some buffer) kept = if nat_lt (length kept) 512 then kept ++ buffer ∷ [] else kept

-- the buffers after a copy of these bytes: it took the one that was kept last, unless there are no bytes
abbrev pub kept_without : {A : Type 0} → (bytes : List ℕ) → List A → List A
kept_without bytes kept = if nat_lt 0 (length bytes) then take (length kept - 1) kept else kept
