-- How many boxes a route has for its replies.
use Rattle.std.specs.Prelude.{◌≡◌, ℕ, ◌+◌, ◌-◌, ◌/◌, ◌^◌, [], min, max}
use Rattle.std.specs.Vec.{vec_capacity}
use Rattle.srt_mailbox.specs.declared.spares.Boxes.{Boxes}

-- the number of boxes that go back to the route together: a sixteenth as many as the outbox has places, from 1 to 16
abbrev pub batch_of : (capacity : ℕ) → ℕ
batch_of capacity = max 1 (min (capacity / 16) 16)

-- the number of free boxes at first: one for each place of the outbox, a batch, and two
abbrev pub boxes_of : (capacity : ℕ) → ℕ
boxes_of capacity = min (capacity + (batch_of capacity + 2)) (2 ^ 64 - 1)

-- a route's stock has no free box, and no memory for one
pub record HasNoBoxes (boxes : Boxes) : Type 0 where
  pub none : boxes.stock.items ≡ []
  pub memory : vec_capacity boxes.stock ≡ 0
