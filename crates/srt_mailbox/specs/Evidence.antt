-- The contents of evidence of a refusal, and how often a route's queues refused.
use Rattle.std.specs.Prelude.{◌≡◌, ℕ, List}
use Rattle.atomic_table.specs.Seated.{TableId}
use Rattle.crossbeam_queue.specs.Passes.{Pass, view}
use Rattle.srt_types.specs.declared.shared.Item.{Item}
use Rattle.srt_route.specs.declared.replies.Reply.{Reply}
use Rattle.srt_mailbox.specs.Counts.{Grew}

-- `asked` is the pass at the time of the refusal: a pass of the same queue, which had performed the same operations as
-- `now`
abbrev pub QueriedBy : {T V : Type 0} → (requested now : Pass T V) → Type 0
QueriedBy requested now = (requested.table_id ≡ now.table_id) × (view requested ≡ view now)

-- which inbox was full, and what the calling end had put into it by then, oldest first: as the poller, and as the
-- clock
pub record FoundFull : Type 0 where
  pub queue : TableId
  pub polled : List Item
  pub ticked : List Item

abbrev pub found_full : TableId → (polled ticked : List Item) → FoundFull
found_full q ps ts = record { queue = q; polled = ps; ticked = ts }

-- which outbox was empty, and the replies that had been drained from it by then, oldest first
pub record FoundEmpty : Type 0 where
  pub queue : TableId
  pub through : List Reply

abbrev pub found_empty : TableId → (through : List Reply) → FoundEmpty
found_empty q xs = record { queue = q; through = xs }

-- how often a route found its inbox empty, and its outbox full; both stop at 2^64 - 1
pub record Refused : Type 0 where
  pub empty : ℕ
  pub full : ℕ

abbrev pub refused : (empty full : ℕ) → Refused
refused m n = record { empty = m; full = n }

-- the inbox was found empty once more
abbrev pub EmptyOnceMore : Refused → Refused → Type 0
EmptyOnceMore a b = Grew a.empty b.empty × (b.full ≡ a.full)

-- the outbox was found full once more
abbrev pub FullOnceMore : Refused → Refused → Type 0
FullOnceMore a b = Grew a.full b.full × (b.empty ≡ a.empty)
