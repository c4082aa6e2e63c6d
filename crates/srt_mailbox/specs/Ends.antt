-- The ends of a route's queues, as contracts see them.
use Rattle.std.specs.Prelude.{◌≡◌, ℕ, List, [], ◌++◌, length}
use Rattle.atomic_table.specs.Seated.{TableId}
use Rattle.srt_types.specs.declared.shared.Item.{Item}
use Rattle.srt_route.specs.declared.replies.Reply.{Reply}
use Rattle.srt_mailbox.specs.declared.inbox_rule.InboxEntry.{InboxEntry}
use Rattle.srt_mailbox.specs.Inbox.{polled_of, ticked_of}

-- an end that offers messages: which inbox, its capacity, and the messages of this end that were accepted, oldest
-- first
pub record Producer : Type 0 where
  pub queue : TableId
  pub capacity : ℕ
  pub offered : List Item

abbrev pub producer : TableId → (capacity : ℕ) → (offered : List Item) → Producer
producer q c xs = record { queue = q; capacity = c; offered = xs }

-- the end that receives messages: which inbox, its capacity, and the messages that were received, oldest first
pub record Consumer : Type 0 where
  pub queue : TableId
  pub capacity : ℕ
  pub taken : List InboxEntry

abbrev pub consumer : TableId → (capacity : ℕ) → (taken : List InboxEntry) → Consumer
consumer q c xs = record { queue = q; capacity = c; taken = xs }

-- the end that puts replies: which outbox, its capacity, and the replies that were put, oldest first
pub record Pipe : Type 0 where
  pub queue : TableId
  pub capacity : ℕ
  pub put : List Reply

abbrev pub pipe : TableId → (capacity : ℕ) → (put : List Reply) → Pipe
pipe q c xs = record { queue = q; capacity = c; put = xs }

-- the end that drains replies: which outbox, its capacity, the replies that were drained, oldest first, and the last
-- of them (before the first, a blank one)
pub record Drained : Type 0 where
  pub queue : TableId
  pub capacity : ℕ
  pub through : List Reply
  pub hand : Reply

abbrev pub drained : TableId → (capacity : ℕ) → (through : List Reply) → (hand : Reply) → Drained
drained q c xs h = record { queue = q; capacity = c; through = xs; hand = h }

-- the three ends of one inbox, unused
abbrev pub AreNew : (capacity : ℕ) → (ingress clock : Producer) → Consumer → Type 0
AreNew capacity ingress clock receiver =
    (ingress ≡ producer receiver.queue capacity []) × (clock ≡ producer receiver.queue capacity []) × (receiver ≡ consumer receiver.queue capacity [])

-- n messages remain: those received, followed by the remaining ones, are what the two ends offered, each in order
abbrev pub AreLeft : (n : ℕ) → (taken : List InboxEntry) → (ingress clock : Producer) → Type 0
AreLeft n taken ingress clock =
    (left : List InboxEntry) × (length left ≡ n)
    × (ingress.offered ≡ polled_of (taken ++ left)) × (clock.offered ≡ ticked_of (taken ++ left))
