-- The queue of waiting replies.
use Rattle.std.specs.Prelude.{◌≡◌, ℕ, ◌+◌, List, [], map, length}
use Rattle.std.specs.Vec.{vec_capacity}
use Rattle.std.specs.VecDeque.{deque_capacity}
use Rattle.srt_route.specs.declared.replies.Reply.{Reply}
use Rattle.srt_route.specs.declared.reply_queue.ReplyQueue.{ReplyQueue}

-- the replies in the boxes, the oldest first
abbrev pub replies_of : ReplyQueue → List Reply
replies_of w = map (λ b. b.value) w.replies.items

-- the number of boxes, with a reply or spare
abbrev pub places_of : ReplyQueue → ℕ
places_of w = length w.replies.items + length w.spare.items

-- the number of boxes for which the queue has memory of its own, aside from the boxes themselves
abbrev pub capacity_of : ReplyQueue → ℕ
capacity_of w = deque_capacity w.replies + vec_capacity w.spare

-- the queue has no boxes but those of the replies that wait, and no memory if none waits
pub record IsTrimmed (w : ReplyQueue) : Type 0 where
  pub boxes : places_of w ≡ length (replies_of w)
  pub memory : replies_of w ≡ [] → capacity_of w ≡ 0
