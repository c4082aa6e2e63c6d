-- Replies that are queued after those that already wait.
use Rattle.std.specs.Prelude.{◌≡◌, ℕ, ◌+◌, ◌≤◌, ◌++◌, List, map, length}
use Rattle.srt_types.specs.Items.{Datagram}
use Rattle.srt_route.specs.declared.replies.Reply.{Reply}
use Rattle.srt_route.specs.declared.reply_queue.ReplyQueue.{ReplyQueue}
use Rattle.srt_route.specs.Written.{written}
use Rattle.srt_route.specs.Waits.{replies_of, places_of}

-- if the queue had boxes for these datagrams, they wait after the earlier ones; the number of boxes never decreases
pub record AreSaid (before after : List Reply) (places later : ℕ) (said : List Datagram) : Type 0 where
  pub kept : places ≤ later
  pub waiting : length before + length said ≤ places → map written after ≡ map written before ++ said

-- the same of a queue
abbrev pub Queues : (old new : ReplyQueue) → List Datagram → Type 0
Queues old new said = AreSaid (replies_of old) (replies_of new) (places_of old) (places_of new) said
