-- The final counters of a finalised route.
use Rattle.std.specs.Prelude.{◌≡◌, List, ◌++◌, length}
use Rattle.srt_route.specs.declared.replies.Reply.{Reply}
use Rattle.srt_mailbox.specs.declared.inbox_rule.InboxEntry.{InboxEntry}
use Rattle.srt_mailbox.specs.declared.accounts.Account.{Account}
use Rattle.srt_mailbox.specs.Inbox.{polled_of, ticked_of}
use Rattle.srt_mailbox.specs.Ends.{Producer, Drained}
use Rattle.srt_mailbox.specs.Runs.{Run, Replays}
use Rattle.srt_mailbox.specs.Cells.{CellIdentity, Bears}
use Rattle.srt_mailbox.specs.Counts.{counted}

-- `a` has the final counters of this route and of its two queues: the messages received, those remaining of what the
-- two ends offered, the replies that wait in the route, those remaining in the outbox, and those that were drained
pub record IsAccountOf (a : Account) (r : Run) (ingress clock : Producer) (drain : Drained) : Type 0 where
  pub left : List InboxEntry
  pub queued : List Reply
  pub polled : ingress.offered ≡ polled_of (r.inbox.taken ++ left)
  pub ticked : clock.offered ≡ ticked_of (r.inbox.taken ++ left)
  pub put : r.outbox.put ≡ drain.through ++ queued
  pub taken_is : a.taken ≡ counted (length r.inbox.taken)
  pub left_is : a.left ≡ length left
  pub waiting_is : a.waiting ≡ length r.waiting
  pub queued_is : a.queued ≡ length queued
  pub drained_is : a.drained ≡ counted (length drain.through)

-- `a` has the final counters of a route with this identity. It put, or keeps waiting, all that it, alone, replies to
-- the messages received
pub record Settles (a : Account) (n : CellIdentity) (ingress clock : Producer) (drain : Drained) : Type 0 where
  pub route : Run
  pub bears : Bears n route
  pub replays : Replays route
  pub account : IsAccountOf a route ingress clock drain
