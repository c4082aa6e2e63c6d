-- A route between its queues, before and after a step.
use Rattle.std.specs.Prelude.{◌≡◌, ℕ, true, Option, List, [], ◌∷◌, ◌++◌, map, option_to_list}
use Rattle.std.specs.Global.{Box}
use Rattle.crossbeam_queue.specs.Fifo.{Held}
use Rattle.srt_types.specs.declared.shared.Turned.{Turned}
use Rattle.srt_types.specs.declared.shared.Turned.TheVariants.{Moved, Applied, Blocked, Idle}
use Rattle.srt_types.specs.Items.{Datagram, Item, input_of}
use Rattle.srt_types.specs.Terms.{Terms}
use Rattle.srt_route.specs.declared.replies.Reply.{Reply}
use Rattle.srt_route.specs.Route.{after, reply, solo}
use Rattle.srt_route.specs.Written.{written}
use Rattle.srt_route.specs.Stands.{waiting}
use Rattle.srt_route.specs.declared.route.Route.{Route as TheRoute}
use Rattle.srt_mailbox.specs.declared.inbox_rule.InboxEntry.{InboxEntry}
use Rattle.srt_mailbox.specs.declared.spares.Boxes.{Boxes}
use Rattle.srt_mailbox.specs.Boxes.{HasNoBoxes}
use Rattle.srt_mailbox.specs.Inbox.{applied, StoodAsTaken}
use Rattle.srt_mailbox.specs.Outbox.{replies_in, StoodAsPut}
use Rattle.srt_mailbox.specs.Ends.{Consumer, consumer, Pipe, pipe}
use Rattle.srt_mailbox.specs.Evidence.{Refused, EmptyOnceMore, FullOnceMore}

-- a route of these terms and this index, its ends of the two queues, the waiting datagrams, oldest first, and how
-- often it found its inbox empty and its outbox full
pub record Run : Type 0 where
  pub terms : Terms
  pub index : ℕ
  pub inbox : Consumer
  pub outbox : Pipe
  pub waiting : List Datagram
  pub refusals : Refused

abbrev pub run : Terms → (index : ℕ) → Consumer → Pipe → (waiting : List Datagram) → Refused → Run
run e r c p ws counts = record { terms = e; index = r; inbox = c; outbox = p; waiting = ws; refusals = counts }

-- the same route, with other counters of refusals
abbrev pub but_for : Run → Refused → Run
but_for a counts = run a.terms a.index a.inbox a.outbox a.waiting counts

-- the waiting datagrams: the reply that a full outbox returned, if any, followed by those in the route
abbrev pub waiting_at : Option (Box Reply) → TheRoute → List Datagram
waiting_at held route = map written (replies_in (option_to_list held)) ++ waiting route

-- the replies put, followed by those that wait, are all that the route, alone, replies to the messages received
abbrev pub Replays : Run → Type 0
Replays r = map written r.outbox.put ++ r.waiting ≡ solo r.terms r.index (applied r.inbox.taken)

-- a route that was closed by these messages, and of which no reply waits, has no free boxes
abbrev pub HasGivenBoxes : Terms → (index : ℕ) → List Item → (waiting : ℕ) → Boxes → Type 0
HasGivenBoxes e index items waiting boxes = (after e index items).is_closed ≡ true → waiting ≡ 0 → HasNoBoxes boxes

-- no reply waited, a message was received, and now the route's replies to it wait
abbrev pub AppliedOne : Run → Run → Type 0
AppliedOne a b =
    (x : InboxEntry) × (a.waiting ≡ [])
    ×
    (b
    ≡ run a.terms a.index (consumer a.inbox.queue a.inbox.capacity (a.inbox.taken ++ x ∷ [])) a.outbox
    (reply a.terms a.index (input_of x.item ∷ applied a.inbox.taken)) a.refusals)

-- the oldest waiting reply was put into the outbox
abbrev pub MovedOne : Run → Run → Type 0
MovedOne a b =
    (y : Reply) × (rest : List Datagram) × (a.waiting ≡ written y ∷ rest)
    × (b ≡ run a.terms a.index a.inbox (pipe a.outbox.queue a.outbox.capacity (a.outbox.put ++ y ∷ [])) rest a.refusals)

-- a reply waits, and the outbox was full at some time during the call; only the counter of full outboxes changed
abbrev pub WasBlocked : Run → Run → Type 0
WasBlocked a b =
    (first : Datagram) × (rest : List Datagram) × (a.waiting ≡ first ∷ rest)
    × (b ≡ but_for a b.refusals) × Held a.outbox.capacity (StoodAsPut a.outbox.put)
    × FullOnceMore a.refusals b.refusals

-- no reply waits, and the inbox was empty at some time during the call; only the counter of empty inboxes changed
abbrev pub WasIdle : Run → Run → Type 0
WasIdle a b =
    (a.waiting ≡ []) × (b ≡ but_for a b.refusals) × Held 0 (StoodAsTaken a.inbox.taken)
    × EmptyOnceMore a.refusals b.refusals

-- the effect of a step with each outcome
abbrev pub TurnedAs : Turned → Run → Run → Type 0
TurnedAs Applied a b = AppliedOne a b
TurnedAs Moved a b = MovedOne a b
TurnedAs Blocked a b = WasBlocked a b
TurnedAs Idle a b = WasIdle a b
