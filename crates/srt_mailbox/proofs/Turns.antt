-- The effect of a step on the messages received and on the replies put.
use Rattle.std.proofs.Common.{◌≡◌, ℕ, suc, true, ◌+◌, ◌-◌, ◌^◌, min, arith, Option, None, Some, List, [], ◌∷◌, ◌++◌, length, map}
use Rattle.std.proofs.Common.{option_map, option_to_list, refl, sym, ap, ◌∙◌, append_assoc, append-nil, subst}
use Rattle.std.proofs.lemmas.List.{map-append, length-append}
use Rattle.std.specs.Global.{Box}
use Rattle.srt_types.specs.declared.shared.Item.{Item as TheItem}
use Rattle.srt_types.specs.Items.{Datagram, Item, input_of}
use Rattle.srt_types.specs.declared.shared.Turned.{Turned}
use Rattle.srt_types.specs.declared.shared.Turned.TheVariants.{Moved, Applied, Blocked, Idle}
use Rattle.srt_types.specs.Terms.{Terms}
use Rattle.srt_route.specs.declared.replies.Reply.{Reply}
use Rattle.srt_route.specs.declared.route.Route.{Route}
use Rattle.srt_route.specs.Route.{reply, solo}
use Rattle.srt_route.specs.Written.{written}
use Rattle.srt_route.specs.Stands.{waiting}
use Rattle.srt_mailbox.specs.declared.inbox_rule.InboxEntry.{InboxEntry}
use Rattle.srt_mailbox.specs.Counts.{counted}
use Rattle.srt_mailbox.specs.Inbox.{reported_before}
use Rattle.srt_mailbox.specs.Outbox.{replies_in}
use Rattle.srt_mailbox.specs.Cells.{CellIdentity, Bears}
use Rattle.srt_mailbox.specs.Evidence.{Refused, EmptyOnceMore, FullOnceMore}
use Rattle.srt_mailbox.specs.Runs.{Run, waiting_at, AppliedOne, MovedOne, WasBlocked, WasIdle, TurnedAs}
use Rattle.srt_mailbox.specs.Queried.{Answer, answer, passes}
use Rattle.srt_mailbox.specs.Visits.{turns_of}

pub reported_last : (earlier : List Item) (taken : List InboxEntry) (x : InboxEntry)
    → reported_before earlier (taken ++ x ∷ []) ≡ input_of x.item ∷ reported_before earlier taken
reported_last earlier [] x = refl
reported_last earlier (m ∷ ms) x = reported_last (input_of m.item ∷ earlier) ms x

-- if no reply waits, no reply was returned by the outbox
pub none_held : (held : Option (Box Reply)) (route : Route) → waiting_at held route ≡ [] → map written (replies_in (option_to_list held)) ≡ []
none_held None route none = refl
none_held (Some b) route none = absurd (let e : (written b.value ∷ (waiting route)) ≡ [] = none in cc)

-- the replies to a message that was processed while none waited are all that wait; the message is given by another
-- expression, j
pub waits_next : (e : Terms) (r : ℕ) (items : List Item) (held : Option (Box Reply)) (old new : Route) (i j : TheItem)
    → waiting_at held old ≡ [] → waiting new ≡ reply e r (input_of i ∷ items) → i ≡ j → waiting_at held new ≡ reply e r (input_of j ∷ items)
waits_next e r items held old new i j none replies same =
    ap (λ l. l ++ waiting new) (none_held held old none) ∙ replies ∙ ap (λ (k : TheItem). reply e r (input_of k ∷ items)) same

pub applied_replays : (e : Terms) (r : ℕ) (put old new : List Datagram) (items : List Item) (item : Item)
    → put ++ old ≡ solo e r items → old ≡ [] → new ≡ reply e r (item ∷ items) → put ++ new ≡ solo e r (item ∷ items)
applied_replays e r put old new items item so_far none is =
    ap (λ l. put ++ l) is ∙ ap (λ l. l ++ reply e r (item ∷ items)) (sym (append-nil put) ∙ ap (λ l. put ++ l) (sym none) ∙ so_far)

pub moved_replays : (put : List Reply) (y : Reply) (rest all : List Datagram)
    → map written put ++ (written y ∷ rest) ≡ all → map written (put ++ y ∷ []) ++ rest ≡ all
moved_replays put y rest all so_far = ap (λ l. l ++ rest) (map-append written put (y ∷ [])) ∙ append_assoc (map written put) (written y ∷ []) rest ∙ so_far

pub counted_more : (n m : ℕ) → m ≡ counted n → min (m + 1) (2 ^ 64 - 1) ≡ counted (n + 1)
counted_more n m is = omega (arith, is)

-- a step is of the same route, at the same queues
pub still_bears : (t : Turned) (a b : Run) → TurnedAs t a b → (n : CellIdentity) → Bears n a → Bears n b
still_bears Applied a b turned n bears = subst (λ (r : Run). Bears n r) (sym turned.2) bears
still_bears Moved a b turned n bears = subst (λ (r : Run). Bears n r) (sym turned.3) bears
still_bears Blocked a b turned n bears = subst (λ (r : Run). Bears n r) (sym turned.3) bears
still_bears Idle a b turned n bears = subst (λ (r : Run). Bears n r) (sym turned.1) bears

-- a received message is one more step
pub taken_more : (t : Turned) (a b : Run)
    → t ≡ Applied → TurnedAs t a b → (length b.outbox.put ≡ length a.outbox.put) × (turns_of b ≡ turns_of a + 1) × (b.refusals ≡ a.refusals)
taken_more t a b is turned =
    let one : AppliedOne a b = subst (λ (u : Turned). TurnedAs u a b) is turned in
    let put : length b.outbox.put ≡ length a.outbox.put = ap (λ (r : Run). length r.outbox.put) one.2 in
    let taken : length b.inbox.taken ≡ length a.inbox.taken + 1 = ap (λ (r : Run). length r.inbox.taken) one.2 ∙ length-append a.inbox.taken (one.0 ∷ []) in
    (put, omega (arith, put, taken), ap (λ (r : Run). r.refusals) one.2)

-- a put reply is one more step
pub put_more : (t : Turned) (a b : Run) → t ≡ Moved → TurnedAs t a b
    → (length b.outbox.put ≡ length a.outbox.put + 1) × (turns_of b ≡ turns_of a + 1) × (b.refusals ≡ a.refusals)
put_more t a b is turned =
    let one : MovedOne a b = subst (λ (u : Turned). TurnedAs u a b) is turned in
    let taken : length b.inbox.taken ≡ length a.inbox.taken = ap (λ (r : Run). length r.inbox.taken) one.3 in
    let put : length b.outbox.put ≡ length a.outbox.put + 1 = ap (λ (r : Run). length r.outbox.put) one.3 ∙ length-append a.outbox.put (one.0 ∷ []) in
    (put, omega (arith, put, taken), ap (λ (r : Run). r.refusals) one.3)

-- after steps without a refusal, an idle step finds the inbox empty once more
pub idle_at_last : (t : Turned) (n : Refused) (a b : Run) → t ≡ Idle → TurnedAs t a b → a.refusals ≡ n → EmptyOnceMore n b.refusals
idle_at_last t n a b is turned same =
    let one : WasIdle a b = subst (λ (u : Turned). TurnedAs u a b) is turned in
    subst (λ (m : Refused). EmptyOnceMore m b.refusals) same one.3

-- after steps without a refusal, a blocked step finds the outbox full once more
pub blocked_at_last : (t : Turned) (n : Refused) (a b : Run) → t ≡ Blocked → TurnedAs t a b → a.refusals ≡ n → FullOnceMore n b.refusals
blocked_at_last t n a b is turned same =
    let one : WasBlocked a b = subst (λ (u : Turned). TurnedAs u a b) is turned in
    subst (λ (m : Refused). FullOnceMore m b.refusals) same one.5

passes_more : (r n : ℕ) (earlier : List Answer) → passes r (n + 1) earlier ≡ answer r true ∷ passes r n earlier
passes_more r n earlier = let next : n + 1 ≡ suc n = omega arith in ap (λ (m : ℕ). passes r m earlier) next

-- the answers of a gate that permitted n steps and then one more
pub requested_more : (r n : ℕ) (old mid new : Option (List Answer))
    → mid ≡ option_map (passes r n) old → new ≡ option_map (λ xs. answer r true ∷ xs) mid → new ≡ option_map (passes r (n + 1)) old
requested_more r n None mid new first next = next ∙ ap (option_map (λ (xs : List Answer). answer r true ∷ xs)) first
requested_more r n (Some xs) mid new first next =
    next ∙ ap (option_map (λ (ys : List Answer). answer r true ∷ ys)) first ∙ ap (λ (ys : List Answer). Some ys) (sym (passes_more r n xs))
