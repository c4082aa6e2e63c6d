-- The rule of the inbox: the messages received, followed by those in the queue, are what the poller and the clock
-- offered, each in order.
use Rattle.std.specs.Prelude.{◌≡◌, ℕ, Bool, true, false, List, [], ◌∷◌, ◌++◌}
use mathlib.Core.Option.{some}
use lib.ListN.{get_elem?}
use Rattle.srt_types.specs.declared.shared.Item.{Item}
use Rattle.srt_types.specs.Items.{Item as ReportedInput, input_of}
use Rattle.srt_mailbox.specs.declared.inbox_rule.InboxEntry.{InboxEntry}
use Rattle.srt_mailbox.specs.declared.inbox_rule.InboxView.{InboxView}

-- the message prepended to the others, if the poller offered it
abbrev pub keep : Bool → Item → List Item → List Item
keep true i is = i ∷ is
keep false i is = is

-- the message prepended to the others, if the clock offered it
abbrev pub skip : Bool → Item → List Item → List Item
skip true i is = is
skip false i is = i ∷ is

-- the messages that the poller offered, in order
abbrev pub polled_of : List InboxEntry → List Item
polled_of [] = []
polled_of (m ∷ ms) = keep m.polled m.item (polled_of ms)

-- the messages that the clock offered, in order
abbrev pub ticked_of : List InboxEntry → List Item
ticked_of [] = []
ticked_of (m ∷ ms) = skip m.polled m.item (ticked_of ms)

-- the received messages as the route's definition has them, newest first, prepended to earlier ones
abbrev pub reported_before : List ReportedInput → List InboxEntry → List ReportedInput
reported_before earlier [] = earlier
reported_before earlier (m ∷ ms) = reported_before (input_of m.item ∷ earlier) ms

abbrev pub applied : List InboxEntry → List ReportedInput
applied taken = reported_before [] taken

abbrev pub view_of : (polls ticks takes : Bool) → (polled ticked : List Item) → (taken : List InboxEntry) → InboxView
view_of p q r ps qs ts = record { polls = p; ticks = q; takes = r; polled = ps; ticked = qs; taken = ts }

-- the first pass: it has all rights, and has performed no operation
abbrev pub fresh : InboxView
fresh = view_of true true true [] [] []

-- a pass without rights
abbrev pub nobody : InboxView
nobody = view_of false false false [] [] []

-- the pass that remains when the poller's pass is split off, and below it the poller's pass
abbrev pub without_poller : InboxView → InboxView
without_poller v = view_of false v.ticks v.takes [] v.ticked v.taken

abbrev pub poller : InboxView → InboxView
poller v = view_of v.polls false false v.polled [] []

abbrev pub with_poller : InboxView → InboxView → InboxView
with_poller v w = view_of w.polls v.ticks v.takes w.polled v.ticked v.taken

-- the pass that remains when the clock's pass is split off, and below it the clock's pass
abbrev pub without_clock : InboxView → InboxView
without_clock v = view_of v.polls false v.takes v.polled [] v.taken

abbrev pub clock : InboxView → InboxView
clock v = view_of false v.ticks false [] v.ticked []

abbrev pub with_clock : InboxView → InboxView → InboxView
with_clock v w = view_of v.polls w.ticks v.takes v.polled w.ticked v.taken

-- the knowledge of the pass with this number, if the passes that have the three rights are p, q and r
abbrev pub Knows : (p q r : ℕ) → (taken items : List InboxEntry) → (pass : ℕ) → InboxView → Type 0
Knows p q r taken items pass v =
    (v.polls ≡ true → (pass ≡ p) × (v.polled ≡ polled_of (taken ++ items)))
    × (v.ticks ≡ true → (pass ≡ q) × (v.ticked ≡ ticked_of (taken ++ items)))
    × (v.takes ≡ true → (pass ≡ r) × (v.taken ≡ taken))

-- at most one pass has each right, and it knows all operations that were performed with that right
abbrev pub Kept : (items : List InboxEntry) → (views : List InboxView) → Type 0
Kept items views =
    (p : ℕ) × (q : ℕ) × (r : ℕ) × (taken : List InboxEntry)
    × ((pass : ℕ) (v : InboxView) → get_elem? views pass ≡ some v → Knows p q r taken items pass v)

-- a pass's view before and after an operation of that pass
abbrev pub Polled : InboxView → InboxEntry → InboxView → Type 0
Polled v x w = w ≡ view_of v.polls v.ticks v.takes (v.polled ++ x.item ∷ []) v.ticked v.taken

abbrev pub Ticked : InboxView → InboxEntry → InboxView → Type 0
Ticked v x w = w ≡ view_of v.polls v.ticks v.takes v.polled (v.ticked ++ x.item ∷ []) v.taken

abbrev pub Took : InboxView → InboxEntry → InboxView → Type 0
Took v x w = w ≡ view_of v.polls v.ticks v.takes v.polled v.ticked (v.taken ++ x ∷ [])

-- at some time the rule was true with these messages in the queue, and some pass knew this
abbrev pub Stood : (items : List InboxEntry) → (InboxView → Type 0) → Type 0
Stood items knows = (views : List InboxView) × (pass : ℕ) × (v : InboxView) × Kept items views × (get_elem? views pass ≡ some v) × knows v

abbrev pub StoodAsPolled : (polled : List Item) → (items : List InboxEntry) → Type 0
StoodAsPolled polled items = Stood items (λ v. (v.polls ≡ true) × (v.polled ≡ polled))

abbrev pub StoodAsTicked : (ticked : List Item) → (items : List InboxEntry) → Type 0
StoodAsTicked ticked items = Stood items (λ v. (v.ticks ≡ true) × (v.ticked ≡ ticked))

abbrev pub StoodAsTaken : (taken items : List InboxEntry) → Type 0
StoodAsTaken taken items = Stood items (λ v. (v.takes ≡ true) × (v.taken ≡ taken))

-- the knowledge of the pass with all three rights about the messages in the queue
abbrev pub KnowsAll : InboxView → (items : List InboxEntry) → Type 0
KnowsAll v items = (v.polled ≡ polled_of (v.taken ++ items)) × (v.ticked ≡ ticked_of (v.taken ++ items))
