-- The rule of the outbox: the replies drained, followed by those in the queue, are those that were put, in order.
use Rattle.std.specs.Prelude.{◌≡◌, ℕ, Bool, true, false, List, [], ◌∷◌, ◌++◌, map}
use mathlib.Core.Option.{some}
use lib.ListN.{get_elem?}
use Rattle.std.specs.Global.{Box}
use Rattle.srt_route.specs.declared.replies.Reply.{Reply}
use Rattle.srt_mailbox.specs.declared.outbox_rule.OutboxView.{OutboxView}

-- the replies in the boxes
abbrev pub replies_in : List (Box Reply) → List Reply
replies_in boxes = map (λ b. b.value) boxes

abbrev pub view_of : (puts drains : Bool) → (put drained : List (Box Reply)) → OutboxView
view_of a b put drained = record { puts = a; drains = b; put = put; drained = drained }

-- the first pass: it has both rights, and has performed no operation
abbrev pub fresh : OutboxView
fresh = view_of true true [] []

-- a pass without rights
abbrev pub nobody : OutboxView
nobody = view_of false false [] []

-- the pass that remains when the drain's pass is split off, and below it the drain's pass
abbrev pub without_drain : OutboxView → OutboxView
without_drain v = view_of v.puts false v.put []

abbrev pub drain : OutboxView → OutboxView
drain v = view_of false v.drains [] v.drained

abbrev pub with_drain : OutboxView → OutboxView → OutboxView
with_drain v w = view_of v.puts w.drains v.put w.drained

-- the knowledge of the pass with this number, if the passes that have the two rights are p and q
abbrev pub Knows : (p q : ℕ) → (drained items : List (Box Reply)) → (pass : ℕ) → OutboxView → Type 0
Knows p q drained items pass v = (v.puts ≡ true → (pass ≡ p) × (v.put ≡ drained ++ items)) × (v.drains ≡ true → (pass ≡ q) × (v.drained ≡ drained))

-- at most one pass has each right, and it knows all operations that were performed with that right
abbrev pub Kept : (items : List (Box Reply)) → (views : List OutboxView) → Type 0
Kept items views =
    (p : ℕ) × (q : ℕ) × (drained : List (Box Reply))
    × ((pass : ℕ) (v : OutboxView) → get_elem? views pass ≡ some v → Knows p q drained items pass v)

-- a pass's view before and after an operation of that pass
abbrev pub Put : OutboxView → Box Reply → OutboxView → Type 0
Put v x w = w ≡ view_of v.puts v.drains (v.put ++ x ∷ []) v.drained

abbrev pub Drained : OutboxView → Box Reply → OutboxView → Type 0
Drained v x w = w ≡ view_of v.puts v.drains v.put (v.drained ++ x ∷ [])

-- at some time the rule was true with these boxes in the queue, and some pass knew this
abbrev pub Stood : (items : List (Box Reply)) → (OutboxView → Type 0) → Type 0
Stood items knows = (views : List OutboxView) × (pass : ℕ) × (v : OutboxView) × Kept items views × (get_elem? views pass ≡ some v) × knows v

abbrev pub StoodAsPut : (put : List Reply) → (items : List (Box Reply)) → Type 0
StoodAsPut put items = Stood items (λ v. (v.puts ≡ true) × (replies_in v.put ≡ put))

abbrev pub StoodAsDrained : (drained : List Reply) → (items : List (Box Reply)) → Type 0
StoodAsDrained drained items = Stood items (λ v. (v.drains ≡ true) × (replies_in v.drained ≡ drained))

-- the knowledge of the pass with both rights about the boxes in the queue
abbrev pub KnowsAll : OutboxView → (items : List (Box Reply)) → Type 0
KnowsAll v items = v.put ≡ v.drained ++ items
