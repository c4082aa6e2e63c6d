-- How a round drains the outboxes of the routes.
use Rattle.std.specs.Prelude.{◌≡◌, ◌⊎◌, ℕ, ◌+◌, ◌≤◌, Bool, true, false, Option, None, length}
use Rattle.srt_mailbox.specs.Ends.{Drained as Drain}
use Rattle.srt_poller.specs.declared.poller.KeptReply.{KeptReply}
use Rattle.srt_poller.specs.declared.poller.Drained.{Drained}
use Rattle.srt_poller.specs.declared.poller.Drained.TheVariants as one
use Rattle.srt_poller.specs.declared.poller.Left.{Left}
use Rattle.srt_poller.specs.declared.poller.Left.TheVariants as left
use Rattle.srt_poller.specs.declared.visits.Visits.{Visits}

-- the end of an outbox before and after a reply was taken from it: it was found empty, or one reply more was drained
abbrev pub IsTaken : Drained → (old new : Drain) → Type 0
IsTaken (one.Empty empty) old new = (new ≡ old) × (empty.queue ≡ old.queue) × (empty.through ≡ old.through)
IsTaken one.Gone old new = length new.through ≡ length old.through + 1
IsTaken one.Kept old new = Unit {0}

-- whether a reply is kept then
abbrev pub IsKeptBy : Drained → Option KeptReply → Type 0
IsKeptBy (one.Empty empty) kept = kept ≡ None
IsKeptBy one.Gone kept = kept ≡ None
IsKeptBy one.Kept kept = kept ≡ None → ⊥

-- the end of an outbox before and after a round that may check all outboxes; `rests` is known if the outbox was said to have no reply. It was passed over for
-- that; or it was found empty, after all that was drained; or 64 replies were drained; or the last one is kept
abbrev pub IsLeft : (all : Bool) (rests : Type 0) → Left → (old new : Drain) → Type 0
IsLeft all rests left.Resting old new = (all ≡ false) × rests
IsLeft all rests (left.Empty empty) old new = (empty.queue ≡ new.queue) × (empty.through ≡ new.through)
IsLeft all rests left.Many old new = length new.through ≡ length old.through + 64
IsLeft all rests left.Kept old new = Unit {0}

-- whether a reply is kept then
abbrev pub IsKeptAfter : Left → Option KeptReply → Type 0
IsKeptAfter left.Resting kept = kept ≡ None
IsKeptAfter (left.Empty empty) kept = kept ≡ None
IsKeptAfter left.Many kept = kept ≡ None
IsKeptAfter left.Kept kept = kept ≡ None → ⊥

abbrev pub is_kept : Left → Bool
is_kept left.Resting = false
is_kept (left.Empty empty) = false
is_kept left.Many = false
is_kept left.Kept = true

-- whether the drain stopped before the outbox was found empty
abbrev pub is_open : Left → Bool
is_open left.Resting = false
is_open (left.Empty empty) = false
is_open left.Many = true
is_open left.Kept = true

-- The outboxes of all of this many routes were visited, or an open one was the last
abbrev pub IsThrough : (routes : ℕ) → Visits → Type 0
IsThrough routes visits = (routes ≤ visits.next) ⊎ (visits.left ≡ true)

-- What a poller notes after a round that visited these outboxes: whether one was left open. If a reply is kept since before, none was visited, and what was
-- noted stays
abbrev pub IsNoted : (routes : ℕ) → (old : Bool) → (kept : Option KeptReply) → Visits → (new : Bool) → Type 0
IsNoted routes old kept visits new = ((new ≡ visits.left) × IsThrough routes visits) ⊎ ((kept ≡ None → ⊥) × (new ≡ old))
