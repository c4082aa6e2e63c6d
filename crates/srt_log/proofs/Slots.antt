-- Slots counted one after the other.
use Rattle.std.proofs.Common.{◌≡◌, ℕ, ◌+◌, cond, List, Option, refl, add-one}
use Rattle.srt_log.specs.declared.snapshots.SlotSession.{SlotSession}
use Rattle.srt_log.specs.Changes.{is_new, slot_at, opened_below}

pub no_slots : (old new : List (Option SlotSession)) → opened_below 0 old new ≡ 0
unfolding opened_below
no_slots old new = refl

pub next_slot : (count : ℕ) (old new : List (Option SlotSession))
    → opened_below (count + 1) old new ≡ opened_below count old new + cond (is_new (slot_at count old) (slot_at count new)) 1 0
unfolding opened_below
next_slot count old new = rw add-one refl
