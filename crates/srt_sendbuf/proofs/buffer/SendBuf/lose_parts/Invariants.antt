use Rattle.std.proofs.Common.{◌≡◌, ℕ, ◌+◌, ◌<◌, ◌≤◌, ◌||◌, Bool, true, length}
use Rattle.std.specs.Prelude.{All}
use Rattle.std.specs.List.Sorted.{IsNonDecreasingBy}
use Rattle.srt_sendbuf.specs.Parts.{is_in_parts, AreWithin}
use Rattle.srt_sendbuf.specs.Places.{lost_at, marks_of}
use Rattle.srt_sendbuf.specs.Stands.{HasMarked}
use Rattle.srt_sendbuf.proofs.buffer.SendBuf.lose_parts.Given as goal

-- the parts before `rest` are marked, with at most as many marks as there are places before the end of `run`
abbrev pub invariant-loop-next : goal.invariant-loop-next
invariant-loop-next l =
    record {
      lost : (named : ℕ → Bool) × HasMarked named l.fn.self l.self × ((d : ℕ) → is_in_parts l.parts d ≡ (named d || is_in_parts l.rest d));
      within : AreWithin l.fn.self.sent l.rest;
      ascending : IsNonDecreasingBy (λ part. part.0) l.rest;
      later : All (λ part. l.run.from ≤ part.0) l.rest;
      marked : (d : ℕ) → l.run.from ≤ d → d < l.run.end → lost_at l.self.ring d ≡ true;
      end : l.run.end ≤ l.fn.self.sent;
      marks : marks_of l.self.ring ≤ marks_of l.fn.self.ring + l.run.end;
    }

abbrev pub decreases-loop-next : goal.decreases-loop-next
decreases-loop-next l = length l.rest
