use Rattle.srt_route.proofs.steps.Noted.{IsNoted}
use Rattle.srt_route.proofs.stored.Kept.{UpTo}
use Rattle.srt_route.proofs.files.note_each.Given as goal

-- the sessions of the seats below `at` have recorded the publisher's end
abbrev pub invariant-loop-at : goal.invariant-loop-at
invariant-loop-at l = UpTo (IsNoted l.by_shutdown) l.at l.fn.table l.table
