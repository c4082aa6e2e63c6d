use Rattle.srt_route.proofs.steps.Feeding.{Changes, Feeds}
use Rattle.srt_route.proofs.stored.Kept.{EachUpTo}
use Rattle.srt_route.proofs.delivery.feed.Given as goal

-- the seats below `at` are fed
abbrev pub invariant-loop-at : goal.invariant-loop-at
invariant-loop-at l = EachUpTo (Changes (Feeds l.clock l.payload)) l.at l.fn.seats l.seats
