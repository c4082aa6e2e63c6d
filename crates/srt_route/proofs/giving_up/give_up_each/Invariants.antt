use Rattle.std.proofs.Common.{get_or}
use Rattle.srt_route.proofs.steps.GivingUp.{IsGivenUp}
use Rattle.srt_route.proofs.steps.Transmitting.{no_place}
use Rattle.srt_route.proofs.stored.KeptInOrder.{UpToIn}
use Rattle.srt_route.proofs.giving_up.give_up_each.Given as goal

-- the sessions of the seats below `at` are given up if their keys aren't confirmed in time
abbrev pub invariant-loop-at : goal.invariant-loop-at
invariant-loop-at l = UpToIn (λ k. IsGivenUp l.clock (get_or l.keys.slots.items k no_place)) l.at l.fn.table l.table
