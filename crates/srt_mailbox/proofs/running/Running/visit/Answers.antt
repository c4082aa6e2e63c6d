use Rattle.std.proofs.Common.{arith, refl, ◌∙◌}
use Rattle.srt_mailbox.proofs.Turns.{still_bears, taken_more, put_more, idle_at_last, blocked_at_last, requested_more}
use Rattle.srt_mailbox.proofs.running.Running.visit.Goals as goal
use Rattle.srt_mailbox.proofs.running.Running.visit.Goals.{in-Applied, in-Moved}

pub returns-in-Idle-clause-bears : goal.returns-in-Idle-clause-bears
returns-in-Idle-clause-bears g c n bears = still_bears _ _ _ c.turn.ensures n (c.loop-turns.invariant.0 n bears)

pub returns-in-Blocked-clause-bears : goal.returns-in-Blocked-clause-bears
returns-in-Blocked-clause-bears g c n bears = still_bears _ _ _ c.turn.ensures n (c.loop-turns.invariant.0 n bears)

pub returns-in-Idle-clause-ended : goal.returns-in-Idle-clause-ended
returns-in-Idle-clause-ended g c = idle_at_last _ _ _ _ c.in-Idle.is c.turn.ensures c.loop-turns.invariant.5

pub returns-in-Blocked-clause-ended : goal.returns-in-Blocked-clause-ended
returns-in-Blocked-clause-ended g c = blocked_at_last _ _ _ _ c.in-Blocked.is c.turn.ensures c.loop-turns.invariant.5

pub loop-turns-preserved : goal.loop-turns-preserved
loop-turns-preserved g c =
    let before = c.loop-turns.invariant in (
      λ n bears. still_bears _ _ _ c.turn.ensures n (before.0 n bears),
      elim c.match-turn.branch [ in-Applied w ↦ omega (arith, w.moved-is, before.1) | in-Moved w ↦ omega (arith, w.moved-is, before.1) ],
      elim c.match-turn.branch [
        | in-Applied w ↦ omega (arith, w.moved-is, (taken_more _ _ _ w.in-Applied.is c.turn.ensures).0, before.2)
        | in-Moved w ↦ omega (arith, w.moved-is, (put_more _ _ _ w.in-Moved.is c.turn.ensures).0, before.2)
      ],
      elim c.match-turn.branch [
        | in-Applied w ↦ omega (arith, (taken_more _ _ _ w.in-Applied.is c.turn.ensures).1, before.3)
        | in-Moved w ↦ omega (arith, (put_more _ _ _ w.in-Moved.is c.turn.ensures).1, before.3)
      ],
      c.if-not-allows.ensures.passed refl ∙ before.4,
      elim c.match-turn.branch [
        | in-Applied w ↦ (taken_more _ _ _ w.in-Applied.is c.turn.ensures).2 ∙ before.5
        | in-Moved w ↦ (put_more _ _ _ w.in-Moved.is c.turn.ensures).2 ∙ before.5
      ],
      requested_more _ _ _ _ _ before.6 c.if-not-allows.ensures.requested,
    )
