use Rattle.std.proofs.Common.{[], refl, sym, ◌∙◌, append-nil}
use Rattle.srt_poller.proofs.Joined.{joined_none}
use Rattle.srt_serve.proofs.Moments.{one_tick_more}
use Rattle.srt_serve.proofs.ticking.tick.Goals as goal

pub loop-init : goal.loop-init
loop-init g c = (tt, tt, refl, ([], sym (joined_none _), sym (append-nil _), refl))

pub loop-preserved : goal.loop-preserved
loop-preserved g c =
    let turn = c.make_tick.ensures in (
      tt,
      tt,
      turn.same ∙ c.loop.invariant.2,
      one_tick_more g.E.TickEnd.inbox g.E.TickEnd.tried _ _ _ _ _ _ _ _ _ turn.ticked.0 turn.ticked.1 c.loop.invariant.3 turn.ticked.2
          turn.ticked.3 turn.ticked.4,
    )

pub returns-in-Ok-clause-ticked : goal.returns-in-Ok-clause-ticked
returns-in-Ok-clause-ticked g c = c.loop.invariant.3

pub returns-in-Ok-clause-same : goal.returns-in-Ok-clause-same
returns-in-Ok-clause-same g c = c.loop.invariant.2
