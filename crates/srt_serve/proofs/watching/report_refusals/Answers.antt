use Rattle.std.proofs.Common.{◌∷◌, [], refl, arith}
use Rattle.srt_serve.proofs.Recorded.{recorded_first, recorded_next}
use Rattle.srt_serve.proofs.watching.report_refusals.Goals as goal

pub loop-init : goal.loop-init
loop-init g c = record { reported = ([], refl, tt); recorded = recorded_first (g.T.Watch.refusals c.args.watch.now) }

pub loop-preserved : goal.loop-preserved
loop-preserved g c =
    let before = c.loop.invariant in
    record {
      reported = (c.in-Ok.taken.refusal ∷ before.reported.0, omega (arith, before.reported.1), (c.report.ensures.told, before.reported.2));
      recorded =
          recorded_next (g.T.Watch.refusals c.args.watch.now) _ _ c.loop.counter c.in-Ok.taken.refusal before.recorded c.report.ensures.recorded;
    }

pub returns-in-Err-clause-recorded : goal.returns-in-Err-clause-recorded
returns-in-Err-clause-recorded g c = (c.loop.counter, c.loop.invariant.recorded, tt)
