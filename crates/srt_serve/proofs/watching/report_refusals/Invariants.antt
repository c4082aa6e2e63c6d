use Rattle.srt_serve.specs.inside.Looking.{AreReported}
use Rattle.srt_serve.specs.inside.Reporting.{WereReported}
use Rattle.srt_serve.proofs.watching.report_refusals.Given as goal

abbrev pub invariant-loop : goal.invariant-loop
invariant-loop g l = record {
  reported : AreReported g.T.Watch.told l.counter;
  recorded : WereReported (g.T.Watch.refusals l.fn.watch) (g.T.Watch.refusals l.watch) l.counter;
}
