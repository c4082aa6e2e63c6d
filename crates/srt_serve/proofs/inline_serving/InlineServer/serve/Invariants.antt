use Rattle.srt_serve.specs.inside.UpTo.{UpTo}
use Rattle.srt_serve.proofs.inline_serving.InlineServer.serve.Given as goal

abbrev pub invariant-loop : goal.invariant-loop
invariant-loop g l = UpTo (g.H.Marks.RouteMarks.attended l.self.marks.now) l.from
