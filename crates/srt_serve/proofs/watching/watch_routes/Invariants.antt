use Rattle.std.proofs.Common.{List}
use Rattle.srt_serve.specs.declared.known.Known.{Known}
use Rattle.srt_serve.specs.inside.Watched.{AreTurns}
use Rattle.srt_serve.proofs.watching.watch_routes.Given as goal

abbrev pub invariant-loop : goal.invariant-loop
invariant-loop g l = (between : List Known) × AreTurns g.T.Watch.rested between l.fn.known l.known
