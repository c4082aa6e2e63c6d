use Rattle.std.proofs.Common.{[]}
use Rattle.srt_serve.proofs.Moments.{FirstTicked}
use Rattle.srt_serve.proofs.ticking.prefetch.Given as goal

abbrev pub invariant-loop-end : goal.invariant-loop-end
invariant-loop-end g l = FirstTicked g.E.TickEnd.inbox g.E.TickEnd.tried l.end-index [] l.fn.ends l.ends
