use Rattle.srt_serve.specs.inside.Quiet.{HasNoneBelow}
use Rattle.srt_serve.proofs.watching.has_session.Given as goal

abbrev pub invariant-loop-slot : goal.invariant-loop-slot
invariant-loop-slot l = HasNoneBelow l.route l.slot
