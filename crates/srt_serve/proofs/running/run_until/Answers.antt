use Rattle.std.proofs.Common.{refl}
use Rattle.srt_serve.proofs.running.run_until.Goals as goal

pub returns-clause-ran : goal.returns-clause-ran
returns-clause-ran g c = c.run_with.ensures.ran.1 refl
