use Rattle.std.proofs.Common.{◌≡◌, true, false}
use Rattle.srt_serve.proofs.Ends.{all_made}
use Rattle.srt_serve.proofs.running.run.Goals as goal

pub returns-in-Ok-clause-ran : goal.returns-in-Ok-clause-ran
returns-in-Ok-clause-ran g c = all_made _ _ _ _ _ _ _ _ _ c.in-Ok.ensures.rounds (c.in-Ok.ensures.ran.0 (λ on. let bad : false ≡ true = on in cc))
