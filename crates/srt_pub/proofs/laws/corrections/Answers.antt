use Rattle.srt_pub.proofs.Corrections.{others_are_uncorrected, sessions_are_slow, packets_are_due_near}
use Rattle.srt_pub.proofs.laws.corrections.Goals as goal

pub returns : goal.returns
returns c = record { others = others_are_uncorrected; slow = sessions_are_slow; near = packets_are_due_near }
