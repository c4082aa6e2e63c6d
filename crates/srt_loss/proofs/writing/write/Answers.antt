use Rattle.std.proofs.Common.{arith}
use Rattle.std.proofs.lemmas.Grind.{common_steps}
use Rattle.srt_loss.proofs.Written.{runs_read}
use Rattle.srt_loss.proofs.writing.write.Goals as goal

pub returns-clause-reads_back : goal.returns-clause-reads_back
returns-clause-reads_back c =
    runs_read c.args.runs.now.items c.loop-run.words.items (grind (arith, common_steps))
