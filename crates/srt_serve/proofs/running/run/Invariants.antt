use Rattle.std.proofs.Common.{length}
use Rattle.srt_serve.proofs.running.run.Given as goal

abbrev pub ghosts-run_with : goal.ghosts-run_with
ghosts-run_with g a = record { first = length a.task.entries.now }
