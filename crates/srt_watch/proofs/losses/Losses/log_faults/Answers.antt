use Rattle.std.proofs.Common.{arith}
use Rattle.srt_watch.proofs.Logging.{logged_as, logged_none}
use Rattle.srt_watch.proofs.LossLines.{no_fault_line, fault_line}
use Rattle.srt_watch.proofs.losses.Losses.log_faults.Goals as goal

pub returns-else-count-gt0-clause-logged : goal.returns-else-count-gt0-clause-logged
returns-else-count-gt0-clause-logged g c = logged_none _ _ _ (no_fault_line _ _ (omega arith))

pub returns-then-count-gt0-clause-logged : goal.returns-then-count-gt0-clause-logged
returns-then-count-gt0-clause-logged g c =
    logged_as _ _ _ _ _ _ (fault_line c.args.when _ _ (omega arith) (omega arith)) c.append_always.ensures.logged
