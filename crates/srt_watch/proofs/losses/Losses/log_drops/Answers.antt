use Rattle.std.proofs.Common.{arith}
use Rattle.srt_watch.proofs.Logging.{logged_as, logged_none}
use Rattle.srt_watch.proofs.LossLines.{no_drop_line, drop_line}
use Rattle.srt_watch.proofs.losses.Losses.log_drops.Goals as goal

pub returns-else-count-gt0-clause-logged : goal.returns-else-count-gt0-clause-logged
returns-else-count-gt0-clause-logged g c = logged_none _ _ _ (no_drop_line _ _ (omega (arith, c.unwrap_or-drops.ensures)))

pub returns-then-count-gt0-clause-logged : goal.returns-then-count-gt0-clause-logged
returns-then-count-gt0-clause-logged g c =
    logged_as _ _ _ _ _ _ (drop_line c.args.when _ _ (omega arith) (omega (arith, c.unwrap_or-drops.ensures))) c.append_always.ensures.logged
