use Rattle.srt_lobby.proofs.Finds.{limited}
use Rattle.srt_lobby.proofs.entry_faults.are_in_limits.Goals as goal

pub returns-then-is_between : goal.returns-then-is_between
returns-then-is_between c =
    limited c.args.entries.now c.is_between.result c.all_in_limits.result c.is_between.ensures c.if-is_between.true c.all_in_limits.ensures
