use Rattle.srt_lobby.proofs.Finds.{fresh}
use Rattle.srt_lobby.proofs.entry_faults.is_fresh.Goals as goal

pub returns-then-is_name : goal.returns-then-is_name
returns-then-is_name c =
    fresh c.args.entry.now c.args.others.now c.as_bytes-name.result.now c.is_name.result c.is_taken.result c.as_bytes-name.ensures.value
    c.is_name.ensures c.if-is_name.true c.is_taken.ensures
