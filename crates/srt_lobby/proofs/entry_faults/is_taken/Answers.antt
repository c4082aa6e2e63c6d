use Rattle.std.proofs.Common.{◌∙◌}
use Rattle.srt_lobby.proofs.Finds.{any_taken}
use Rattle.srt_lobby.proofs.entry_faults.is_taken.Goals as goal

pub returns : goal.returns
returns c = c.has_any.ensures ∙ any_taken c.args.name.now c.args.entries.now
