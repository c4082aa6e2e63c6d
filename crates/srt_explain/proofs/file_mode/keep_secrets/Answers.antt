use Rattle.std.proofs.Common.{◌∙◌}
use Rattle.srt_explain.proofs.FileModes.{any_mapped}
use Rattle.srt_explain.proofs.file_mode.keep_secrets.Goals as goal

pub returns : goal.returns
returns c = c.one_keeps_secret.ensures ∙ any_mapped c.args.entries.now
