use Rattle.srt_procfs.proofs.Splits.{split_found, split_none}
use Rattle.srt_procfs.proofs.parts.split_at.Goals as goal

pub returns-in-Some-clause-parts : goal.returns-in-Some-clause-parts
returns-in-Some-clause-parts c = let h = c.in-Some.ensures in split_found c.args.separator c.args.text.now c.in-Some.at h.0.high h.0.before h.1

pub returns-in-None-clause-parts : goal.returns-in-None-clause-parts
returns-in-None-clause-parts c = split_none c.args.separator c.args.text.now c.in-None.ensures
