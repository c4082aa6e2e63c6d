use Rattle.srt_config.proofs.FirstByte.{parted_found, parted_none}
use Rattle.srt_config.proofs.splitting.parted.Goals as goal

pub returns-in-Some-clause-parts : goal.returns-in-Some-clause-parts
returns-in-Some-clause-parts c = let h = c.in-Some.ensures in parted_found c.args.at c.args.text.now c.in-Some.k h.0.high h.0.before h.1

pub returns-in-None-clause-parts : goal.returns-in-None-clause-parts
returns-in-None-clause-parts c = parted_none c.args.at c.args.text.now c.in-None.ensures
