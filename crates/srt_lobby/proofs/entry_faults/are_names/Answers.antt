use Rattle.std.proofs.Common.{arith}
use Rattle.std.proofs.lemmas.Grind.{common_steps}
use Rattle.srt_lobby.proofs.Finds.{names_step}
use Rattle.srt_lobby.proofs.entry_faults.are_names.Goals as goal

pub returns-then-not-is_fresh : goal.returns-then-not-is_fresh
returns-then-not-is_fresh c = grind (arith, common_steps, names_step c.loop-rest.rest.now c.index-rest-0.result)

pub loop-rest-preserved : goal.loop-rest-preserved
loop-rest-preserved c = grind (arith, common_steps, names_step c.loop-rest.rest.now c.index-rest-0.result)
