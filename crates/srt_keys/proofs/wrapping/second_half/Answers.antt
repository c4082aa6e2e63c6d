use Rattle.std.proofs.Common.{ℕ, arith, length, length-drop, drop}
use Rattle.std.proofs.lemmas.List.{take_all}
use Rattle.srt_keys.proofs.wrapping.second_half.Goals as goal

pub returns-clause-half : goal.returns-clause-half
returns-clause-half c =
    let block = c.args.block.now in take_all 8 (drop 8 block) (omega (arith, length-drop 8 block, c.told-block))
