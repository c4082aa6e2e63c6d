use Rattle.std.proofs.Common.{arith}
use Rattle.std.proofs.lemmas.Slice.{overwrites}
use Rattle.srt_types.proofs.words.write_at.Goals as goal

pub returns-clause-kept : goal.returns-clause-kept
returns-clause-kept c = grind (arith, overwrites)
