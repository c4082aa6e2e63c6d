use Rattle.std.proofs.Common.{◌^◌, sym, ap, ◌∙◌, arith}
use Rattle.srt_config.specs.Numbers.{below}
use Rattle.srt_config.proofs.Digits.{grows_over}
use Rattle.srt_config.proofs.numbers.read_digits.Goals as goal

pub returns-then-number-digit : goal.returns-then-number-digit
returns-then-number-digit c =
    sym (ap (below (2 ^ 64)) c.loop-b.invariant
    ∙ grows_over (2 ^ 64) c.loop-b.number c.args.text.now c.loop-b.b-index (omega arith) (omega arith))
