use Rattle.std.proofs.Common.{◌≡◌, drop}
use Rattle.srt_config.specs.Numbers.{digits_from}
use Rattle.srt_config.proofs.numbers.read_digits.Given as goal

abbrev pub invariant-loop-b : goal.invariant-loop-b
invariant-loop-b l = digits_from 0 l.text ≡ digits_from l.number (drop l.b-index l.text)
