use Rattle.std.proofs.Common.{◌≡◌, drop, Some}
use Rattle.srt_procfs.specs.Numbers.{digits_from}
use Rattle.srt_procfs.proofs.numbers.number_in.Given as goal

abbrev pub invariant-loop-byte : goal.invariant-loop-byte
invariant-loop-byte l = digits_from l.base (Some 0) l.text ≡ digits_from l.base (Some l.number) (drop l.byte-index l.text)
