use Rattle.std.proofs.Common.{◌≡◌, drop, Some}
use Rattle.srt_command_line.specs.Durations.{nothing, read_from}
use Rattle.srt_command_line.proofs.durations.read_all.Given as goal

abbrev pub invariant-loop-byte : goal.invariant-loop-byte
invariant-loop-byte l = read_from (Some nothing) l.text ≡ read_from (Some l.reading) (drop l.byte-index l.text)
