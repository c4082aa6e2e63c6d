use Rattle.std.proofs.Common.{◌≡◌, ◌%◌, length}
use Rattle.std.specs.Result.{result_err}
use Rattle.srt_loss.specs.Reading.{losses_in}
use Rattle.srt_loss.proofs.reading.read.Given as goal

-- the remaining bytes have the same fault as all bytes
abbrev pub invariant-loop-rest : goal.invariant-loop-rest
invariant-loop-rest l =
    record { whole : length l.rest % 4 ≡ 0; same_fault : result_err (losses_in l.rest) ≡ result_err (losses_in l.bytes) }

abbrev pub decreases-loop-rest : goal.decreases-loop-rest
decreases-loop-rest l = length l.rest
