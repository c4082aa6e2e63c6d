use Rattle.std.proofs.Common.{◌≡◌, ℕ, ◌+◌}
use Rattle.srt_types.specs.Counts.{message_of, message_number}
use Rattle.srt_sendbuf.proofs.buffer.message_after.Given as goal

abbrev pub invariant-loop : goal.invariant-loop
invariant-loop l = (k : ℕ) → message_of l.fn.message ≡ message_number k → message_of l.reached ≡ message_number (k + l.counter)
