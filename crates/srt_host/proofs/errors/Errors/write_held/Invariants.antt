use Rattle.srt_host.specs.Held.{waiting_in, IsRest}
use Rattle.srt_host.proofs.errors.Errors.write_held.Given as goal

abbrev pub invariant-loop : goal.invariant-loop
invariant-loop g l = IsRest (waiting_in l.fn.self) (waiting_in l.self)
