use Rattle.std.proofs.Common.{take}
use Rattle.std.specs.Prelude.{IfSome}
use Rattle.std.specs.Fmt.{HasWritten, IsPlainFormatter}
use Rattle.srt_explain.specs.FaultLines.{fault_lines}
use Rattle.srt_explain.proofs.fault_lines.NextLinesDisplay.fmt.Given as goal

abbrev pub invariant-loop-fault : goal.invariant-loop-fault
invariant-loop-fault g l =
    IsPlainFormatter l.fn.f → IfSome (fault_lines l.path (take l.fault-index l.faults)) (λ bs. HasWritten g.W.Write.write_str_gives l.fn.f bs l.f)
