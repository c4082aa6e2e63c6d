use Rattle.std.proofs.Common.{rules}
use Rattle.std.specs.Prelude.{IsOk}
use Rattle.srt_explain.proofs.NextLines.{one_more}
use Rattle.srt_explain.proofs.fault_lines.NextLinesDisplay.fmt.Goals as goal

pub loop-fault-preserved : goal.loop-fault-preserved
loop-fault-preserved g c =
    let ok : IsOk c.write.result = search rules in
    one_more g.W.Write.write_str_gives c.args.self.now.path.now c.args.self.now.faults.now c.loop-fault.fault-index c.fault-item.result c.args.f.now
    c.loop-fault.f c.write.new.self c.write.result c.loop-fault-test.true c.fault-item.is c.loop-fault.invariant c.write.ensures.writes ok
