use Rattle.std.proofs.Common.{◌≡◌, ◌≤◌, ◌-◌, []}
use Rattle.srt_watch.specs.Log.{Logged}
use Rattle.srt_watch.specs.Writes.{AreKept}
use Rattle.srt_watch.proofs.log.LogWriter.drain.Given as goal

abbrev pub invariant-loop-rests : goal.invariant-loop-rests
invariant-loop-rests g l = record {
  few : l.rests.rests ≤ 100;
  machine : g.M.Machine.says l.machine ≡ g.M.Machine.says l.fn.machine;
  events : AreKept l.fn.self.events.events.items l.self.events.events.items;
  logged : Logged (g.W.Write.contents l.fn.self.out.out) (g.W.Write.contents l.self.out.out) l.fn.self.pace l.self.pace [];
}

abbrev pub decreases-loop-rests : goal.decreases-loop-rests
decreases-loop-rests g l = 100 - l.rests.rests
