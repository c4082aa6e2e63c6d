use Rattle.std.proofs.Common.{◌≡◌, length}
use Rattle.srt_watch.specs.Showing.{AreShown}
use Rattle.srt_watch.proofs.showing.sessions_of.Given as goal

abbrev pub invariant-loop-slot : goal.invariant-loop-slot
invariant-loop-slot l = record {
  shown : AreShown l.slot l.route l.sessions;
  len : length l.sessions ≡ 17;
}
