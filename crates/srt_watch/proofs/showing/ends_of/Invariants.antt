use Rattle.std.proofs.Common.{◌≡◌, length}
use Rattle.srt_watch.specs.Showing.{AreEnds}
use Rattle.srt_watch.proofs.showing.ends_of.Given as goal

abbrev pub invariant-loop-slot : goal.invariant-loop-slot
invariant-loop-slot l = record {
  ended : AreEnds l.slot l.route l.ends;
  len : length l.ends ≡ 17;
}
