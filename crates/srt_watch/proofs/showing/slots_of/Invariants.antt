use Rattle.std.proofs.Common.{◌≡◌, length}
use Rattle.srt_watch.specs.Showing.{AreSlots}
use Rattle.srt_watch.proofs.showing.slots_of.Given as goal

abbrev pub invariant-loop-slot : goal.invariant-loop-slot
invariant-loop-slot l = record {
  shown : AreSlots l.slot l.route l.sessions l.slots;
  len : length l.slots ≡ 17;
}
