use Rattle.std.proofs.Common.{◌∙◌, ap, arith}
use Rattle.std.proofs.lemmas.List.{length-set}
use Rattle.srt_log.specs.Snapshots.{slot_of}
use Rattle.srt_watch.proofs.ShownSlots.{next_slot}
use Rattle.srt_watch.proofs.showing.slots_of.Goals as goal

pub loop-slot-preserved : goal.loop-slot-preserved
loop-slot-preserved c = record {
  shown = next_slot _ _ _ _ _ (omega (arith, c.loop-slot-test.true, c.loop-slot.invariant.len)) c.loop-slot.invariant.shown
      (c.slot_of.ensures ∙ ap (slot_of _) c.ended.ensures);
  len = length-set _ _ _ ∙ c.loop-slot.invariant.len;
}
