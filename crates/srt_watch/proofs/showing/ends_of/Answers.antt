use Rattle.std.proofs.Common.{◌∙◌, arith}
use Rattle.std.proofs.lemmas.List.{length-set}
use Rattle.srt_watch.proofs.ShownSlots.{next_end}
use Rattle.srt_watch.proofs.showing.ends_of.Goals as goal

pub loop-slot-preserved : goal.loop-slot-preserved
loop-slot-preserved c = record {
  ended = next_end _ _ _ _ (omega (arith, c.loop-slot-test.true, c.loop-slot.invariant.len)) c.loop-slot.invariant.ended c.ended.ensures;
  len = length-set _ _ _ ∙ c.loop-slot.invariant.len;
}
