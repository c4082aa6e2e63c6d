use Rattle.std.proofs.Common.{◌∙◌, arith}
use Rattle.std.proofs.lemmas.List.{length-set}
use Rattle.srt_watch.proofs.ShownSlots.{next_shown}
use Rattle.srt_watch.proofs.showing.sessions_of.Goals as goal

pub loop-slot-preserved : goal.loop-slot-preserved
loop-slot-preserved c = record {
  shown = next_shown _ _ _ _ (omega (arith, c.loop-slot-test.true, c.loop-slot.invariant.len)) c.loop-slot.invariant.shown
      (λ e index items stood. (c.session.ensures.session e index items stood, c.session.ensures.keys e index items stood));
  len = length-set _ _ _ ∙ c.loop-slot.invariant.len;
}
