use Rattle.std.proofs.Common.{refl, arith}
use Rattle.srt_poller.specs.Openings.{new_route}
use Rattle.srt_serve.proofs.Latecomers.{late_more}
use Rattle.srt_serve.proofs.running.take_late.Goals as goal

pub loop-at-preserved : goal.loop-at-preserved
loop-at-preserved g c = record {
  room = omega (arith, c.loop-at.invariant.room, c.in-Ok.ensures.capacity);
  places = omega (arith, c.loop-at.invariant.places, c.in-Ok.ensures.len);
  taken = late_more _ _ _ _ _ _ (new_route c.in-Some-next.newcomer) refl c.in-Some-next.ensures.added c.in-Some-next.ensures.requested c.in-Ok.ensures.items
      c.loop-at.invariant.taken;
}
