use Rattle.std.proofs.Common.{◌∷◌, [], false, length, refl, ap, arith}
use Rattle.std.proofs.lemmas.List.{length-append}
use Rattle.srt_route.specs.declared.slot_keys.SlotKeys.TheVariants as stored
use Rattle.srt_route.proofs.stored.HeldKeys.{clear_pushed}
use Rattle.srt_route.proofs.slot_keys.clear_slots.Goals as goal

pub loop-slots-preserved : goal.loop-slots-preserved
loop-slots-preserved c = record {
  few = omega (
    arith,
    c.loop-slots-test.true,
    c.len.ensures,
    ap {B = _} length c.in_ok-push.ensures.items,
    length-append c.loop-slots.slots.items (record { is_held = false; keys = stored.Clear } ∷ []),
  );
  clear = clear_pushed c.loop-slots.slots.items c.push.new.self.items (record { is_held = false; keys = stored.Clear })
      c.in_ok-push.ensures.items c.loop-slots.invariant.clear refl;
}
