use Rattle.std.proofs.Common.{◌∙◌, ◌∷◌, [], ◌<◌, length, ap, refl, arith, length-append}
use Rattle.std.specs.Vec.Iter.{into_iter_items}
use Rattle.srt_serve.proofs.WorkersJoined.{numbered_next}
use Rattle.srt_serve.proofs.Settlings.{some_given}
use Rattle.srt_serve.proofs.serving.fn.start_workers.scope.Goals as goal

pub unreachable-requires : goal.unreachable-requires
unreachable-requires g c =
    let left : 0 < length (into_iter_items c.loop-number.gates) = omega (arith, c.loop-number.invariant.left, c.loop-number-test.true) in
    some_given _ _ _ c.loop-number.gates.rest.ok.0 c.next.ensures.variant c.in_default-next.is left

pub loop-number-preserved : goal.loop-number-preserved
loop-number-preserved g c =
    let before = c.loop-number.invariant in
    record {
      left = omega (arith, before.left, ap length c.in-Some.ensures.items);
      many = omega (arith, before.many, ap length c.in-Ok-push.ensures.items, length-append c.loop-number.handles.items (c.in-Ok-spawn_with.handle ∷ []));
      numbered =
          numbered_next (λ h. h.promise.number) c.loop-number.handles.items _ c.in-Ok-spawn_with.handle c.loop-number.number c.in-Ok-push.ensures.items
          before.many (ap (λ p. p.number) c.in-Ok-spawn_with.ensures.ok) before.numbered;
    }
