use Rattle.std.proofs.Common.{◌∙◌, ◌∷◌, [], ◌<◌, length, ap, refl, arith, length-append}
use Rattle.srt_serve.proofs.Looks.{rest_shows}
use Rattle.srt_serve.proofs.WorkersJoined.{numbered_next}
use Rattle.srt_serve.proofs.serving.join_workers.Goals as goal

pub loop-number-preserved : goal.loop-number-preserved
loop-number-preserved g c =
    let before = c.loop-number.invariant in
    let rest = rest_shows c.args.handles.items c.loop-number.number c.in-Some.handle _ (before.left ∙ c.in-Some.ensures.items) in
    record {
      left = rest.1;
      many = omega (arith, before.many, ap length c.in-Ok.ensures.items, length-append c.loop-number.ended.items (c.join.result ∷ []));
      room = omega (arith, before.room, c.push.ensures.capacity);
      numbered =
          numbered_next (λ w. w.number) c.loop-number.ended.items _ c.join.result c.loop-number.number c.in-Ok.ensures.items before.many
          (c.join.ensures ∙ c.requires.promised c.loop-number.number c.in-Some.handle rest.0) before.numbered;
    }
