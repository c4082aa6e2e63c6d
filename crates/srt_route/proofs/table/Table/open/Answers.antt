use Rattle.std.proofs.Common.{◌≡◌, ℕ, ◌∷◌, [], length, refl, ap, ◌∙◌, arith, slice_index_or}
use Rattle.std.proofs.lemmas.List.{length-append}
use Rattle.srt_types.specs.Terms.{terms_of}
use Rattle.srt_route.proofs.steps.Resting.{counted_pushed, table_resting}
use Rattle.srt_route.proofs.table.Table.open.Goals as goal

pub loop-alloc-preserved : goal.loop-alloc-preserved
loop-alloc-preserved c =
    let here : c.len-in-loop-alloc.result ≡ length c.loop-alloc.seats.items = omega (arith, c.len-in-loop-alloc.ensures) in
    record {
      few = omega (
        arith,
        c.loop-alloc-test.true,
        c.len.ensures,
        ap {B = _} length c.in-Ok-push.ensures.items,
        length-append c.loop-alloc.seats.items (c.vacant.result ∷ []),
      );
      counted = counted_pushed c.args.entry.now.buffer c.args.generations.now c.loop-alloc.seats.items c.push.new.self.items c.vacant.result
          c.in-Ok-open.subscriber _ c.in-Ok-push.ensures.items c.loop-alloc.invariant.counted c.vacant.ensures
          (c.generation_at-generation.ensures ∙ ap (λ (n : ℕ). slice_index_or c.args.generations.now n 0) here) c.in-Ok-open.ensures.wide;
    }

pub returns-clause-rests : goal.returns-clause-rests
returns-clause-rests c m clock early rests =
    table_resting (terms_of c.args.entry.now) c.args.index clock c.args.generations.now _ m c.requires refl refl refl refl refl c.in-Ok.ensures.wide
    (omega (arith, c.loop-alloc-test.false, c.len.ensures, c.loop-alloc.invariant.few)) c.loop-alloc.invariant.counted early rests
