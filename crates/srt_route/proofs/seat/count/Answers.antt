use Rattle.std.proofs.Common.{Bool, true, false, cond, ◌≡◌, ◌≤◌, List, count_by, refl, ap, ◌∙◌, arith}
use Rattle.std.proofs.lemmas.List.{take_all}
use Rattle.srt_types.specs.Capped.{one_if}
use Rattle.srt_route.specs.declared.seat.Seat.{Seat}
use Rattle.srt_route.specs.Tables.{is_of_sort}
use Rattle.srt_route.proofs.stored.Stored.{count_more_taken}
use Rattle.srt_route.proofs.seat.count.Goals as goal

small_one : (b : Bool) → one_if b ≤ 1
small_one true = omega arith
small_one false = omega arith

one_cond : (b : Bool) → cond b 1 0 ≡ one_if b
one_cond true = refl
one_cond false = refl

pub loop-at-init : goal.loop-at-init
loop-at-init c = record { counted = refl; few = omega arith }

pub loop-at-preserved : goal.loop-at-preserved
loop-at-preserved c = record {
  counted = omega (
    arith,
    c.loop-at.invariant.counted,
    c.one_if-count.ensures ∙ ap one_if c.is_of.ensures,
    count_more_taken (is_of_sort c.args.sort) c.args.seats.now c.loop-at.at c.index-seats-at.result (omega (arith, c.loop-at-test.true))
        c.index-seats-at.is,
    one_cond (is_of_sort c.args.sort c.index-seats-at.result),
  );
  few = omega (arith, c.loop-at.invariant.few, c.one_if-count.ensures, small_one c.is_of.result);
}

pub returns : goal.returns
returns c =
    c.loop-at.invariant.counted
    ∙ ap (λ (xs : List Seat). count_by (is_of_sort c.args.sort) xs) (take_all c.loop-at.at c.args.seats.now (omega (arith, c.loop-at-test.false)))
