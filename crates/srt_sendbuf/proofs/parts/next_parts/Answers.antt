use Rattle.std.proofs.Common.{◌+◌, ◌<◌, ◌≤◌, ◌||◌, Some, ap, ◌∙◌, arith}
use Rattle.std.proofs.lemmas.List.Sorted.{list_any-IsPermutation, All-permutation, length_permutation}
use Rattle.srt_types.specs.Runs.{is_requested, ranges_from}
use Rattle.srt_loss.specs.Window.{is_in_part}
use Rattle.srt_sendbuf.proofs.parts.next_parts.Goals as goal

pub returns-clause-named : goal.returns-clause-named
returns-clause-named c initial from place e lt =
    c.first_parts-parts.ensures.named initial from place e lt
    ∙ ap (λ b. b || is_requested (ranges_from initial c.first_parts-parts.new.ranges) (from + place))
    (list_any-IsPermutation (λ part. is_in_part (Some part) place) c.first_parts-parts.result.items c.sort.new.parts.items
    c.sort.ensures.same)

pub returns-clause-within : goal.returns-clause-within
returns-clause-within c =
    All-permutation (λ p. (p.0 ≤ p.1) × (p.1 < c.args.width)) c.first_parts-parts.result.items c.sort.new.parts.items c.sort.ensures.same
    c.first_parts-parts.ensures.within

pub returns-clause-shorter : goal.returns-clause-shorter
returns-clause-shorter c =
    omega (
      arith,
      length_permutation c.first_parts-parts.result.items c.sort.new.parts.items c.sort.ensures.same,
      c.first_parts-parts.ensures.shorter,
    )

pub returns-clause-all : goal.returns-clause-all
returns-clause-all c few =
    c.first_parts-parts.ensures.all
    (omega (arith, length_permutation c.first_parts-parts.result.items c.sort.new.parts.items c.sort.ensures.same, few))
