use Rattle.std.proofs.Common.{◌≡◌, ℕ, suc, ◌+◌, refl, subst, arith}
use Rattle.srt_route.specs.Totals.{AddUp}
use Rattle.srt_route.proofs.table.Table.add_to.Goals as goal

pub loop-at-init : goal.loop-at-init
loop-at-init c e index clock sessions is = refl

pub loop-at-preserved : goal.loop-at-preserved
loop-at-preserved c e index clock sessions is =
    let next : suc c.loop-at.at ≡ c.loop-at.at + 1 = omega arith in
    subst (λ (n : ℕ). AddUp e index sessions n c.args.ended c.with_shown-totals.result) next
    (record {
      before = c.loop-at.totals;
      shown = c.look.result;
      before_is = c.loop-at.invariant e index clock sessions is;
      shows = c.look.ensures e index clock sessions is;
      all_is = c.with_shown-totals.ensures;
    })

pub returns : goal.returns
returns c e index clock sessions is =
    let all : c.loop-at.at ≡ e.sessions = omega (arith, c.loop-at-test.false, c.len-at-end.ensures, is.places_are) in
    subst (λ (n : ℕ). AddUp e index sessions n c.args.ended c.loop-at.totals) all (c.loop-at.invariant e index clock sessions is)
