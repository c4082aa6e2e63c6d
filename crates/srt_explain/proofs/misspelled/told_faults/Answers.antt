use Rattle.std.proofs.Common.{◌≡◌, suc, length, ap, arith}
use Rattle.std.specs.Vec.Iter.{into_iter_items}
use Rattle.srt_explain.proofs.Told.{nothing_left}
use Rattle.srt_explain.proofs.Meant.{begun, one_more, all_told, none_left}
use Rattle.srt_explain.proofs.misspelled.told_faults.Goals as goal

pub loop-at-init : goal.loop-at-init
loop-at-init c =
    let same : length (into_iter_items c.into_iter-rest.result) ≡ length c.args.faults.items = ap length c.into_iter-rest.ensures.rest in
    record {
      told = begun c.args.faults.items _ _ c.into_iter-rest.ensures.rest c.new-list.ensures.items;
      left = omega (arith, same, c.len-count.ensures);
    }

pub returns-in_default : goal.returns-in_default
returns-in_default c =
    all_told _ _ _ (nothing_left _ _ _ c.loop-at.rest.rest.ok.0 c.next.ensures.variant c.in_default.is) c.loop-at.invariant.told

pub loop-at-preserved : goal.loop-at-preserved
loop-at-preserved c =
    let fewer : length (into_iter_items c.loop-at.rest) ≡ suc (length (into_iter_items c.next.new.self)) = ap length c.in-Some.ensures.items in
    record {
      told = one_more _ _ c.in-Some.placed _ _ _ c.in_ok-push_untold.ensures c.in-Some.ensures.items c.loop-at.invariant.told;
      left = omega (arith, fewer, c.loop-at.invariant.left, c.loop-at-test.true);
    }

pub returns : goal.returns
returns c =
    let none : length (into_iter_items c.loop-at.rest) ≡ 0 = omega (arith, c.loop-at.invariant.left, c.loop-at-test.false) in
    all_told _ _ _ (none_left _ none) c.loop-at.invariant.told
