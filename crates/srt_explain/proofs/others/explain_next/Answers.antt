use Rattle.std.proofs.Common.{◌≡◌, ◌+◌, ◌-◌, suc, inl, inr, sym, subst, arith}
use Rattle.srt_explain.specs.Listing.{ArePrivate}
use Rattle.srt_explain.proofs.Told.{nothing_left, first_passed, one_more, none_more, private_more}
use Rattle.srt_explain.proofs.others.explain_next.Goals as goal

pub loop-at-init : goal.loop-at-init
loop-at-init c = record {
  told = first_passed c.args.faults.items _ _ _ _ _ c.into_iter-rest.result.rest.ok.0 c.next.ensures.variant c.into_iter-rest.ensures.rest
      c.next.ensures.items c.new-list.ensures.items;
  hidden = subst ArePrivate (sym c.new-list.ensures.items) tt;
}

pub returns-in_default-clause-told : goal.returns-in_default-clause-told
returns-in_default-clause-told c =
    none_more _ _ _ _ (inr (nothing_left _ _ _ c.loop-at.rest.rest.ok.0 c.next-in-loop-at.ensures.variant c.in_default.is)) c.loop-at.invariant.told

pub returns-in_default-clause-private : goal.returns-in_default-clause-private
returns-in_default-clause-private c = c.loop-at.invariant.hidden

pub loop-at-preserved : goal.loop-at-preserved
loop-at-preserved c =
    let left : 20 - c.loop-at.at ≡ suc (20 - (c.loop-at.at + 1)) = omega (arith, c.loop-at-test.true) in
    record {
      told = one_more _ _ _ c.in-Some.placed _ _ _ _ _ c.in_ok-push.ensures.items c.in-Some.ensures.items c.explained_line.ensures.fault
          c.explained_line.ensures.part left c.loop-at.invariant.told;
      hidden = private_more _ _ _ c.in_ok-push.ensures.items c.loop-at.invariant.hidden c.explained_line.ensures.private;
    }

pub returns-clause-told : goal.returns-clause-told
returns-clause-told c =
    let left : 20 - c.loop-at.at ≡ 0 = omega (arith, c.loop-at-test.false) in
    none_more _ _ _ _ (inl left) c.loop-at.invariant.told

pub returns-clause-private : goal.returns-clause-private
returns-clause-private c = c.loop-at.invariant.hidden
