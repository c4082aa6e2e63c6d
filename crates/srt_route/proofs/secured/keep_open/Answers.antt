use Rattle.std.proofs.Common.{◌<◌, length, refl, arith, ◌∙◌}
use Rattle.srt_route.proofs.steps.Securing.{kept_all, kept_first, kept_more}
use Rattle.srt_route.proofs.secured.keep_open.Goals as goal

pub loop-at-init : goal.loop-at-init
loop-at-init c = record { kept = λ e index clock ss m is are. kept_first e c.args.keys.now ss m are; places = refl }

pub loop-at-preserved : goal.loop-at-preserved
loop-at-preserved c =
    let inside : c.loop-at.at < length c.args.table.now.seats.items = omega (arith, c.loop-at-test.true, c.len-at-end.ensures) in
    record {
      kept = λ e index clock ss m is are.
          kept_more e index clock c.loop-at.at c.args.table.now ss c.loop-at.keys c.keep_slot.new.keys m c.index.result.now is inside c.index.ensures
          (c.loop-at.invariant.kept e index clock ss m is are) c.keep_slot.ensures.keys;
      places = c.keep_slot.ensures.places ∙ c.loop-at.invariant.places;
    }

pub returns-clause-kept : goal.returns-clause-kept
returns-clause-kept c e index clock ss m is are =
    kept_all e index clock c.loop-at.at c.args.table.now ss c.loop-at.keys m is (omega (arith, c.loop-at-test.false, c.len-at-end.ensures))
    (c.loop-at.invariant.kept e index clock ss m is are)
