use Rattle.std.proofs.Common.{◌<◌, length, refl, ap, arith}
use Rattle.srt_types.specs.declared.shared.Rules.{Rules}
use Rattle.srt_route.specs.Sessions.{aged}
use Rattle.srt_route.specs.Tables.{buffers_of}
use Rattle.srt_route.specs.Waits.{replies_of}
use Rattle.srt_route.proofs.steps.Aging.{IsAged, ages, ages_marks, aged_becomes}
use Rattle.srt_route.proofs.steps.Slots.{saying_begins, saying_ends}
use Rattle.srt_route.proofs.steps.Telling.{idle_slot, notified_one}
use Rattle.srt_route.proofs.stored.Kept.{some_buffers, none_done, next_is, seat_at, one_done, all_done}
use Rattle.srt_route.proofs.silence.end_idle.Goals as goal

pub loop-at-init : goal.loop-at-init
loop-at-init c = record {
  places_are = omega (arith, c.len-places.ensures);
  aged = none_done (IsAged c.args.clock) c.args.table.now;
  notified = λ e index earlier ss body. saying_begins (notified_one e c.args.clock) e ss (replies_of c.args.waiting.now) _;
}

pub loop-at-preserved : goal.loop-at-preserved
loop-at-preserved c =
    let now = c.loop-at.invariant in
    let inside : c.loop-at.at < length c.args.table.now.seats.items = omega (arith, now.places_are, c.loop-at-test.true) in
    let x = c.index_mut.result.now in
    record {
      places_are = now.places_are;
      aged = one_done (IsAged c.args.clock) c.loop-at.at c.args.table.now c.loop-at.table _ x c.pass_time.new.seat
          now.aged inside c.index_mut.ensures.value
          (record {
            count_is = c.pass_time.ensures.generation;
            session_is = c.pass_time.ensures.session;
            buffers_are = (c.pass_time.ensures.expires, c.pass_time.ensures.stays);
          })
          (refl, refl, refl, refl, refl, refl) refl refl;
      notified = λ e index earlier ss body.
          idle_slot e index earlier c.args.clock (buffers_of c.args.table.now.publishers.items x (some_buffers c.args.table.now)) ss c.loop-at.at x
          c.args.table.now.rules.callers (replies_of c.args.waiting.now) (replies_of c.loop-at.waiting) (replies_of c.pass_time.new.waiting) _ _ _
          (omega (arith, inside, body.places_are))
          (seat_at e index earlier c.args.table.now ss c.loop-at.at x (some_buffers c.args.table.now) body inside
          (next_is (IsAged c.args.clock) c.loop-at.at c.args.table.now c.loop-at.table x now.aged inside c.index_mut.ensures.value))
          (ap (λ (r : Rules). r.callers) body.rules_are)
          c.pass_time.ensures.said (now.notified e index earlier ss body);
    }

pub returns-clause-table : goal.returns-clause-table
returns-clause-table c e index before sessions h later early =
    let now = c.loop-at.invariant in
    all_done (IsAged c.args.clock) (aged e c.args.clock) (ages e c.args.clock) (ages_marks e c.args.clock)
    e index before c.args.clock c.loop-at.at c.args.table.now
    c.loop-at.table sessions h early now.aged (omega (arith, now.places_are, c.loop-at-test.false))
    (λ k p x y is has. aged_becomes e index before c.args.clock k p x y sessions later is has)

pub returns-clause-said : goal.returns-clause-said
returns-clause-said c e index earlier sessions h =
    let now = c.loop-at.invariant in
    saying_ends (notified_one e c.args.clock) e c.loop-at.at sessions _ _ _ _ (omega (arith, now.places_are, c.loop-at-test.false, h.places_are))
    (now.notified e index earlier sessions h)
