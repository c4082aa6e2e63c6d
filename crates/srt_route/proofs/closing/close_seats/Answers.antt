use Rattle.std.proofs.Common.{◌<◌, ℕ, ◌-◌, ◌≡◌, [], length, refl, ap, arith}
use Rattle.srt_route.specs.Route.{ended}
use Rattle.srt_route.specs.Waits.{replies_of}
use Rattle.srt_route.specs.Tables.{buffers_of}
use Rattle.srt_route.proofs.stored.Kept.{some_buffers, none_done, next_is, seat_at, one_done, all_done}
use Rattle.srt_route.proofs.model.Ending.{IsEnded, ends, ends_marks, ended_becomes, ended_from, end_slot, all_ended}
use Rattle.srt_route.proofs.steps.Saying.{nothing_said}
use Rattle.srt_route.proofs.closing.close_seats.Goals as goal

pub loop-at-init : goal.loop-at-init
loop-at-init c = record {
  seats = none_done IsEnded c.args.table.now;
  notified = λ e index ss body.
      let all : e.sessions - 0 ≡ e.sessions = omega arith in
      record { notified = []; said = nothing_said (replies_of c.args.waiting.now) _; whole = ap (λ (n : ℕ). ended_from c.args.clock ss 0 n) all };
}

pub loop-at-preserved : goal.loop-at-preserved
loop-at-preserved c =
    let h = c.loop-at.invariant in
    let inside : c.loop-at.at < length c.args.table.now.seats.items = omega (arith, c.loop-at-test.true, c.len-at-end.ensures) in
    let x = c.index_mut.result.now in
    record {
      seats = one_done IsEnded c.loop-at.at c.args.table.now c.loop-at.table _ x c.close_seat.new.seat h.seats inside
          c.index_mut.ensures.value c.close_seat.ensures.seat (refl, refl, refl, refl, refl, refl) refl refl;
      notified = λ e index ss body.
          end_slot e index c.args.clock (buffers_of c.args.table.now.publishers.items x (some_buffers c.args.table.now)) ss c.loop-at.at x
          (replies_of c.args.waiting.now) (replies_of c.loop-at.waiting) (replies_of c.close_seat.new.waiting) _ _ _
          (omega (arith, inside, body.places_are))
          (seat_at e index c.args.clock c.args.table.now ss c.loop-at.at x (some_buffers c.args.table.now) body inside
          (next_is IsEnded c.loop-at.at c.args.table.now c.loop-at.table x h.seats inside c.index_mut.ensures.value))
          c.close_seat.ensures.said (h.notified e index ss body);
    }

pub returns-clause-table : goal.returns-clause-table
returns-clause-table c e index ss body =
    all_done IsEnded ended ends ends_marks e index c.args.clock c.args.clock c.loop-at.at c.args.table.now c.loop-at.table ss body body.early
    c.loop-at.invariant.seats (omega (arith, c.loop-at-test.false, c.len-at-end.ensures))
    (λ k p x y is h. ended_becomes e index c.args.clock k p x y ss is h)

pub returns-clause-said : goal.returns-clause-said
returns-clause-said c e index ss body =
    all_ended e c.args.clock c.loop-at.at ss _ _ _ _ (omega (arith, c.loop-at-test.false, c.len-at-end.ensures, body.places_are))
    (c.loop-at.invariant.notified e index ss body)
