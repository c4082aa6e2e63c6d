use Rattle.std.proofs.Common.{◌≡◌, ◌<◌, ℕ, List, ◌-◌, ◌++◌, ◌∙◌, [], length, map, refl, sym, ap, subst, append-nil, arith}
use Rattle.srt_route.specs.Sessions.{Session, speaks}
use Rattle.srt_route.specs.Route.{Reply as Answer, sent}
use Rattle.srt_route.specs.Tables.{IsTable}
use Rattle.srt_route.specs.inside.Delivery.{changed}
use Rattle.srt_route.specs.Waits.{replies_of}
use Rattle.srt_route.proofs.steps.Saying.{nothing_said, same_said, said_from, tell_slot, below_notified, notified_below, none_below, all_below, same_in_slot}
use Rattle.srt_route.proofs.transmit.transmit_publishers.Goals as goal

pub loop-at-init : goal.loop-at-init
loop-at-init c = record {
  seats = refl;
  table = λ e index ss body. subst (λ (ts : List Session). IsTable e index c.args.clock c.args.table.now ts) (sym (none_below e c.args.clock ss)) body;
  notified = λ e index ss body.
      let all : e.sessions - 0 ≡ e.sessions = omega arith in
      record { notified = []; said = nothing_said (replies_of c.args.waiting.now) _; whole = ap (λ (n : ℕ). said_from e c.args.clock speaks ss 0 n) all };
}

pub loop-at-preserved : goal.loop-at-preserved
loop-at-preserved c =
    let h = c.loop-at.invariant in
    let at = c.loop-at.at in
    let inside : at < length c.args.table.now.seats.items = omega (arith, c.loop-at-test.true, c.len-at-end.ensures) in
    record {
      seats = c.transmit_publisher.ensures.seats ∙ h.seats;
      table = λ e index ss body.
          subst (λ (ts : List Session). IsTable e index c.args.clock c.transmit_publisher.new.table ts) (notified_below e c.args.clock at ss)
          (c.transmit_publisher.ensures.table e index (map (changed (below_notified e c.args.clock at)) ss) (h.table e index ss body));
      notified = λ e index ss body.
          tell_slot e c.args.clock speaks ss at (replies_of c.args.waiting.now) (replies_of c.loop-at.waiting)
          (replies_of c.transmit_publisher.new.waiting) _ _ _ (omega (arith, inside, body.places_are))
          (same_said (ap (λ (rs : List Answer). map sent rs) (same_in_slot e c.args.clock at ss))
          (c.transmit_publisher.ensures.said e index (map (changed (below_notified e c.args.clock at)) ss) (h.table e index ss body)))
          (h.notified e index ss body);
    }

pub returns-clause-table : goal.returns-clause-table
returns-clause-table c e index ss body =
    subst (λ (ts : List Session). IsTable e index c.args.clock c.loop-at.table ts)
    (all_below e index c.args.clock c.loop-at.at c.args.table.now ss body
    (omega (arith, c.loop-at-test.false, c.len-at-end.ensures, body.places_are)))
    (c.loop-at.invariant.table e index ss body)

pub returns-clause-said : goal.returns-clause-said
returns-clause-said c e index ss body =
    let h = c.loop-at.invariant.notified e index ss body in
    let none : e.sessions - c.loop-at.at ≡ 0 = omega (arith, c.loop-at-test.false, c.len-at-end.ensures, body.places_are) in
    same_said (sym (append-nil h.notified) ∙ (sym (ap (λ (n : ℕ). h.notified ++ said_from e c.args.clock speaks ss c.loop-at.at n) none) ∙ h.whole)) h.said
