use Rattle.std.proofs.Common.{◌≡◌, ℕ, suc, List, [], map, ◌+◌, ◌-◌, ◌∙◌, refl, sym, ap, subst, arith}
use Rattle.srt_types.specs.declared.shared.Mode.{Mode}
use Rattle.srt_pub.specs.Calls.{gives, leaves, room_after}
use Rattle.srt_route.specs.Past.{payload_of}
use Rattle.srt_route.specs.Sessions.{Session, terms_of, time_in}
use Rattle.srt_route.specs.Tables.{IsTable, Uses}
use Rattle.srt_route.specs.inside.Delivery.{changed, amid}
use Rattle.srt_route.proofs.steps.Passing.{nothing_amid}
use Rattle.srt_route.proofs.steps.Turns.{IsPassing, has_least, publisher_amid, goes_on, ends, ends_early}
use Rattle.srt_route.proofs.steps.Delivered.{passed_on_is}
use Rattle.srt_route.specs.inside.Delivery.{IsPublisherOf, HaveRoom}
use Rattle.srt_route.proofs.delivery.deliver_each.Goals as goal

pub loop-turn-init : goal.loop-turn-init
loop-turn-init c = record {
  passing = λ e index ss at s q its least_is.
      let same = nothing_amid e index c.args.clock c.args.table.now ss at s q its.body its.here in
      record {
        done = q;
        before = [];
        body = subst (λ (ts : List Session). IsTable e index c.args.clock c.args.table.now ts) (sym same) its.body;
        room = subst (λ (ts : List Session). HaveRoom e c.args.room ts) (sym same)
            (has_least e index c.args.clock c.args.table.now ss c.args.room its.body least_is);
        given_is = refl;
        left_is = refl;
      };
  stays = λ at d. refl;
}

pub returns-then-not-deliver_next-clause-table : goal.returns-then-not-deliver_next-clause-table
returns-then-not-deliver_next-clause-table c e index ss at s q its least_is =
    let h = c.loop-turn.invariant.passing e index ss at s q its least_is in
    let middle = publisher_amid e c.args.clock ss at s q h.done h.before its.here in
    let after = map (changed (amid e c.args.clock at h.done h.before)) ss in
    let given = map payload_of (gives (terms_of e s).publisher (time_in s c.args.clock) c.args.room 64 q) in
    let left = leaves (terms_of e s).publisher (time_in s c.args.clock) c.args.room 64 q in
    let one : 64 - c.loop-turn.turn ≡ suc (63 - c.loop-turn.turn) = omega (arith, c.loop-turn-test.true) in
    let still : Uses c.loop-turn.table at c.args.which = λ d. its.uses d ∙ sym (c.loop-turn.invariant.stays at d) in
    let there : IsPublisherOf e index c.args.clock c.loop-turn.table after at _ h.done c.args.which =
    record { body = h.body; here = middle; uses = still } in
    let now =
    ends_early e index c.args.clock c.loop-turn.table c.deliver_next.new.table ss at s c.loop-turn.room (64 - c.loop-turn.turn)
    (63 - c.loop-turn.turn) given left h one
    (sym c.if-not-deliver_next.true ∙ c.deliver_next.ensures.given e index after at _ h.done there)
    (c.deliver_next.ensures.table e index after at _ h.done there h.room) in
    subst (λ (ts : List Session). IsTable e index c.args.clock c.deliver_next.new.table ts)
    (passed_on_is e index c.args.clock c.args.table.now ss at s q c.args.which c.args.room its least_is) now

pub returns-then-not-deliver_next-clause-stays : goal.returns-then-not-deliver_next-clause-stays
returns-then-not-deliver_next-clause-stays c at d = c.deliver_next.ensures.stays at d ∙ c.loop-turn.invariant.stays at d

pub loop-turn-preserved : goal.loop-turn-preserved
loop-turn-preserved c = record {
  passing = λ e index ss at s q its least_is.
      let h = c.loop-turn.invariant.passing e index ss at s q its least_is in
      let middle = publisher_amid e c.args.clock ss at s q h.done h.before its.here in
      let after = map (changed (amid e c.args.clock at h.done h.before)) ss in
      let given = map payload_of (gives (terms_of e s).publisher (time_in s c.args.clock) c.args.room 64 q) in
      let left = leaves (terms_of e s).publisher (time_in s c.args.clock) c.args.room 64 q in
      let one : 64 - c.loop-turn.turn ≡ suc (64 - (c.loop-turn.turn + 1)) = omega (arith, c.loop-turn-test.true) in
      let still : Uses c.loop-turn.table at c.args.which = λ d. its.uses d ∙ sym (c.loop-turn.invariant.stays at d) in
      let there : IsPublisherOf e index c.args.clock c.loop-turn.table after at _ h.done c.args.which =
      record { body = h.body; here = middle; uses = still } in
      let now =
      goes_on e index c.args.clock c.loop-turn.table c.deliver_next.new.table ss at s c.loop-turn.room (64 - c.loop-turn.turn)
      (64 - (c.loop-turn.turn + 1)) given left h one
      (sym c.if-not-deliver_next.false ∙ c.deliver_next.ensures.given e index after at _ h.done there)
      (c.deliver_next.ensures.table e index after at _ h.done there h.room) in
      let places : c.room_after-room.result ≡ room_after e.mode c.loop-turn.room =
      c.room_after-room.ensures ∙ ap (λ (mode : Mode). room_after mode c.loop-turn.room) now.body.mode_is in
      subst (λ (n : ℕ). IsPassing e index c.args.clock c.deliver_next.new.table ss at s n (64 - (c.loop-turn.turn + 1)) given left) (sym places) now;
  stays = λ at d. c.deliver_next.ensures.stays at d ∙ c.loop-turn.invariant.stays at d;
}

pub returns-clause-table : goal.returns-clause-table
returns-clause-table c e index ss at s q its least_is =
    let h = c.loop-turn.invariant.passing e index ss at s q its least_is in
    let given = map payload_of (gives (terms_of e s).publisher (time_in s c.args.clock) c.args.room 64 q) in
    let left = leaves (terms_of e s).publisher (time_in s c.args.clock) c.args.room 64 q in
    let none : 64 - c.loop-turn.turn ≡ 0 = omega (arith, c.loop-turn-test.false) in
    let now = ends e index c.args.clock c.loop-turn.table ss at s c.loop-turn.room given left
    (subst (λ (n : ℕ). IsPassing e index c.args.clock c.loop-turn.table ss at s c.loop-turn.room n given left) none h) in
    subst (λ (ts : List Session). IsTable e index c.args.clock c.loop-turn.table ts)
    (passed_on_is e index c.args.clock c.args.table.now ss at s q c.args.which c.args.room its least_is) now

pub returns-clause-stays : goal.returns-clause-stays
returns-clause-stays c at d = c.loop-turn.invariant.stays at d
