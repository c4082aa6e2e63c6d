use Rattle.std.proofs.Common.{◌≡◌, ℕ, List, length, take, drop, ◌++◌, set, refl, sym, ap, subst, ◌∙◌, arith}
use Rattle.std.proofs.Math.Seq.{take-append_seam}
use Rattle.srt_pub.specs.Calls.{next_delivery}
use Rattle.srt_route.specs.declared.seat.Seat.{Seat}
use Rattle.srt_route.specs.Sessions.{terms_of, time_in}
use Rattle.srt_route.specs.inside.Delivery.{AreGiven}
use Rattle.srt_route.proofs.steps.Passing.{publisher_at, given_if, turn_taken}
use Rattle.srt_route.proofs.delivery.deliver_next.Goals as goal

pub returns-clause-given : goal.returns-clause-given
returns-clause-given c e index ss at s q its =
    let p = publisher_at e index c.args.clock c.args.table.now ss at s q c.args.which _ c.index_mut-publisher.result.now its
    c.place.ensures.value c.index_mut-publisher.ensures.value in
    let time = time_in s c.args.clock in
    let terms = (terms_of e s).publisher in
    c.pass_on.ensures.given terms s.conclusion.initial s.opening s.stamp s.conclusion.caller time q p.moment p.stands
    ∙ given_if (next_delivery terms time c.args.room q)

pub returns-clause-table : goal.returns-clause-table
returns-clause-table c e index ss at s q its has =
    let old = c.args.table.now.seats in
    let new = c.pass_on.new.seats in
    let p = publisher_at e index c.args.clock c.args.table.now ss at s q c.args.which _ c.index_mut-publisher.result.now its
    c.place.ensures.value c.index_mut-publisher.ensures.value in
    let time = time_in s c.args.clock in
    let terms = (terms_of e s).publisher in
    let next = next_delivery terms time c.args.room q in
    let many : old.len ≡ length new = omega (arith, c.pass_on.ensures.same_length, ap length c.deref_mut.ensures.value, old.ok.0) in
    let whole : take old.len (new ++ drop (length new) old.items) ≡ new =
    ap (λ (n : ℕ). take n (new ++ drop (length new) old.items)) many ∙ take-append_seam new _ in
    let given = c.pass_on.ensures.seats terms s.conclusion.initial s.opening s.stamp s.conclusion.caller time q p.moment p.stands in
    turn_taken e index c.args.clock c.args.table.now _ ss at s q c.args.which c.pass_on.new.publisher c.args.room next refl its has
    (refl, refl, refl, refl, refl, refl)
    (ap (λ (n : ℕ). set c.args.table.now.publishers.items n c.pass_on.new.publisher) c.place.ensures.value)
    (subst (λ (seats : List Seat). AreGiven c.args.clock next old.items seats) (sym whole)
    (subst (λ (seats : List Seat). AreGiven c.args.clock next seats new) c.deref_mut.ensures.value given))
    (c.pass_on.ensures.publisher terms s.conclusion.initial s.opening s.stamp s.conclusion.caller time q p.moment p.stands)
