use Rattle.std.proofs.Common.{◌≡◌, ◌<◌, Option, length, get_or, refl, sym, subst, arith}
use Rattle.srt_route.specs.declared.ledger.EndCause.{EndCause}
use Rattle.srt_route.specs.declared.seat.Seat.{Seat}
use Rattle.srt_route.specs.Ledgers.{drained_cause}
use Rattle.srt_route.specs.declared.publisher_buffers.PublisherBuffers.{PublisherBuffers}
use Rattle.srt_route.specs.inside.Notes.{NotesAt}
use Rattle.srt_route.specs.inside.Drains.{TellsOf, drained_in}
use Rattle.srt_route.proofs.stored.Kept.{next_is, one_done}
use Rattle.srt_route.proofs.steps.Draining.{Settles, all_ends, all_settled, one_ended}
use Rattle.srt_route.proofs.draining.settle_each.Goals as goal

pub loop-at-preserved : goal.loop-at-preserved
loop-at-preserved c =
    let old = c.args.table.now in
    let now = c.loop-at.invariant in
    let inside : c.loop-at.at < length old.seats.items = omega (arith, c.loop-at-test.true, c.len-at-end.ensures) in
    let x = c.index_mut.result.now in
    let there = c.index_mut.ensures.value in
    let tells : TellsOf old.publishers.items x (λ e o. c.is_drained-ends.result ≡ drained_in e o) =
    subst (λ (v : _). TellsOf v.items x (λ e o. c.is_drained-ends.result ≡ drained_in e o)) now.seats.publishers_are
    (subst (λ (z : Seat). TellsOf c.loop-at.table.publishers.items z (λ e o. c.is_drained-ends.result ≡ drained_in e o)) (sym there)
    (c.is_drained-ends.ensures x)) in
    record {
      seats = one_done (Settles old.publishers.items old.mode c.args.delivered c.args.clock) c.loop-at.at old c.loop-at.table _ x c.settle.new.self
          now.seats inside there
          (record { ends = c.is_drained-ends.result; ends_is = tells; seat_is = c.settle.ensures })
          (refl, refl, refl, refl, refl, refl) refl refl;
      ends = one_ended c.args.clock c.loop-at.at old c.loop-at.table c.args.ledger.now c.loop-at.ledger c.note_by.new.self x c.is_drained-ends.result
          now.ends inside
          (next_is (Settles old.publishers.items old.mode c.args.delivered c.args.clock) c.loop-at.at old c.loop-at.table x now.seats inside there)
          there tells
          (λ d. subst
          (λ (o : Option PublisherBuffers).
          NotesAt o old.publishers.items c.loop-at.at (drained_cause c.is_drained-ends.result) c.args.clock (get_or c.loop-at.table.seats.items c.loop-at.at d)
          c.loop-at.ledger c.note_by.new.self)
          c.active_buffers-active.ensures.value
          (subst
          (λ (v : _).
          NotesAt c.active_buffers-active.result v.items c.loop-at.at (drained_cause c.is_drained-ends.result) c.args.clock
          (get_or c.loop-at.table.seats.items c.loop-at.at d) c.loop-at.ledger c.note_by.new.self)
          now.seats.publishers_are
          (subst
          (λ (cause : Option EndCause).
          NotesAt c.active_buffers-active.result c.loop-at.table.publishers.items c.loop-at.at cause c.args.clock
          (get_or c.loop-at.table.seats.items c.loop-at.at d) c.loop-at.ledger c.note_by.new.self)
          c.drained_cause.ensures (c.note_by.ensures d))));
    }

pub returns-clause-table : goal.returns-clause-table
returns-clause-table c e index ss body =
    all_settled e index c.args.clock c.loop-at.at c.args.delivered c.args.table.now c.loop-at.table ss body c.loop-at.invariant.seats
    (omega (arith, c.loop-at-test.false, c.len-at-end.ensures))

pub returns-clause-ends : goal.returns-clause-ends
returns-clause-ends c e index ss body =
    all_ends c.args.clock c.loop-at.at c.args.table.now c.args.ledger.now c.loop-at.ledger c.loop-at.invariant.ends
    (omega (arith, c.loop-at-test.false, c.len-at-end.ensures)) e index ss body
