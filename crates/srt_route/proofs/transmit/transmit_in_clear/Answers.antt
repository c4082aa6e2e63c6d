use Rattle.std.proofs.Common.{◌≡◌, ◌<◌, ◌∙◌, Bool, Option, None, [], length, map, get_or, refl, sym, subst, arith}
use Rattle.srt_route.specs.declared.ledger.EndCause.{EndCause}
use Rattle.srt_route.specs.declared.seat.Seat.{Seat}
use Rattle.srt_route.specs.Route.{sent, served}
use Rattle.srt_route.specs.Ends.{EndsAre, file_ending, kept_of}
use Rattle.srt_route.specs.Ledgers.{entry_of, file_cause}
use Rattle.srt_route.specs.inside.Notes.{NotesAt}
use Rattle.srt_route.specs.inside.Standby.{active_in}
use Rattle.srt_route.specs.Tables.{IsTable, buffers_of}
use Rattle.srt_route.proofs.stored.Stored.{same_read}
use Rattle.srt_route.specs.Waits.{replies_of, places_of}
use Rattle.srt_route.specs.inside.Files.{HasWhole, finished_subscriber, none_own}
use Rattle.srt_route.specs.inside.Reports.{Queues}
use Rattle.srt_route.proofs.stored.Kept.{some_buffers, none_done, next_is, seat_at, one_done, all_done}
use Rattle.srt_route.proofs.steps.Noting.{end_grows, grow_both}
use Rattle.srt_route.proofs.steps.Serving.{Serves, all_ends, finishes_subscribers, finishes_subscribers_marks, no_ends, one_ends, serve_slot}
use Rattle.srt_route.proofs.steps.Serving.{clear_ends, clear_says, served_becomes, serving, stays_served}
use Rattle.srt_route.proofs.steps.Slots.{saying_begins, saying_ends}
use Rattle.srt_route.proofs.transmit.transmit_in_clear.Goals as goal

pub loop-at-init : goal.loop-at-init
loop-at-init c = record {
  seats = none_done (Serves None c.args.clock c.is_file_over-over.result) c.args.table.now;
  notified = λ e index ss body. saying_begins (serving none_own e c.args.clock c.is_file_over-over.result) e ss (replies_of c.args.waiting.now) _;
  ends = λ e index ss body. no_ends e index c.is_file_over-over.result c.args.clock ss c.args.ledger.now;
  counts = (refl, refl);
  sums = ([], refl);
}

pub loop-at-preserved : goal.loop-at-preserved
loop-at-preserved c =
    let h = c.loop-at.invariant in
    let clock = c.args.clock in
    let over = c.is_file_over-over.result in
    let at = c.loop-at.at in
    let old = c.args.table.now in
    let inside : at < length old.seats.items = omega (arith, c.loop-at-test.true, c.len-at-end.ensures) in
    let x = c.index_mut.result.now in
    let R = Serves None clock over in
    let there = next_is R at old c.loop-at.table x h.seats inside c.index_mut.ensures.value in
    let whole = c.has_whole_file-whole.result in
    let same : c.index.result.now ≡ x = same_read c.loop-at.table.seats.items at c.index.result.now x
    (omega (arith, inside, h.seats.seats.same_length)) c.index.ensures c.index_mut.ensures.value in
    let has : HasWhole over x whole = subst (λ (z : Seat). HasWhole over z whole) same c.has_whole_file-whole.ensures.whole in
    let active = active_in c.loop-at.table in
    let noted : NotesAt active old.publishers.items at (file_cause whole) clock x c.loop-at.ledger c.note.new.self =
    subst (λ (v : _). NotesAt active v.items at (file_cause whole) clock x c.loop-at.ledger c.note.new.self) h.seats.publishers_are
    (subst (λ (z : Seat). NotesAt active c.loop-at.table.publishers.items at (file_cause whole) clock z c.loop-at.ledger c.note.new.self)
    (sym c.index_mut.ensures.value)
    (subst
    (λ (o : Option EndCause).
    NotesAt active c.loop-at.table.publishers.items at o clock (get_or c.loop-at.table.seats.items at x) c.loop-at.ledger c.note.new.self)
    c.file_cause.ensures (c.note.ensures x))) in
    record {
      seats = one_done R at old c.loop-at.table _ x c.serve_seat.new.seat h.seats inside c.index_mut.ensures.value
          (record {
            whole = whole;
            whole_is = has;
            ends = λ is. (c.serve_seat.ensures.ends is).seat_is;
            stays = λ is. stays_served clock x c.serve_seat.new.seat _ _ (c.serve_seat.ensures.served is);
          })
          (refl, refl, refl, refl, refl, refl) refl refl;
      notified = λ e index ss body.
          serve_slot none_own None e index clock over (buffers_of old.publishers.items x (some_buffers old)) ss at x c.serve_seat.new.seat whole
          (replies_of c.args.waiting.now) (places_of c.args.waiting.now) c.loop-at.waiting c.serve_seat.new.waiting
          refl (omega (arith, inside, body.places_are)) (seat_at e index clock old ss at x (some_buffers old) body inside there) has
          (λ is. clear_ends clock x c.serve_seat.new.seat c.loop-at.waiting c.serve_seat.new.waiting (c.serve_seat.ensures.ends is))
          (λ is. (c.serve_seat.ensures.served is).silent)
          (λ is. clear_says clock x c.serve_seat.new.seat c.loop-at.waiting c.serve_seat.new.waiting (c.serve_seat.ensures.served is))
          (h.notified e index ss body);
      ends = λ e index ss body.
          one_ends e index clock over whole active old.publishers.items (some_buffers old) ss at x c.args.ledger.now c.loop-at.ledger
          c.note.new.self (seat_at e index clock old ss at x (some_buffers old) body inside there) has noted (h.ends e index ss body);
      counts = (noted.counts.0 ∙ h.counts.0, noted.counts.1 ∙ h.counts.1);
      sums = grow_both c.args.ledger.now.totals c.loop-at.ledger.totals c.note.new.self.totals h.sums
          (end_grows _ (entry_of c.note.new.self at) c.loop-at.ledger.totals c.note.new.self.totals noted.sums);
    }

pub returns-clause-table : goal.returns-clause-table
returns-clause-table c e index ss body =
    let over = c.is_file_over-over.result in
    subst (λ (b : Bool). IsTable e index c.args.clock c.loop-at.table (map (finished_subscriber none_own e c.args.clock b) ss))
    (c.is_file_over-over.ensures e index c.args.clock ss body)
    (all_done (Serves None c.args.clock over) (finished_subscriber none_own e c.args.clock over) (finishes_subscribers none_own e c.args.clock over)
    (finishes_subscribers_marks none_own e c.args.clock over)
    e index c.args.clock c.args.clock c.loop-at.at c.args.table.now c.loop-at.table ss body body.early c.loop-at.invariant.seats
    (omega (arith, c.loop-at-test.false, c.len-at-end.ensures))
    (λ k p x y is h. served_becomes none_own None e index c.args.clock over k p x y ss refl is h))

pub returns-clause-said : goal.returns-clause-said
returns-clause-said c e index ss body =
    let over = c.is_file_over-over.result in
    subst (λ (b : Bool). Queues c.args.waiting.now c.loop-at.waiting (map sent (served none_own e c.args.clock b ss)))
    (c.is_file_over-over.ensures e index c.args.clock ss body)
    (saying_ends (serving none_own e c.args.clock over) e c.loop-at.at ss _ _ _ _
    (omega (arith, c.loop-at-test.false, c.len-at-end.ensures, body.places_are))
    (c.loop-at.invariant.notified e index ss body))

pub returns-clause-ends : goal.returns-clause-ends
returns-clause-ends c e index ss body =
    let over = c.is_file_over-over.result in
    subst (λ (b : Bool). EndsAre e index (file_ending b) c.args.clock ss (kept_of c.args.ledger.now) (kept_of c.loop-at.ledger))
    (c.is_file_over-over.ensures e index c.args.clock ss body)
    (all_ends e index c.args.clock over c.args.table.now ss c.loop-at.at c.args.ledger.now c.loop-at.ledger body
    (omega (arith, c.loop-at-test.false, c.len-at-end.ensures, c.loop-at.invariant.seats.seats.same_length)) (c.loop-at.invariant.ends e index ss body))

pub returns-clause-counts : goal.returns-clause-counts
returns-clause-counts c = c.loop-at.invariant.counts

pub returns-clause-sums : goal.returns-clause-sums
returns-clause-sums c = c.loop-at.invariant.sums
