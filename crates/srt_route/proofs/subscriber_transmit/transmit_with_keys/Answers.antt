use Rattle.std.proofs.Common.{◌≡◌, ℕ, ◌<◌, ◌≤◌, ◌∙◌, Bool, Option, [], length, map, get_or, refl, sym, ap, subst, arith}
use Rattle.std.proofs.lemmas.List.{get_or_default}
use Rattle.srt_route.specs.declared.ledger.EndCause.{EndCause}
use Rattle.srt_route.specs.declared.seat.Seat.{Seat}
use Rattle.srt_route.specs.declared.slot_keys.KeyPlace.{KeyPlace}
use Rattle.srt_route.specs.Route.{sent, served}
use Rattle.srt_route.specs.RouteKeys.{own_in, own_keys}
use Rattle.srt_route.specs.SlotKeys.{place_keys_of}
use Rattle.srt_route.specs.Ends.{EndsAre, file_ending, kept_of}
use Rattle.srt_route.specs.Ledgers.{entry_of, file_cause}
use Rattle.srt_route.specs.inside.Notes.{NotesAt}
use Rattle.srt_route.specs.inside.Standby.{active_in}
use Rattle.srt_route.specs.Tables.{IsTable, buffers_of}
use Rattle.srt_route.specs.inside.Reports.{Queues}
use Rattle.srt_route.proofs.stored.Stored.{same_read}
use Rattle.srt_route.specs.Waits.{replies_of, places_of}
use Rattle.srt_route.specs.inside.Files.{HasWhole, finished_subscriber}
use Rattle.srt_route.proofs.stored.Kept.{some_buffers, seat_at}
use Rattle.srt_route.proofs.stored.KeptInOrder.{all_done_in, next_in, none_done_in, none_in, one_done_in, one_in}
use Rattle.srt_route.proofs.steps.Noting.{end_grows, grow_both}
use Rattle.srt_route.proofs.steps.Serving.{Serves, all_ends, finishes_subscribers, finishes_subscribers_marks, keyed_ends}
use Rattle.srt_route.proofs.steps.Serving.{keyed_says, keyed_stays, no_ends, one_ends}
use Rattle.srt_route.proofs.steps.Serving.{ServesKeys, serve_slot, served_becomes, serving}
use Rattle.srt_route.proofs.steps.Feeding.{Changes}
use Rattle.srt_route.proofs.steps.Saying.{Tells}
use Rattle.srt_route.proofs.steps.Slots.{saying_begins, saying_ends}
use Rattle.srt_route.proofs.steps.Transmitting.{KeepsPlace, keys_done, no_place, own_stored, serves_keys}
use Rattle.srt_route.proofs.subscriber_transmit.transmit_with_keys.Goals as goal

pub loop-at-init : goal.loop-at-init
loop-at-init c = record {
  seats = none_done_in
      (λ k. Serves (own_keys (place_keys_of (get_or c.args.keys.now.slots.items k no_place))) c.args.clock c.is_file_over-over.result) c.args.table.now;
  places = none_in (KeepsPlace c.args.clock c.is_file_over-over.result c.args.table.now.seats.items) c.args.keys.now.slots.items;
  rest = (refl, refl, refl, refl);
  notified = λ e index ss m body are secured.
      saying_begins (serving (own_in e m) e c.args.clock c.is_file_over-over.result) e ss (replies_of c.args.waiting.now) _;
  ends = λ e index ss body. no_ends e index c.is_file_over-over.result c.args.clock ss c.args.ledger.now;
  counts = (refl, refl);
  sums = ([], refl);
}

pub loop-at-preserved : goal.loop-at-preserved
loop-at-preserved c =
    let h = c.loop-at.invariant in
    let clock = c.args.clock in
    let over = c.is_file_over-over.result in
    let at = c.loop-at.at in
    let old = c.args.table.now in
    let first = c.args.keys.now in
    let inside : at < length old.seats.items = omega (arith, c.loop-at-test.true, c.len-at-end.ensures) in
    let within : at < length first.slots.items = omega (arith, inside, c.requires.places) in
    let x = c.index_mut.result.now in
    let p = c.index_mut-in-loop-at.result.now in
    let R : ℕ → Seat → Seat → Type 0 = λ (k : ℕ). Serves (own_keys (place_keys_of (get_or first.slots.items k no_place))) clock over in
    let there = next_in R at old c.loop-at.table x h.seats c.index_mut.ensures.value in
    let here : get_or first.slots.items at no_place ≡ p =
    get_or_default first.slots.items at no_place p within ∙ sym (c.index_mut-in-loop-at.ensures.value ∙ h.places.ahead at p (omega arith)) in
    let mine : own_keys (place_keys_of (get_or first.slots.items at no_place)) ≡ own_keys (place_keys_of p) =
    ap (λ (q : KeyPlace). own_keys (place_keys_of q)) here in
    let whole = c.has_whole_file-whole.result in
    let same : c.index.result.now ≡ x = same_read c.loop-at.table.seats.items at c.index.result.now x
    (omega (arith, inside, h.seats.seats.same_length)) c.index.ensures c.index_mut.ensures.value in
    let has : HasWhole over x whole = subst (λ (z : Seat). HasWhole over z whole) same c.has_whole_file-whole.ensures.whole in
    let active = active_in c.loop-at.table in
    let noted : NotesAt active old.publishers.items at (file_cause whole) clock x c.loop-at.ledger c.note.new.self =
    subst (λ (v : _). NotesAt active v.items at (file_cause whole) clock x c.loop-at.ledger c.note.new.self) h.seats.publishers_are
    (subst (λ (z : Seat). NotesAt active c.loop-at.table.publishers.items at (file_cause whole) clock z c.loop-at.ledger c.note.new.self)
    (sym c.index_mut.ensures.value)
    (subst
    (λ (o : Option EndCause).
    NotesAt active c.loop-at.table.publishers.items at o clock (get_or c.loop-at.table.seats.items at x) c.loop-at.ledger c.note.new.self)
    c.file_cause.ensures (c.note.ensures x))) in
    let earlier = place_keys_of p in
    let later = place_keys_of c.serve_place.new.place in
    record {
      seats = one_done_in R at old c.loop-at.table _ x c.serve_place.new.seat h.seats inside c.index_mut.ensures.value
          (record {
            whole = whole;
            whole_is = has;
            ends = λ is. (c.serve_place.ensures.ends is).seat_is;
            stays = λ is.
                subst (λ (k : _). Changes (Tells k clock) x c.serve_place.new.seat) (sym mine)
                (keyed_stays clock earlier later x c.serve_place.new.seat _ _ (c.serve_place.ensures.served is));
          })
          (refl, refl, refl, refl, refl, refl) refl refl;
      places = one_in (KeepsPlace clock over old.seats.items) at first.slots.items c.loop-at.keys.slots.items _ p c.serve_place.new.place h.places within
          c.index_mut-in-loop-at.ensures.value
          (λ z z_is. subst (λ (y : Seat). ServesKeys clock over y earlier later) (same_read old.seats.items at x z inside there z_is)
          (serves_keys clock over whole x c.serve_place.new.seat earlier later c.loop-at.waiting c.serve_place.new.waiting has c.serve_place.ensures.ends
          c.serve_place.ensures.served))
          refl;
      rest = h.rest;
      notified = λ e index ss m body are secured.
          serve_slot (own_in e m) (own_keys earlier) e index clock over (buffers_of old.publishers.items x (some_buffers old)) ss at x
          c.serve_place.new.seat whole (replies_of c.args.waiting.now) (places_of c.args.waiting.now) c.loop-at.waiting c.serve_place.new.waiting
          (own_stored e first m at no_place are secured (omega (arith, inside, body.places_are)) ∙ mine)
          (omega (arith, inside, body.places_are)) (seat_at e index clock old ss at x (some_buffers old) body inside there) has
          (λ is. keyed_ends clock earlier later x c.serve_place.new.seat c.loop-at.waiting c.serve_place.new.waiting (c.serve_place.ensures.ends is))
          (λ is. (c.serve_place.ensures.served is).silent)
          (λ is. keyed_says clock earlier later x c.serve_place.new.seat c.loop-at.waiting c.serve_place.new.waiting (c.serve_place.ensures.served is))
          (h.notified e index ss m body are secured);
      ends = λ e index ss body.
          one_ends e index clock over whole active old.publishers.items (some_buffers old) ss at x c.args.ledger.now c.loop-at.ledger
          c.note.new.self (seat_at e index clock old ss at x (some_buffers old) body inside there) has noted (h.ends e index ss body);
      counts = (noted.counts.0 ∙ h.counts.0, noted.counts.1 ∙ h.counts.1);
      sums = grow_both c.args.ledger.now.totals c.loop-at.ledger.totals c.note.new.self.totals h.sums
          (end_grows _ (entry_of c.note.new.self at) c.loop-at.ledger.totals c.note.new.self.totals noted.sums);
    }

pub returns-clause-served : goal.returns-clause-served
returns-clause-served c e index ss m body are secured =
    let clock = c.args.clock in
    let over = c.is_file_over-over.result in
    let h = c.loop-at.invariant in
    let old = c.args.table.now in
    let first = c.args.keys.now in
    let all : length old.seats.items ≤ c.loop-at.at = omega (arith, c.loop-at-test.false, c.len-at-end.ensures) in
    let own = own_in e m in
    record {
      table_is = subst (λ (b : Bool). IsTable e index clock c.loop-at.table (map (finished_subscriber own e clock b) ss))
          (c.is_file_over-over.ensures e index clock ss body)
          (all_done_in (λ k. Serves (own_keys (place_keys_of (get_or first.slots.items k no_place))) clock over)
          (finished_subscriber own e clock over) (finishes_subscribers own e clock over) (finishes_subscribers_marks own e clock over)
          e index clock clock c.loop-at.at old c.loop-at.table ss body body.early h.seats all
          (λ k p x y below is served. served_becomes own (own_keys (place_keys_of (get_or first.slots.items k no_place))) e index clock over k p x y ss
          (own_stored e first m k no_place are secured (omega (arith, below, body.places_are))) is served));
      keys_are = keys_done e index clock over c.loop-at.at old ss first c.loop-at.keys m body are secured all h.rest h.places;
      said = subst (λ (b : Bool). Queues c.args.waiting.now c.loop-at.waiting (map sent (served own e clock b ss)))
          (c.is_file_over-over.ensures e index clock ss body)
          (saying_ends (serving own e clock over) e c.loop-at.at ss _ _ _ _
          (omega (arith, c.loop-at-test.false, c.len-at-end.ensures, body.places_are)) (h.notified e index ss m body are secured));
    }

pub returns-clause-ends : goal.returns-clause-ends
returns-clause-ends c e index ss body =
    let over = c.is_file_over-over.result in
    subst (λ (b : Bool). EndsAre e index (file_ending b) c.args.clock ss (kept_of c.args.ledger.now) (kept_of c.loop-at.ledger))
    (c.is_file_over-over.ensures e index c.args.clock ss body)
    (all_ends e index c.args.clock over c.args.table.now ss c.loop-at.at c.args.ledger.now c.loop-at.ledger body
    (omega (arith, c.loop-at-test.false, c.len-at-end.ensures, c.loop-at.invariant.seats.seats.same_length)) (c.loop-at.invariant.ends e index ss body))

pub returns-clause-counts : goal.returns-clause-counts
returns-clause-counts c = c.loop-at.invariant.counts

pub returns-clause-sums : goal.returns-clause-sums
returns-clause-sums c = c.loop-at.invariant.sums
