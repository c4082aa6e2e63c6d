use Rattle.std.proofs.Common.{◌+◌, ℕ, length, slice_get, sym, ap, ◌∙◌, arith}
use Rattle.srt_mailbox.specs.Identities.{identity_in}
use Rattle.srt_mailbox.specs.Places.{arrived}
use Rattle.srt_serve.proofs.Openings.{one_more, terms_grow, clocks_grow, tokens_grow}
use Rattle.srt_serve.proofs.opening.open_routes.Goals as goal

pub seat_route-requires : goal.seat_route-requires
seat_route-requires g c late = absurd (omega (arith, late, c.requires, c.loop-entry-test.true, c.loop-entry.invariant.index))

pub loop-entry-preserved : goal.loop-entry-preserved
loop-entry-preserved g c =
    let taken = c.in_ok-token.ensures.taken in
    let clocked = c.in_ok-take_first_clock.ensures.taken in
    record {
      terms =
          terms_grow c.args.entries.now c.loop-entry.entry-index c.entry-item.result _ _ _ c.loop-entry-test.true c.entry-item.is
          c.in-Ok.ensures.seated.0 taken.1 c.loop-entry.invariant.terms;
      opened =
          rw (taken.1, taken.2) (one_more (arrived c.loop-entry.routes) c.loop-entry.ends.items _ taken.0 taken.3 c.loop-entry.invariant.opened);
      clocks = clocks_grow _ _ _ _ clocked.0 clocked.1 clocked.2 c.loop-entry.invariant.clocks;
      places = c.take_first.ensures.places ∙ c.loop-entry.invariant.places;
      clocked = c.take_first_clock.ensures.places ∙ c.loop-entry.invariant.clocked;
      room = omega (arith, c.loop-entry.invariant.room, c.take_first.ensures.room);
      clock_room = omega (arith, c.loop-entry.invariant.clock_room, c.take_first_clock.ensures.room);
      put =
          tokens_grow (λ t. t.of) (λ t. identity_in t.value.cell) (λ p. p.seat.id) c.args.places.now _ _ _ _ _ _
          c.loop-entry.invariant.put c.in_ok-push.ensures.items taken.1 c.in_ok-token.ensures.put.1
          (ap (λ ns. slice_get ns (length (arrived c.loop-entry.routes))) (sym c.loop-entry.invariant.places) ∙ c.in_ok-token.ensures.put.0);
      index = ap (λ (n : ℕ). n + 1) c.loop-entry.invariant.index;
    }
