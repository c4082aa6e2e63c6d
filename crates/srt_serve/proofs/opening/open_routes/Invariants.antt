use Rattle.std.proofs.Common.{◌≡◌, ◌≤◌, map, take, length}
use Rattle.std.specs.Vec.{vec_capacity}
use Rattle.srt_types.specs.Terms.{terms_of}
use Rattle.srt_mailbox.specs.Identities.{identity_in}
use Rattle.srt_mailbox.specs.Places.{arrived, locks_of}
use Rattle.srt_serve.specs.Opened.{AreOpened, terms_in, new_clocks}
use Rattle.srt_serve.proofs.opening.open_routes.Given as goal

abbrev pub invariant-loop-entry : goal.invariant-loop-entry
invariant-loop-entry g l = record {
  terms : terms_in (arrived l.routes) ≡ map terms_of (take l.entry-index l.entries);
  opened : AreOpened (arrived l.routes) l.ends.items;
  clocks : l.clocks.items ≡ new_clocks (arrived l.arrivals.reader);
  places : locks_of l.routes ≡ map (λ p. p.seat.id) l.places;
  clocked : locks_of l.arrivals.reader ≡ map (λ p. p.seat.id) l.places;
  room : length l.places ≤ vec_capacity l.ends;
  clock_room : length l.places ≤ vec_capacity l.clocks;
  put :
      (map (λ t. t.of) l.put.items ≡ take (length l.put.items) (map (λ p. p.seat.id) l.places))
      × (map (λ t. identity_in t.value.cell) l.put.items ≡ arrived l.routes);
  index : l.index ≡ l.entry-index;
}
