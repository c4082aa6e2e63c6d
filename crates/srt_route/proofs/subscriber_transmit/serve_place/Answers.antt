use Rattle.srt_route.specs.Waits.{replies_of}
use Rattle.srt_route.proofs.steps.Saying.{said_then}
use Rattle.srt_route.proofs.subscriber_transmit.serve_place.Goals as goal

pub returns-then-whole-clause-ends : goal.returns-then-whole-clause-ends
returns-then-whole-clause-ends c is = record {
  seat_is = c.close_seat.ensures.seat;
  tells = λ t stored terms initial opening m stands.
      let h = c.announce_place.ensures t stored terms initial opening m stands in
      record {
        keys_are = h.keys_are;
        said = said_then (replies_of c.args.waiting.now) (replies_of c.announce_place.new.waiting) (replies_of c.close_seat.new.waiting) _ _ _ _ _ h.said
            c.close_seat.ensures.said;
      };
}
