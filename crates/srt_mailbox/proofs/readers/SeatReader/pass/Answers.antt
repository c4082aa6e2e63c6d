use Rattle.srt_mailbox.proofs.Tokens.{one_shown, goes_in}
use Rattle.srt_mailbox.proofs.readers.SeatReader.pass.Goals as goal

pub invariant_of-self-clause-shown : goal.invariant_of-self-clause-shown
invariant_of-self-clause-shown g c =
    one_shown (λ t. t.of) (λ p. p.seat.id) c.args.self.now.tokens.items c.args.self.now.places.now c.args.self.now.shown
    c.push.new.self.items c.args.token _ c.push.ensures.items c.requires

pub unreachable-requires : goal.unreachable-requires
unreachable-requires g c =
    goes_in (λ t. t.of) (λ p. p.seat.id) c.args.self.now.tokens.items c.args.self.now.places.now c.args.self.now.shown
    _ _ _ c.requires c.args.self.now.room c.args.self.now.tokens.ok.0 c.in_default.ensures.full
