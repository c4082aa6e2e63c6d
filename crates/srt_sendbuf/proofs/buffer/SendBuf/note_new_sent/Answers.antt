use Rattle.std.proofs.Common.{ℕ, Bool, Option, sym, subst}
use Rattle.srt_sendbuf.specs.Sending.{sent_number}
use Rattle.srt_sendbuf.specs.Places.{length_of}
use Rattle.srt_sendbuf.specs.Stands.{StandsFor}
use Rattle.srt_sendbuf.proofs.Steps.{new_there, no_new}
use Rattle.srt_sendbuf.proofs.buffer.SendBuf.note_new_sent.Goals as goal

pub returns-then-has_new : goal.returns-then-has_new
returns-then-has_new c width initial r h =
    let s = c.args.self.now in
    let there = c.has_new.ensures.some c.if-has_new.true in
    let e = new_there c.args.window s.sent (length_of s.ring) r h.fields.flying_is h.fields.queued_is there.0 there.1 in
    subst (λ (o : Option (ℕ × Bool)). StandsFor width initial c.sent_new.new.self (sent_number o r)) (sym e) (c.sent_new.ensures width initial r h)

pub returns-else-has_new : goal.returns-else-has_new
returns-else-has_new c width initial r h =
    let s = c.args.self.now in
    subst (λ (o : Option (ℕ × Bool)). StandsFor width initial s (sent_number o r))
    (sym (no_new c.args.window s.sent (length_of s.ring) r h.fields.flying_is h.fields.queued_is (c.has_new.ensures.none c.if-has_new.false)))
    h
