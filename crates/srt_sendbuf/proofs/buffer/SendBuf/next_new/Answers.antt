use Rattle.std.proofs.Common.{ℕ, Bool, Option, sym, ap, ◌∙◌}
use Rattle.std.specs.Prelude.{option_map}
use Rattle.srt_sendbuf.specs.Sending.{due_at}
use Rattle.srt_sendbuf.specs.Places.{length_of}
use Rattle.srt_sendbuf.specs.Outgoing.{outgoing}
use Rattle.srt_sendbuf.proofs.Steps.{new_there, no_new}
use Rattle.srt_sendbuf.proofs.buffer.SendBuf.next_new.Goals as goal

pub returns-then-has_new-clause-answer : goal.returns-then-has_new-clause-answer
returns-then-has_new-clause-answer c width initial r h =
    let s = c.args.self.now in
    let there = c.has_new.ensures.some c.if-has_new.true in
    let e = new_there c.args.window s.sent (length_of s.ring) r h.fields.flying_is h.fields.queued_is there.0 there.1 in
    c.out.ensures.answer width initial r h ∙ sym (ap (λ (o : Option (ℕ × Bool)). option_map (outgoing initial) (due_at r.queue o)) e)

pub returns-else-has_new-clause-answer : goal.returns-else-has_new-clause-answer
returns-else-has_new-clause-answer c width initial r h =
    let s = c.args.self.now in
    sym (ap (λ (o : Option (ℕ × Bool)). option_map (outgoing initial) (due_at r.queue o))
    (no_new c.args.window s.sent (length_of s.ring) r h.fields.flying_is h.fields.queued_is (c.has_new.ensures.none c.if-has_new.false)))
