use Rattle.std.proofs.Common.{ℕ, Bool, List, Option, sym, ap, ◌∙◌}
use Rattle.std.specs.Prelude.{option_map}
use Rattle.srt_sendbuf.specs.Sending.{due_at, due_number}
use Rattle.srt_sendbuf.specs.Outgoing.{outgoing}
use Rattle.srt_sendbuf.proofs.Steps.{first_lost, none_lost, due_again}
use Rattle.srt_sendbuf.proofs.buffer.SendBuf.next_due.Goals as goal

pub returns-then-self-clause-answer : goal.returns-then-self-clause-answer
returns-then-self-clause-answer c width initial r h =
    let s = c.args.self.now in
    let e = due_again c.args.window s.low r (first_lost initial _ _ _ _ _ _ _ _ _ _ r h.fields c.if-self.true s.high_in) in
    c.out.ensures.answer width initial r h ∙ sym (ap (λ (o : Option (ℕ × Bool)). option_map (outgoing initial) (due_at r.queue o)) e)

pub returns-else-self-clause-answer : goal.returns-else-self-clause-answer
returns-else-self-clause-answer c width initial r h =
    let none = none_lost initial _ _ _ _ _ _ _ _ _ _ r h.fields c.if-self.false in
    c.next_new.ensures.answer width initial r h
    ∙ sym (ap (λ (ns : List ℕ). option_map (outgoing initial) (due_at r.queue (due_number c.args.window ns r))) none)
