use Rattle.std.proofs.Common.{ℕ, Bool, List, Option, sym, subst}
use Rattle.srt_sendbuf.specs.Sending.{due_number, sent_number}
use Rattle.srt_sendbuf.specs.Stands.{StandsFor}
use Rattle.srt_sendbuf.proofs.Steps.{first_lost, none_lost, due_again}
use Rattle.srt_sendbuf.proofs.buffer.SendBuf.note_sent.Goals as goal

pub returns-then-self : goal.returns-then-self
returns-then-self c width initial r h =
    let s = c.args.self.now in
    let e = due_again c.args.window s.low r (first_lost initial _ _ _ _ _ _ _ _ _ _ r h.fields c.if-self.true s.high_in) in
    subst (λ (o : Option (ℕ × Bool)). StandsFor width initial c.sent_again.new.self (sent_number o r)) (sym e) (c.sent_again.ensures width initial r h)

pub returns-else-self : goal.returns-else-self
returns-else-self c width initial r h =
    let none = none_lost initial _ _ _ _ _ _ _ _ _ _ r h.fields c.if-self.false in
    subst (λ (ns : List ℕ). StandsFor width initial c.note_new_sent.new.self (sent_number (due_number c.args.window ns r) r)) (sym none)
    (c.note_new_sent.ensures width initial r h)
