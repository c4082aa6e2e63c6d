use Rattle.std.proofs.Common.{◌+◌, ℕ, Option, ap, subst}
use Rattle.std.specs.Prelude.{is_some}
use Rattle.srt_sendbuf.specs.Sending.{base, after_ack, acknowledged}
use Rattle.srt_sendbuf.specs.Stands.{StandsFor}
use Rattle.srt_sendbuf.proofs.Fronts.{acked_below, acked_beyond}
use Rattle.srt_sendbuf.proofs.buffer.SendBuf.ack.Goals as goal

pub returns-then-steps-back-clause-stands : goal.returns-then-steps-back-clause-stands
returns-then-steps-back-clause-stands c width initial r h =
    let n = c.in-Some.ensures.value width initial r h in
    let m = c.message_after-message.ensures (base r) h.fields.base_message_is in
    let moved = acked_below c.args.self.now.behind c.back-back.result c.in-Some.steps _ r h.fields.behind_is c.back-back.ensures.value c.if-steps-back.true m in
    subst (λ (o : Option ℕ). StandsFor width initial c.move_front.new.self (after_ack o r)) n
    (c.move_front.ensures width initial r (acknowledged (base r + c.in-Some.steps) r) h moved)

pub returns-then-steps-back-clause-answer : goal.returns-then-steps-back-clause-answer
returns-then-steps-back-clause-answer c width initial r h = ap is_some (c.in-Some.ensures.value width initial r h)

pub returns-else-steps-back-clause-stands : goal.returns-else-steps-back-clause-stands
returns-else-steps-back-clause-stands c width initial r h =
    let n = c.in-Some.ensures.value width initial r h in
    let m = c.message_after-message.ensures (base r) h.fields.base_message_is in
    let moved = acked_beyond c.args.self.now.behind c.back-back.result c.in-Some.steps _ r h.fields.behind_is c.back-back.ensures.value
    c.if-steps-back.false m in
    subst (λ (o : Option ℕ). StandsFor width initial c.move_front-else-steps-back.new.self (after_ack o r)) n
    (c.move_front-else-steps-back.ensures width initial r (acknowledged (base r + c.in-Some.steps) r) h moved)

pub returns-else-steps-back-clause-answer : goal.returns-else-steps-back-clause-answer
returns-else-steps-back-clause-answer c width initial r h = ap is_some (c.in-Some.ensures.value width initial r h)
