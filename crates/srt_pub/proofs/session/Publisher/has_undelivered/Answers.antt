use Rattle.srt_pub.proofs.session.Publisher.has_undelivered.Goals as goal
use Rattle.std.proofs.Common.{◌+◌, not, inl, inr, sym, ap, subst, ◌∙◌, arith}
use Rattle.std.proofs.lemmas.Bool.{cases_lt, eq-eqb, ne_eqb}
use Rattle.srt_types.specs.declared.shared.Mode.{Mode}
use Rattle.srt_recvbuf.specs.Receiving.{ack_point}
use Rattle.srt_recvbuf.proofs.Points.{ack_points}
use Rattle.srt_pub.specs.Stands.{IsOrderly}
use Rattle.srt_pub.specs.Publishing.{has_undelivered}
use Rattle.srt_pub.proofs.Windows.{beyond}
use Rattle.srt_pub.proofs.Draining.{front_received, front_not_received}

pub returns-in-Live : goal.returns-in-Live
returns-in-Live c terms initial opening stamp caller m h =
    c.waiting.ensures terms.width initial opening m.receiving h.buffer
    ∙ ap (λ (d : Mode). has_undelivered d m.receiving) (sym c.in-Live.is ∙ h.agreed.mode_is)

pub returns-in-Buffer : goal.returns-in-Buffer
returns-in-Buffer c terms initial opening stamp caller m h =
    let r = m.receiving in
    let mode = sym c.in-Buffer.is ∙ h.agreed.mode_is in
    let k = ack_points terms.width r in
    let s = c.steps.ensures (initial + r.front) (initial + ack_point terms.width r) (omega (arith, k.low)) (omega (arith, k.high, h.narrow))
    (c.front.ensures terms.width initial opening r h.buffer) (c.ack_point.ensures terms.width initial opening r h.buffer) in
    let orderly = subst (λ (d : Mode). IsOrderly d terms.width r) (sym mode) h.orderly in
    elim (cases_lt r.front (ack_point terms.width r)) [
      | inl lt ↦
          ap not (ne_eqb c.steps.result 0 (λ e. omega (arith, e, s, lt)))
          ∙ sym (front_received terms.width r orderly.in_mode.0 lt)
          ∙ ap (λ (d : Mode). has_undelivered d r) mode
      | inr ge ↦
          ap not (eq-eqb c.steps.result 0 (omega (arith, s, ge)))
          ∙ sym (front_not_received terms.width r (beyond terms.width initial opening c.args.self.now.buffer r h.buffer) (omega (arith, ge, k.low)))
          ∙ ap (λ (d : Mode). has_undelivered d r) mode
    ]
