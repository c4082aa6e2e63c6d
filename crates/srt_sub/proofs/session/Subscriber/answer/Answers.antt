use Rattle.std.proofs.Common.{◌≡◌, ◌==◌, false, [], ◌∷◌, refl, ap, ◌∙◌, arith}
use Rattle.std.proofs.lemmas.Bool.{ne_eqb}
use Rattle.srt_sub.specs.Subscribing.{Acked}
use Rattle.srt_sub.proofs.Sound.{changed}
use Rattle.srt_sub.specs.Subscribing.{noted}
use Rattle.srt_sub.specs.Says.{says}
use Rattle.srt_sub.proofs.session.Subscriber.answer.Goals as goal

pub returns-clause-stands : goal.returns-clause-stands
returns-clause-stands c terms initial opening caller given m h =
    let b : (c.args.mark == 0) ≡ false = ne_eqb _ _ (λ e. omega (arith, e)) in
    rw b
    (changed terms initial opening caller c.args.time given c.args.self.now m h c.args.time given c.args.self.now.given
    c.args.self.now.buffer c.say.new.self (record m { notes = noted c.args.time (Acked c.args.mark ∷ []) m.notes }) h.given_is h.buffer_is
    (c.say.ensures initial terms m.notes (Acked c.args.mark) refl refl h.history_is) h.sound c.args.self.now.counts h.counts_are
    h.phase_is h.credited)

pub returns-clause-answer : goal.returns-clause-answer
returns-clause-answer c terms initial opening caller given m h =
    let b : (c.args.mark == 0) ≡ false = ne_eqb _ _ (λ e. omega (arith, e)) in
    rw b (ap (λ t. t ∷ []) (c.acked.ensures.text initial ∙ ap (λ k. says k initial c.args.time (Acked c.args.mark)) h.caller_is))
