use Rattle.std.proofs.Common.{◌≡◌, ◌-◌, true, [], ◌∷◌, refl, sym, ap, ◌∙◌}
use Rattle.std.specs.Prelude.{nat_le}
use Rattle.srt_sub.specs.Subscribing.{KeepAlive, last_sent}
use Rattle.srt_sub.proofs.Sound.{changed}
use Rattle.srt_sub.specs.Subscribing.{noted}
use Rattle.srt_sub.specs.Says.{says}
use Rattle.srt_sub.proofs.session.Subscriber.next_keep_alive.Goals as goal

pub returns-clause-stands : goal.returns-clause-stands
returns-clause-stands c terms initial opening caller given m h =
    let b : nat_le 1_000_000 (c.args.time - last_sent m.notes) ≡ true =
    sym (c.keep_alive_due.ensures initial terms m.notes h.history_is) ∙ c.if-not-keep_alive_due.false in
    rw b
    (changed terms initial opening caller c.args.time given c.args.self.now m h c.args.time given c.args.self.now.given
    c.args.self.now.buffer c.say.new.self (record m { notes = noted c.args.time (KeepAlive ∷ []) m.notes }) h.given_is h.buffer_is
    (c.say.ensures initial terms m.notes KeepAlive refl refl h.history_is) h.sound c.args.self.now.counts h.counts_are
    h.phase_is h.credited)

pub returns-clause-answer : goal.returns-clause-answer
returns-clause-answer c terms initial opening caller given m h =
    let b : nat_le 1_000_000 (c.args.time - last_sent m.notes) ≡ true =
    sym (c.keep_alive_due.ensures initial terms m.notes h.history_is) ∙ c.if-not-keep_alive_due.false in
    rw b (ap (λ t. t ∷ []) (c.keep_alive.ensures.text initial ∙ ap (λ k. says k initial c.args.time KeepAlive) h.caller_is))
