use Rattle.std.proofs.Common.{ℕ, ◌+◌, ◌-◌, ◌^◌, ◌≤◌, Bool, Option, Some, ◌++◌, inl, inr, refl, sym, ap, subst, ◌∙◌, arith}
use Rattle.std.proofs.lemmas.Bool.{cases_lt, true≢false}
use Rattle.srt_types.specs.Window.{word_of, counted_from}
use Rattle.srt_types.specs.Words.{word_at}
use Rattle.srt_sendbuf.specs.Sending.{base, next, acknowledged, acknowledged_by, after_ack, is_growth}
use Rattle.srt_sendbuf.specs.Stands as places
use Rattle.srt_sub.specs.Heard.{more_of}
use Rattle.srt_sub.specs.Subscribing.{with_ack, sampled, grown}
use Rattle.srt_sub.specs.Stands.{StandsIn, IsHistory}
use Rattle.std.specs.Prelude.{nat_lt}
use Rattle.srt_sub.proofs.Counting.{counts_acked}
use Rattle.srt_sub.proofs.Credits.{credited_grown, credited_reported}
use Rattle.srt_sub.proofs.Sound.{no_number, none_is, some_is, sound_marked, changed}
use Rattle.srt_sub.proofs.session.Subscriber.acknowledge.Goals as goal

pub returns-in_default : goal.returns-in_default
returns-in_default c terms initial opening caller given m h =
    let w = word_at c.args.info.now 0 in
    let big : 2 ^ 31 ≤ c.read_word.result = elim (cases_lt c.read_word.result (2 ^ 31)) [
      | inl lt ↦ absurd (true≢false (sym (c.in_default.ensures.some.1 lt)))
      | inr ge ↦ ge
    ] in
    let e = c.read_word.ensures in
    let none = no_number initial w (base m.sending) (next m.sending - base m.sending + 1) (omega (arith, big, e)) in
    subst
    (λ (o : Option ℕ).
    StandsIn terms initial opening caller c.args.time given c.args.self.now (with_ack c.args.time (more_of c.args.info.now) o m))
    (sym none) h

pub returns-then-not-ack : goal.returns-then-not-ack
returns-then-not-ack c terms initial opening caller given m h =
    let same = ap (λ w. acknowledged_by (counted_from initial w) m.sending) (c.in-Some.ensures.value ∙ c.read_word.ensures) in
    let none = none_is (acknowledged_by (counted_from initial (word_of c.in-Some.number)) m.sending)
    (sym (c.ack.ensures.answer terms.width initial m.sending h.buffer_is) ∙ c.if-not-ack.true) in
    subst
    (λ (o : Option ℕ). StandsIn terms initial opening caller c.args.time given (record c.args.self.now { buffer = c.ack.new.self })
    (with_ack c.args.time (more_of c.args.info.now) o m))
    (sym (sym same ∙ none))
    (changed terms initial opening caller c.args.time given c.args.self.now m h c.args.time given c.args.self.now.given c.ack.new.self
    c.args.self.now.history m h.given_is
    (subst (λ (o : Option ℕ). places.StandsFor terms.width initial c.ack.new.self (after_ack o m.sending)) none
    (c.ack.ensures.stands terms.width initial m.sending h.buffer_is))
    h.history_is h.sound c.args.self.now.counts h.counts_are h.phase_is h.credited)

pub returns : goal.returns
returns c terms initial opening caller given m h =
    let same = ap (λ w. acknowledged_by (counted_from initial w) m.sending) (c.in-Some.ensures.value ∙ c.read_word.ensures) in
    let some = some_is (acknowledged_by (counted_from initial (word_of c.in-Some.number)) m.sending)
    (sym (c.ack.ensures.answer terms.width initial m.sending h.buffer_is) ∙ c.if-not-ack.false) in
    let grew = c.grows-grows.ensures terms.width initial m.sending h.buffer_is ∙ ap (λ o. is_growth o m.sending) some.1 in
    subst
    (λ (o : Option ℕ). StandsIn terms initial opening caller c.args.time given
    (record c.args.self.now { buffer = c.ack.new.self; history = c.acknowledge.new.self }) (with_ack c.args.time (more_of c.args.info.now) o m))
    (sym (sym same ∙ some.1))
    (changed terms initial opening caller c.args.time given c.args.self.now m h c.args.time given c.args.self.now.given c.ack.new.self
    c.acknowledge.new.self (with_ack c.args.time (more_of c.args.info.now) (Some some.0) m) h.given_is
    (subst (λ (o : Option ℕ). places.StandsFor terms.width initial c.ack.new.self (after_ack o m.sending)) some.1
    (c.ack.ensures.stands terms.width initial m.sending h.buffer_is))
    (subst
    (λ (b : Bool).
    IsHistory initial terms c.acknowledge.new.self (sampled (more_of c.args.info.now) ++ (grown c.args.time b ++ m.notes)))
    grew (c.acknowledge.ensures initial terms m.notes h.history_is))
    (sound_marked terms c.args.time m.sending (acknowledged some.0 m.sending) refl refl h.sound) c.args.self.now.counts
    (counts_acked c.args.time (more_of c.args.info.now) some.0 c.args.self.now.counts m h.counts_are) h.phase_is
    (credited_reported terms.resend_percent c.args.time (more_of c.args.info.now) _
    (credited_grown terms.resend_percent c.args.time (nat_lt m.sending.acked some.0) m.notes h.credited)))
