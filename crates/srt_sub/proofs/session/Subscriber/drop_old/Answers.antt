use Rattle.std.proofs.Common.{◌≡◌, ◌+◌, ◌-◌, refl, sym, ap, subst, ◌∙◌}
use Rattle.std.specs.Prelude.{ℤ}
use Rattle.std.proofs.lemmas.Int.{to_z-of_z}
use mir.Val.{SFits}
use mir.Syntax.{w64}
use Rattle.std.proofs.Common.{rules}
use Rattle.srt_types.specs.declared.shared.Mode.{Mode}
use Rattle.srt_types.specs.declared.shared.Mode.TheVariants.{Live, Buffer}
use Rattle.srt_timing.specs.Deadline.{too_late_at}
use Rattle.srt_sendbuf.specs.Sending.{IsLater, expired_before, front}
use Rattle.srt_sendbuf.specs.Stands as places
use Rattle.srt_sub.specs.Subscribing.{Subscribing, expired_in}
use Rattle.srt_sub.specs.Subscribing.{with_expired as expired_to}
use Rattle.srt_sub.specs.Stands.{StandsIn}
use Rattle.srt_sub.specs.Counting.{Counted}
use Rattle.srt_sub.specs.declared.counts.Counts.{Counts}
use Rattle.srt_sub.proofs.Counting.{counts_expired}
use Rattle.srt_sub.proofs.Freshness.{none_given_up}
use Rattle.srt_sub.proofs.Credits.{credited_later}
use Rattle.srt_sub.proofs.Sound.{changed, sound_later, sound_expired}
use Rattle.srt_sub.proofs.session.Subscriber.drop_old.Goals as goal

pub returns-in-Live-clause-stands : goal.returns-in-Live-clause-stands
returns-in-Live-clause-stands c terms initial opening caller time given m h le =
    let now = c.args.now - opening in
    let at : c.time-time.result ≡ now = c.time-time.ensures.value ∙ ap (λ o. c.args.now - o) h.opening_is in
    let before : c.too_late_before.result ≡ too_late_at now terms.delay =
    c.too_late_before.ensures.value ∙ ap (λ t. too_late_at t c.args.self.now.delay) at ∙ ap (too_late_at now) h.delay_is in
    let sound = sound_later terms time now m.sending le h.sound in
    let fits : SFits w64 c.too_late_before.result = search rules in
    let kept = (rw to_z-of_z at c.expire-count.ensures.stands) terms.width initial m.sending h.buffer_is
    (subst (λ (b : ℤ). IsLater b m.sending) (sym before) sound.later) in
    let mode : terms.mode ≡ Live = sym h.mode_is ∙ c.in-Live.is in
    let counted = (rw to_z-of_z at c.expire-count.ensures.count) terms.width initial m.sending h.buffer_is
    (subst (λ (b : ℤ). IsLater b m.sending) (sym before) sound.later) in
    let moves : front m.sending + c.expire-count.result ≡ front (expired_in Live terms now m.sending) =
    counted ∙ ap (λ (b : ℤ). front (expired_before b m.sending)) before in
    subst
    (λ (k : Mode). StandsIn terms initial opening caller now given
    (record c.args.self.now { buffer = c.expire-count.new.self; counts = c.give_up.new.self })
    (expired_to (expired_in k terms now m.sending) m))
    (sym mode)
    (changed terms initial opening caller time given c.args.self.now m h now given c.args.self.now.given c.expire-count.new.self
    c.args.self.now.history (expired_to (expired_in Live terms now m.sending) m) h.given_is
    (subst (λ (b : ℤ). places.StandsFor terms.width initial c.expire-count.new.self (expired_before b m.sending)) before kept) h.history_is
    (sound_expired Live terms now m.sending sound) c.give_up.new.self
    (subst (λ (k : Counts). Counted k (expired_to (expired_in Live terms now m.sending) m)) (sym c.give_up.ensures)
    (counts_expired c.expire-count.result c.args.self.now.counts (expired_in Live terms now m.sending) m refl refl moves h.counts_are))
    h.phase_is (credited_later terms.resend_percent time now m.notes le h.credited))

pub returns-in-Buffer-clause-stands : goal.returns-in-Buffer-clause-stands
returns-in-Buffer-clause-stands c terms initial opening caller time given m h le =
    let now = c.args.now - opening in
    let mode : terms.mode ≡ Buffer = sym h.mode_is ∙ c.in-Buffer.is in
    subst (λ (k : Mode). StandsIn terms initial opening caller now given c.args.self.now (expired_to (expired_in k terms now m.sending) m)) (sym mode)
    (subst (λ (x : Subscribing). StandsIn terms initial opening caller now given c.args.self.now x) (sym (none_given_up m m.sending refl))
    (changed terms initial opening caller time given c.args.self.now m h now given c.args.self.now.given c.args.self.now.buffer
    c.args.self.now.history (m) h.given_is h.buffer_is h.history_is (sound_later terms time now m.sending le h.sound) c.args.self.now.counts
    h.counts_are h.phase_is (credited_later terms.resend_percent time now m.notes le h.credited)))
