use Rattle.std.proofs.Common.{◌≡◌, ℕ, ◌-◌, ◌<◌, inl, inr, refl, sym, ap, subst, ◌∙◌, arith}
use Rattle.std.proofs.lemmas.Bool.{cases_lt, true≢false}
use Rattle.srt_sendbuf.specs.Sending.{room, queued, IsTimely}
use Rattle.srt_sendbuf.specs.Stands as places
use Rattle.srt_sendbuf.specs.declared.buffer.SendBuf.{SendBuf}
use Rattle.srt_sub.specs.Subscribing.{Subscribing, expired}
use Rattle.srt_sub.specs.Endings.{is_short}
use Rattle.srt_sub.specs.Stands.{StandsIn}
use Rattle.srt_sub.specs.Counting.{Counted}
use Rattle.srt_sub.specs.declared.counts.Counts.{Counts}
use Rattle.srt_sub.proofs.Counting.{counts_fed}
use Rattle.srt_sub.proofs.Sound.{changed, sound_queued, doesnt_fit, does_fit}
use Rattle.srt_sub.proofs.Queueing.{full, still_full, fed_if, not_fed_if}
use Rattle.srt_sub.proofs.session.Subscriber.feed.Goals as goal

pub returns-then-not-is_short-clause-stands : goal.returns-then-not-is_short-clause-stands
returns-then-not-is_short-clause-stands c terms initial opening caller last m h le some roomy =
    let now = c.args.now - opening in
    let x = expired terms now m in
    let payload = c.args.payload.now in
    let stands = c.expire.ensures terms initial opening caller last m h le in
    let long =
    sym (ap (λ k. is_short k c.expire.new.self.mtu payload) stands.mode_is ∙ ap (λ k. is_short terms.mode k payload) stands.mtu_is)
    ∙ sym c.is_short.ensures ∙ c.if-not-is_short.true in
    subst (λ (y : Subscribing). StandsIn terms initial opening caller now 0 c.expire.new.self y)
    (sym (not_fed_if terms now payload x (doesnt_fit terms.mode terms payload x.sending long))) stands

pub returns-then-not-is_short-clause-answer : goal.returns-then-not-is_short-clause-answer
returns-then-not-is_short-clause-answer c terms initial opening caller last m h le roomy =
    let now = c.args.now - opening in
    let x = expired terms now m in
    let payload = c.args.payload.now in
    let stands = c.expire.ensures terms initial opening caller last m h le in
    let long =
    sym (ap (λ k. is_short k c.expire.new.self.mtu payload) stands.mode_is ∙ ap (λ k. is_short terms.mode k payload) stands.mtu_is)
    ∙ sym c.is_short.ensures ∙ c.if-not-is_short.true in
    sym (doesnt_fit terms.mode terms payload x.sending long)

pub returns-in-Ok-clause-stands : goal.returns-in-Ok-clause-stands
returns-in-Ok-clause-stands c terms initial opening caller last m h le some roomy =
    let now = c.args.now - opening in
    let x = expired terms now m in
    let payload = c.args.payload.now in
    let s = c.expire.new.self in
    let stands = c.expire.ensures terms initial opening caller last m h le in
    let at : c.time-time.result ≡ now = c.time-time.ensures.value ∙ ap (λ o. c.args.now - o) stands.opening_is in
    let short = sym (ap (λ k. is_short k s.mtu payload) stands.mode_is ∙ ap (λ k. is_short terms.mode k payload) stands.mtu_is)
    ∙ sym c.is_short.ensures ∙ c.if-not-is_short.false in
    let places_left : 0 < room terms.width x.sending = elim (cases_lt 0 (room terms.width x.sending)) [
      | inl lt ↦ lt
      | inr none ↦ absurd (true≢false (sym ((c.in-Ok.ensures.full terms.width initial x.sending stands.buffer_is).1 (omega (arith, none)))))
    ] in
    let timely = stands.sound.timely in
    let kept = c.in-Ok.ensures.stands terms.width initial x.sending stands.buffer_is (subst (λ (t : ℕ). IsTimely t x.sending) (sym at) timely) in
    subst
    (λ (y : Subscribing). StandsIn terms initial opening caller now 0 (record s { buffer = c.queue.new.self; counts = c.feed.new.self }) y)
    (sym (fed_if terms now payload x (does_fit terms.mode terms payload x.sending short places_left)))
    (changed terms initial opening caller now 0 s x stands now 0 s.given c.queue.new.self s.history
    (record x { sending = queued now payload x.sending }) stands.given_is
    (subst (λ (t : ℕ). places.StandsFor terms.width initial c.queue.new.self (queued t payload x.sending)) at kept)
    stands.history_is (sound_queued terms now payload x.sending some stands.sound)
    c.feed.new.self
    (subst (λ (k : Counts). Counted k (record x { sending = queued now payload x.sending })) (sym c.feed.ensures)
    (counts_fed now payload s.counts x stands.counts_are))
    stands.phase_is stands.credited)

pub returns-in-Ok-clause-answer : goal.returns-in-Ok-clause-answer
returns-in-Ok-clause-answer c terms initial opening caller last m h le roomy =
    let now = c.args.now - opening in
    let x = expired terms now m in
    let payload = c.args.payload.now in
    let s = c.expire.new.self in
    let stands = c.expire.ensures terms initial opening caller last m h le in
    let short = sym (ap (λ k. is_short k s.mtu payload) stands.mode_is ∙ ap (λ k. is_short terms.mode k payload) stands.mtu_is)
    ∙ sym c.is_short.ensures ∙ c.if-not-is_short.false in
    let places_left : 0 < room terms.width x.sending = elim (cases_lt 0 (room terms.width x.sending)) [
      | inl lt ↦ lt
      | inr none ↦ absurd (true≢false (sym ((c.in-Ok.ensures.full terms.width initial x.sending stands.buffer_is).1 (omega (arith, none)))))
    ] in
    sym (does_fit terms.mode terms payload x.sending short places_left)

pub returns-in-Err-clause-stands : goal.returns-in-Err-clause-stands
returns-in-Err-clause-stands c terms initial opening caller last m h le some roomy =
    let now = c.args.now - opening in
    let x = expired terms now m in
    let payload = c.args.payload.now in
    let s = c.expire.new.self in
    let stands = c.expire.ensures terms initial opening caller last m h le in
    let none = (c.in-Err.ensures.full terms.width initial x.sending stands.buffer_is).0 refl in
    subst (λ (y : Subscribing). StandsIn terms initial opening caller now 0 (record s { buffer = c.queue.new.self }) y)
    (sym (not_fed_if terms now payload x (full terms.mode terms now payload m.sending roomy none)))
    (subst (λ (b : SendBuf). StandsIn terms initial opening caller now 0 (record s { buffer = b }) x) (sym c.in-Err.ensures.same) stands)

pub returns-in-Err-clause-answer : goal.returns-in-Err-clause-answer
returns-in-Err-clause-answer c terms initial opening caller last m h le roomy =
    let now = c.args.now - opening in
    let x = expired terms now m in
    let payload = c.args.payload.now in
    let stands = c.expire.ensures terms initial opening caller last m h le in
    let none = (c.in-Err.ensures.full terms.width initial x.sending stands.buffer_is).0 refl in
    sym (full terms.mode terms now payload m.sending roomy none)

pub returns-in-Ok-clause-full : goal.returns-in-Ok-clause-full
returns-in-Ok-clause-full c terms initial opening caller last m h le buffered none =
    let x = expired terms (c.args.now - opening) m in
    let stands = c.expire.ensures terms initial opening caller last m h le in
    let gone : room terms.width x.sending ≡ 0 = still_full terms.mode terms (c.args.now - opening) m.sending buffered none in
    absurd (true≢false (sym ((c.in-Ok.ensures.full terms.width initial x.sending stands.buffer_is).1 gone)))

pub returns-in-Err-clause-full : goal.returns-in-Err-clause-full
returns-in-Err-clause-full c terms initial opening caller last m h le buffered none =
    let now = c.args.now - opening in
    let x = expired terms now m in
    let s = c.expire.new.self in
    let stands = c.expire.ensures terms initial opening caller last m h le in
    (refl, subst (λ (b : SendBuf). StandsIn terms initial opening caller now 0 (record s { buffer = b }) x) (sym c.in-Err.ensures.same) stands)

pub returns-then-not-is_short-clause-full : goal.returns-then-not-is_short-clause-full
returns-then-not-is_short-clause-full c terms initial opening caller last m h le buffered none =
    (refl, c.expire.ensures terms initial opening caller last m h le)
