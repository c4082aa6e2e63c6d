use Rattle.std.proofs.Common.{◌≡◌, ℕ, ◌+◌, ◌-◌, ◌<◌, ◌==◌, Bool, true, false, Option, None, Some, [], ◌∷◌, refl, sym, ap, subst, ◌∙◌, arith}
use Rattle.std.specs.Prelude.{map, if◌then◌else◌}
use Rattle.std.specs.Option.{option_to_list}
use Rattle.std.proofs.lemmas.Bool.{ne_eqb}
use Rattle.srt_sendbuf.specs.Sending.{Sending, Due, sent}
use Rattle.srt_sendbuf.specs.Stands as places
use Rattle.srt_sub.specs.Subscribing.{Terms, Subscribing, Media, flow_window, may_resend}
use Rattle.srt_sub.specs.Says.{says}
use Rattle.srt_types.specs.Given.{given as written}
use Rattle.srt_packet.specs.Encoded.{bytes_of}
use Rattle.srt_packet.specs.declared.encoded.EncodedPacket.{EncodedPacket}
use Rattle.srt_sub.specs.inside.Turns.{due_in, next_in, phase_after, phase_now, sends_lost, with_due, given_with, texts}
use Rattle.srt_sub.specs.Stands.{StandsIn}
use Rattle.srt_sub.specs.declared.session.Subscriber.{Subscriber}
use Rattle.srt_sub.specs.declared.session.Phase.{Phase}
use Rattle.srt_sub.specs.declared.session.Phase.TheVariants.{New}
use Rattle.srt_sub.proofs.Credits.{credited_media, was_allowed}
use Rattle.srt_sub.proofs.Sound.{changed, rephased, sound_marked}
use Rattle.srt_sub.proofs.Dues.{sent_in_queue, next_again, nothing_next_sent, next_sent}
use Rattle.srt_sub.proofs.Turns.{wrote, wrote_none, media_said, no_media_said}
use Rattle.srt_sub.proofs.session.Subscriber.next_media.Goals as goal

-- if one more may be sent, the next packet is the buffer's
there : (given held : ℕ) (now phase : Phase) (terms : Terms) (m : Subscribing) (o : Option Due)
    → given < 64 → now ≡ phase_now phase terms.resend_percent m.notes → held ≡ flow_window terms.window m.notes → next_in now held m.sending ≡ o
    → due_in (64 - given) phase terms m ≡ o
there given held now phase terms m o lt n w e =
    let b : ((64 - given) == 0) ≡ false = ne_eqb _ _ (λ x. omega (arith, x, lt)) in
    rw b (ap (λ f. next_in f (flow_window terms.window m.notes) m.sending) (sym n) ∙ ap (λ k. next_in now k m.sending) (sym w) ∙ e)

-- no packet was written: none is due in the buffer, and so none in the session
nothing : (terms : Terms) (initial opening caller time given : ℕ) (now : Phase) (s : Subscriber) (m : Subscribing) (b : Bool) (p : EncodedPacket)
    → StandsIn terms initial opening caller time given s m → s.given < 64 → now ≡ phase_now s.phase terms.resend_percent m.notes → b ≡ false
    → texts (written b p)
    ≡ map (λ d. says s.caller initial time (Media d.number d.again d.origin d.payload)) (option_to_list (next_in now s.history.window m.sending))
    → (next_in now s.history.window m.sending ≡ None) × (due_in (64 - given) s.phase terms m ≡ None)
nothing terms initial opening caller time given now s m b p h few n is answer =
    let none = no_media_said (next_in now s.history.window m.sending)
    (λ d. says s.caller initial time (Media d.number d.again d.origin d.payload)) (wrote_none b p _ is answer) in
    (none, there given s.history.window now s.phase terms m None (omega (arith, few, h.given_is)) n h.history_is.window_is none)

-- a packet was written: it is due in the buffer, and so in the session
one : (terms : Terms) (initial opening caller time given : ℕ) (now : Phase) (s : Subscriber) (m : Subscribing) (b : Bool) (p : EncodedPacket)
    → StandsIn terms initial opening caller time given s m → s.given < 64 → now ≡ phase_now s.phase terms.resend_percent m.notes → b ≡ true
    → texts (written b p)
    ≡ map (λ d. says s.caller initial time (Media d.number d.again d.origin d.payload)) (option_to_list (next_in now s.history.window m.sending))
    → (d : Due) × (next_in now s.history.window m.sending ≡ Some d) × (due_in (64 - given) s.phase terms m ≡ Some d) ×
    (bytes_of p ≡ says s.caller initial time (Media d.number d.again d.origin d.payload))
one terms initial opening caller time given now s m b p h few n is answer =
    let outgoing = media_said (next_in now s.history.window m.sending) (λ d. says s.caller initial time (Media d.number d.again d.origin d.payload)) _
    (wrote b p _ is answer) in (
      outgoing.0,
      outgoing.1,
      there given s.history.window now s.phase terms m (Some outgoing.0) (omega (arith, few, h.given_is)) n h.history_is.window_is
          outgoing.1,
      outgoing.2,
    )

pub returns-then-not-media-clause-stands : goal.returns-then-not-media-clause-stands
returns-then-not-media-clause-stands c terms initial opening caller given m h le =
    let s = c.args.self.now in
    let now = c.phase_now-phase.result in
    let none = nothing terms initial opening caller c.args.time given now s m c.media.result c.media.new.packet h (omega arith)
    (c.phase_now-phase.ensures terms initial m.notes h.history_is)
    c.if-not-media.true (c.media.ensures.answer terms.width initial c.args.time m.sending h.buffer_is h.sound.some) in
    let kept = subst (λ (r : Sending). places.StandsFor terms.width initial c.media.new.buffer r)
    (nothing_next_sent now s.history.window m.sending (sent_in_queue terms.width initial s.buffer m.sending h.buffer_is) none.0)
    (c.media.ensures.stands terms.width initial m.sending h.buffer_is) in
    subst
    (λ (o : Option Due). StandsIn terms initial opening caller c.args.time (given_with o given) (record s { buffer = c.media.new.buffer })
    (with_due c.args.time o m) × (s.phase ≡ phase_after o s.phase))
    (sym none.1) (
      changed terms initial opening caller c.args.time given s m h c.args.time given s.given c.media.new.buffer s.history m h.given_is kept
          h.history_is h.sound s.counts h.counts_are h.phase_is h.credited,
      refl,
    )

pub returns-then-not-media-clause-answer : goal.returns-then-not-media-clause-answer
returns-then-not-media-clause-answer c terms initial opening caller given m h le =
    let s = c.args.self.now in
    let none = nothing terms initial opening caller c.args.time given c.phase_now-phase.result s m c.media.result c.media.new.packet h (omega arith)
    (c.phase_now-phase.ensures terms initial m.notes h.history_is)
    c.if-not-media.true (c.media.ensures.answer terms.width initial c.args.time m.sending h.buffer_is h.sound.some) in
    sym (ap (λ o. map (λ (d : Due). says caller initial c.args.time (Media d.number d.again d.origin d.payload)) (option_to_list o)) none.1)

pub returns-clause-stands : goal.returns-clause-stands
returns-clause-stands c terms initial opening caller given m h le =
    let s = c.args.self.now in
    let now = c.phase_now-phase.result in
    let now_is = c.phase_now-phase.ensures terms initial m.notes h.history_is in
    let outgoing = one terms initial opening caller c.args.time given now s m c.media.result c.media.new.packet h (omega arith) now_is
    c.if-not-media.false
    (c.media.ensures.answer terms.width initial c.args.time m.sending h.buffer_is h.sound.some) in
    let d = outgoing.0 in
    let lost_is = next_again now s.history.window m.sending d outgoing.1 in
    let again = lost_is ∙ sym (c.is_again-again.ensures terms.width initial m.sending h.buffer_is) in
    let may : d.again ≡ true → may_resend terms.resend_percent m.notes ≡ true =
    λ e. was_allowed s.phase terms.resend_percent m.notes m.sending (ap (λ f. sends_lost f m.sending) (sym now_is) ∙ sym lost_is ∙ e) in
    let kept = subst (λ (r : Sending). places.StandsFor terms.width initial c.media.new.buffer r)
    (next_sent now s.history.window m.sending d outgoing.1) (c.media.ensures.stands terms.width initial m.sending h.buffer_is) in
    let phase = c.phase_after-self.result in
    subst
    (λ (o : Option Due). StandsIn terms initial opening caller c.args.time (given_with o given)
    (record s { buffer = c.media.new.buffer; history = c.give.new.self; phase = phase; given = s.given + 1 }) (with_due c.args.time o m)
    × (phase ≡ phase_after o s.phase))
    (sym outgoing.2) (
      rephased terms initial opening caller c.args.time given s m h c.args.time (given + 1) (s.given + 1) c.media.new.buffer c.give.new.self
          (with_due c.args.time (Some d) m) (ap (λ n. n + 1) h.given_is) kept
          (c.give.ensures initial terms m.notes (Media d.number d.again d.origin d.payload) refl refl again h.history_is)
          (sound_marked terms c.args.time m.sending (sent d.number m.sending) refl refl h.sound) s.counts h.counts_are phase
          (λ e. absurd (omega (arith, e)))
          (credited_media terms.resend_percent c.args.time d.number d.origin d.again d.payload m.notes may h.credited),
      c.phase_after-self.ensures ∙ sym (ap (λ (b : Bool). if b then s.phase else New) again),
    )

pub returns-clause-answer : goal.returns-clause-answer
returns-clause-answer c terms initial opening caller given m h le =
    let s = c.args.self.now in
    let outgoing = one terms initial opening caller c.args.time given c.phase_now-phase.result s m c.media.result c.media.new.packet h (omega arith)
    (c.phase_now-phase.ensures terms initial m.notes h.history_is) c.if-not-media.false
    (c.media.ensures.answer terms.width initial c.args.time m.sending h.buffer_is h.sound.some) in
    ap (λ t. t ∷ [])
    (outgoing.3 ∙ ap (λ k. says k initial c.args.time (Media outgoing.0.number outgoing.0.again outgoing.0.origin outgoing.0.payload)) h.caller_is)
    ∙ sym (ap (λ o. map (λ (d : Due). says caller initial c.args.time (Media d.number d.again d.origin d.payload)) (option_to_list o)) outgoing.2)
