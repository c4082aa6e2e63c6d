use Rattle.std.proofs.Common.{ℕ, ◌-◌, ◌∷◌, refl, sym, ap, subst, ◌∙◌, arith}
use Rattle.std.specs.Prelude.{map}
use Rattle.srt_packet.specs.View.{body_of}
use Rattle.srt_packet.specs.declared.reading.Kind.{Kind}
use Rattle.srt_types.specs.Window.{counted_from}
use Rattle.srt_types.specs.Words.{word_at}
use Rattle.srt_sendbuf.specs.Sending.{acknowledged_by}
use Rattle.srt_sub.specs.Heard.{Heard, Ack, heard_from, more_of}
use Rattle.srt_sub.specs.Counting.{Counted}
use Rattle.srt_sub.specs.declared.counts.Counts.{Counts}
use Rattle.srt_sub.specs.Subscribing.{Subscribing, Misdirected, expired, took, answers, with_ack, ack_reports}
use Rattle.srt_sub.specs.Says.{says}
use Rattle.srt_sub.specs.Stands.{StandsIn}
use Rattle.srt_sub.proofs.Counting.{counts_misdirected}
use Rattle.srt_sub.proofs.Sound.{at_time, changed, history_misdirected}
use Rattle.srt_sub.proofs.Unheard.{unheard, heard_ack, unheard_ack}
use Rattle.srt_sub.proofs.session.Subscriber.datagram.Goals as goal

pub returns-then-info-lt4-clause-stands : goal.returns-then-info-lt4-clause-stands
returns-then-info-lt4-clause-stands c terms initial opening caller last m h le =
    let now = c.args.now - opening in
    let x = expired terms now m in
    let stands = c.drop_old.ensures.stands terms initial opening caller (last - opening) 0 m h (omega (arith, le)) in
    let other = ap (λ k. heard_from initial (body_of k)) c.in-Ack.is ∙ unheard_ack initial c.in-Ack.number c.in-Ack.info c.if-info-lt4.true in
    subst (λ (y : Heard). StandsIn terms initial opening caller now 0 c.drop_old.new.self (took now y x)) (sym other) stands

pub returns-then-info-lt4-clause-answer : goal.returns-then-info-lt4-clause-answer
returns-then-info-lt4-clause-answer c terms initial opening caller last m h le =
    let other = ap (λ k. heard_from initial (body_of k)) c.in-Ack.is ∙ unheard_ack initial c.in-Ack.number c.in-Ack.info c.if-info-lt4.true in
    sym (ap (λ y. map (says caller initial (c.args.now - opening)) (answers y)) other)

pub returns-else-info-lt4-clause-stands : goal.returns-else-info-lt4-clause-stands
returns-else-info-lt4-clause-stands c terms initial opening caller last m h le =
    let x = expired terms (c.args.now - opening) m in
    let here = at_time terms initial opening caller c.args.now c.time-time.result c.drop_old.new.self x c.time-time.ensures.value
    (c.drop_old.ensures.stands terms initial opening caller (last - opening) 0 m h (omega (arith, le))) in
    let said = c.answer.ensures.stands terms initial opening caller 0
    (with_ack c.time-time.result (more_of c.in-Ack.info.now)
    (acknowledged_by (counted_from initial (word_at c.in-Ack.info.now 0)) x.sending) x)
    (c.acknowledge.ensures terms initial opening caller 0 x here.stands) in
    let heard = ap (λ k. heard_from initial (body_of k)) c.in-Ack.is ∙ heard_ack initial c.in-Ack.number c.in-Ack.info c.if-info-lt4.false in
    subst (λ (y : Heard). StandsIn terms initial opening caller (c.args.now - opening) 0 c.answer.new.self (took (c.args.now - opening) y x)) (sym heard)
    (subst
    (λ (t : ℕ). StandsIn terms initial opening caller t 0 c.answer.new.self
    (took t (Ack c.in-Ack.number (counted_from initial (word_at c.in-Ack.info.now 0)) (more_of c.in-Ack.info.now)) x))
    here.time_is said)

pub returns-else-info-lt4-clause-answer : goal.returns-else-info-lt4-clause-answer
returns-else-info-lt4-clause-answer c terms initial opening caller last m h le =
    let x = expired terms (c.args.now - opening) m in
    let here = at_time terms initial opening caller c.args.now c.time-time.result c.drop_old.new.self x c.time-time.ensures.value
    (c.drop_old.ensures.stands terms initial opening caller (last - opening) 0 m h (omega (arith, le))) in
    let said = c.answer.ensures.answer terms initial opening caller 0
    (with_ack c.time-time.result (more_of c.in-Ack.info.now)
    (acknowledged_by (counted_from initial (word_at c.in-Ack.info.now 0)) x.sending) x)
    (c.acknowledge.ensures terms initial opening caller 0 x here.stands) in
    let heard = ap (λ k. heard_from initial (body_of k)) c.in-Ack.is ∙ heard_ack initial c.in-Ack.number c.in-Ack.info c.if-info-lt4.false in
    said ∙ ap (λ t. map (says caller initial t) (ack_reports c.in-Ack.number)) here.time_is
    ∙ sym (ap (λ y. map (says caller initial (c.args.now - opening)) (answers y)) heard)

pub returns-in-Nak-clause-stands : goal.returns-in-Nak-clause-stands
returns-in-Nak-clause-stands c terms initial opening caller last m h le =
    let now = c.args.now - opening in
    let x = expired terms now m in
    let stands = c.drop_old.ensures.stands terms initial opening caller (last - opening) 0 m h (omega (arith, le)) in
    subst (λ (k : Kind). StandsIn terms initial opening caller now 0 c.take_losses.new.self (took now (heard_from initial (body_of k)) x))
    (sym c.in-Nak.is) (c.take_losses.ensures terms initial opening caller now 0 x stands)

pub returns-in-Data-clause-stands : goal.returns-in-Data-clause-stands
returns-in-Data-clause-stands c terms initial opening caller last m h le =
    let now = c.args.now - opening in
    let x = expired terms now m in
    let s = c.drop_old.new.self in
    let stands = c.drop_old.ensures.stands terms initial opening caller (last - opening) 0 m h (omega (arith, le)) in
    let after : Subscribing = record x { notes = Misdirected ∷ x.notes } in
    subst
    (λ (k : Kind).
    StandsIn terms initial opening caller now 0 (record s { counts = c.misdirect.new.self }) (took now (heard_from initial (body_of k)) x))
    (sym c.in-Data.is)
    (changed terms initial opening caller now 0 s x stands now 0 s.given s.buffer s.history after stands.given_is stands.buffer_is
    (history_misdirected initial terms s.history x.notes stands.history_is) stands.sound c.misdirect.new.self
    (subst (λ (k : Counts). Counted k after) (sym c.misdirect.ensures) (counts_misdirected s.counts x stands.counts_are))
    stands.phase_is stands.credited)

pub returns-in-Shutdown-clause-stands : goal.returns-in-Shutdown-clause-stands
returns-in-Shutdown-clause-stands c terms initial opening caller last m h le =
    let now = c.args.now - opening in
    let x = expired terms now m in
    let stands = c.drop_old.ensures.stands terms initial opening caller (last - opening) 0 m h (omega (arith, le)) in
    subst (λ (k : Kind). StandsIn terms initial opening caller now 0 c.drop_old.new.self (took now (heard_from initial (body_of k)) x))
    (sym c.in-Shutdown.is) stands

pub returns-in_default : goal.returns-in_default
returns-in_default c =
    let not_shutdown = c.in_default.not-Shutdown in
    record {
      stands = λ terms initial opening caller last m h le.
          let now = c.args.now - opening in
          let x = expired terms now m in
          let stands = c.drop_old.ensures.stands terms initial opening caller (last - opening) 0 m h (omega (arith, le)) in
          let u = unheard initial c.args.packet.now.kind c.in_default.not-Ack c.in_default.not-Nak not_shutdown c.in_default.not-Data in
          subst (λ (y : Heard). StandsIn terms initial opening caller now 0 c.drop_old.new.self (took now y x)) (sym u.heard) stands;
      answer = λ terms initial opening caller last m h le.
          let u = unheard initial c.args.packet.now.kind c.in_default.not-Ack c.in_default.not-Nak not_shutdown c.in_default.not-Data in
          sym (ap (λ y. map (says caller initial (c.args.now - opening)) (answers y)) u.heard);
      packet = λ e. absurd cc;
      kept = λ e. refl;
      ended = (unheard 0 c.args.packet.now.kind c.in_default.not-Ack c.in_default.not-Nak not_shutdown c.in_default.not-Data).ends;
    }
