use Rattle.std.proofs.Common.{List, ◌∷◌, refl, sym, subst}
use Rattle.std.specs.Prelude.{Result}
use Rattle.srt_types.specs.Runs.{Range, ranges_from}
use Rattle.srt_loss.specs.declared.reading.LossFault.{LossFault}
use Rattle.srt_sendbuf.specs.Sending.{requested, asks_for_gone}
use Rattle.srt_sendbuf.specs.Outgoing.{gone_by, gone as gone_words}
use Rattle.srt_sub.specs.Heard.{requested_from}
use Rattle.srt_sub.specs.Subscribing.{with_nak, gone}
use Rattle.srt_sub.specs.Subscribing.{Missed}
use Rattle.srt_sub.specs.Stands.{StandsIn}
use Rattle.srt_sub.specs.Counting.{Counted}
use Rattle.srt_sub.specs.declared.counts.Counts.{Counts}
use Rattle.srt_sub.proofs.Counting.{counts_requested}
use Rattle.srt_sub.proofs.Sound.{changed, sound_marked, is_gone, isnt_gone}
use Rattle.srt_sub.proofs.session.Subscriber.take_losses.Goals as goal

pub returns-in-Some : goal.returns-in-Some
returns-in-Some c terms initial opening caller time given m h =
    let ranges = ranges_from initial c.in-Ok.losses in
    let outgoing = is_gone (asks_for_gone ranges m.sending) (gone_by c.in-Some.run') (gone_words initial m.sending)
    (c.in-Some.ensures.answer terms.width initial m.sending h.buffer_is) in
    let b = outgoing.0 in
    subst
    (λ (r : Result (List Range) LossFault). StandsIn terms initial opening caller time given
    (record c.args.self.now { buffer = c.lose.new.self; history = c.note_drop_request.new.self; counts = c.ask.new.self })
    (with_nak (requested_from initial r) m))
    c.in-Ok.ensures.value
    (rw b
    (changed terms initial opening caller time given c.args.self.now m h time given c.args.self.now.given c.lose.new.self
    c.note_drop_request.new.self (record m { sending = requested ranges m.sending; notes = Missed (gone m.sending) ∷ m.notes }) h.given_is
    (c.lose.ensures.stands terms.width initial m.sending h.buffer_is)
    (c.note_drop_request.ensures initial terms m.notes (gone m.sending) outgoing.1 h.history_is)
    (sound_marked terms time m.sending (requested ranges m.sending) refl refl h.sound) c.ask.new.self
    (subst (λ (k : Counts). Counted k (record m { sending = requested ranges m.sending })) (sym c.ask.ensures)
    (counts_requested ranges c.args.self.now.counts m h.counts_are))
    h.phase_is h.credited))

pub returns-in_default-lose : goal.returns-in_default-lose
returns-in_default-lose c terms initial opening caller time given m h =
    let ranges = ranges_from initial c.in-Ok.losses in
    let b = isnt_gone (asks_for_gone ranges m.sending) (gone_words initial m.sending)
    (c.in_default-lose.ensures.answer terms.width initial m.sending h.buffer_is) in
    subst
    (λ (r : Result (List Range) LossFault). StandsIn terms initial opening caller time given
    (record c.args.self.now { buffer = c.lose.new.self; counts = c.ask.new.self }) (with_nak (requested_from initial r) m))
    c.in-Ok.ensures.value
    (rw b
    (changed terms initial opening caller time given c.args.self.now m h time given c.args.self.now.given c.lose.new.self
    c.args.self.now.history (record m { sending = requested ranges m.sending }) h.given_is
    (c.lose.ensures.stands terms.width initial m.sending h.buffer_is) h.history_is
    (sound_marked terms time m.sending (requested ranges m.sending) refl refl h.sound) c.ask.new.self
    (subst (λ (k : Counts). Counted k (record m { sending = requested ranges m.sending })) (sym c.ask.ensures)
    (counts_requested ranges c.args.self.now.counts m h.counts_are))
    h.phase_is h.credited))
