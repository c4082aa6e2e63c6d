use Rattle.std.proofs.Common.{Option, [], ◌∷◌, refl, sym, subst}
use Rattle.srt_types.specs.Runs.{Run}
use Rattle.srt_sendbuf.specs.Outgoing.{gone_by}
use Rattle.srt_sub.specs.Subscribing.{Dropped, unreported, drops_of, noted}
use Rattle.srt_sub.specs.Stands.{StandsIn}
use Rattle.srt_sub.proofs.Sound.{changed, outgoing_run}
use Rattle.srt_sub.proofs.session.Subscriber.next_drop.Goals as goal

pub returns-clause-stands : goal.returns-clause-stands
returns-clause-stands c terms initial opening caller given m h =
    let outgoing = outgoing_run initial (gone_by c.in-Some.run') (unreported m.notes) (c.in-Some.ensures.answer initial terms m.notes h.history_is) in
    subst
    (λ (o : Option Run). StandsIn terms initial opening caller c.args.time given
    (record c.args.self.now { history = c.take_missed.new.self }) (record m { notes = noted c.args.time (drops_of o) m.notes }))
    (sym outgoing.1)
    (changed terms initial opening caller c.args.time given c.args.self.now m h c.args.time given c.args.self.now.given
    c.args.self.now.buffer c.take_missed.new.self (record m { notes = noted c.args.time (Dropped outgoing.0 ∷ []) m.notes }) h.given_is h.buffer_is
    (c.in-Some.ensures.some initial terms m.notes (Dropped outgoing.0) refl refl h.history_is) h.sound c.args.self.now.counts h.counts_are
    h.phase_is h.credited)
