use Rattle.std.proofs.Common.{◌≡◌, ℕ, ◌∷◌, subst, arith}
use Rattle.srt_sub.specs.Subscribing.{Opened, flow_window}
use Rattle.srt_sub.specs.Stands.{StandsIn}
use Rattle.srt_sub.specs.Held.{window_before}
use Rattle.srt_sub.proofs.Waiting.{reopened}
use Rattle.srt_sub.proofs.session.Subscriber.hold.Goals as goal

pub returns-clause-stands : goal.returns-clause-stands
returns-clause-stands c time terms initial opening caller given m h =
    let stored = c.stored.ensures terms.width initial m.sending h.buffer_is in
    let same : c.narrowed-narrow.result ≡ window_before c.args.bound (flow_window terms.window m.notes) m.sending =
    omega (arith, c.narrowed-narrow.ensures, stored, h.counts_are.queued_is, h.history_is.window_is) in
    subst (λ (w : ℕ). StandsIn terms initial opening caller time given (record c.args.self.now { history = c.open.new.self })
    (record m { notes = Opened w ∷ m.notes })) same
    (reopened terms initial opening caller time given c.args.self.now m h c.open.new.self c.narrowed-narrow.result c.open.ensures)

pub returns-clause-window : goal.returns-clause-window
returns-clause-window c terms initial opening caller last m h = h.history_is.window_is
