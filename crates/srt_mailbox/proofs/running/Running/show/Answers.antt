use Rattle.std.proofs.Common.{subst}
use Rattle.srt_mailbox.specs.Looks.{WasShown}
use Rattle.srt_mailbox.specs.Runs.{Run}
use Rattle.srt_mailbox.proofs.running.Running.show.Goals as goal

pub returns : goal.returns
returns g c =
    subst (λ (r : Run). WasShown r (g.L.Observer.noted c.args.look.now c.look.new.self)) c.self.view_is
    (c.self.inside.route, c.self.inside.waiting, (c.self.invariant.0, c.self.invariant.1, c.self.invariant.2), c.look.ensures)
