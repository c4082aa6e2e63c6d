use Rattle.std.proofs.Common.{sym, subst}
use Rattle.srt_mailbox.specs.Cells.{Bears}
use Rattle.srt_mailbox.specs.Claims.{ClaimedRun}
use Rattle.srt_mailbox.specs.Identities.{identity_in}
use Rattle.srt_mailbox.specs.Looks.{WasShown}
use Rattle.srt_mailbox.specs.Runs.{Run}
use Rattle.srt_mailbox.proofs.cells.RouteCell.show_claimed.Goals as goal

pub returns-clause-shown : goal.returns-clause-shown
returns-clause-shown g c =
    let noted = g.L.Observer.noted c.args.look.now c.show.new.look in
    subst (λ (r : ClaimedRun). Bears (identity_in c.args.self.now) r.was × WasShown r.was noted) (sym c.give_back-back.ensures)
    (c.in_ok-claimed.ensures.0, subst (λ (r : Run). WasShown r noted) c.in_ok-claimed.ensures.1 c.show.ensures)
