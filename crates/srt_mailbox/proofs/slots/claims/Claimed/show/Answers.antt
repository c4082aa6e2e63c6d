use Rattle.std.proofs.Common.{subst}
use Rattle.srt_mailbox.specs.Claims.{ClaimedRun}
use Rattle.srt_mailbox.specs.Looks.{WasShown}
use Rattle.srt_mailbox.specs.Runs.{Run}
use Rattle.srt_mailbox.proofs.slots.claims.Claimed.show.Goals as goal

pub returns : goal.returns
returns g c =
    let noted = g.L.Observer.noted c.args.look.now c.show.new.look in
    subst (λ (r : ClaimedRun). WasShown r.now noted) c.self.view_is (subst (λ (r : Run). WasShown r noted) c.deref.ensures c.show.ensures)
