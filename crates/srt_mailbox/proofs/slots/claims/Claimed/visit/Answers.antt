use Rattle.std.proofs.Common.{sym, subst}
use Rattle.srt_mailbox.specs.Cells.{Bears}
use Rattle.srt_mailbox.specs.Claims.{ClaimedRun}
use Rattle.srt_mailbox.specs.Runs.{Run}
use Rattle.srt_mailbox.proofs.slots.claims.Claimed.visit.Goals as goal

pub returns-clause-bears : goal.returns-clause-bears
returns-clause-bears g c n bears =
    c.visit.ensures.bears n
    (subst (λ (r : Run). Bears n r) (sym c.deref_mut.ensures.value) (subst (λ (r : ClaimedRun). Bears n r.now) (sym c.self.view_is) bears))
