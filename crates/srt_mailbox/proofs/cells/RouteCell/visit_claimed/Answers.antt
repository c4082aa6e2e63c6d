use Rattle.std.proofs.Common.{sym, subst}
use Rattle.srt_mailbox.specs.Cells.{Bears}
use Rattle.srt_mailbox.specs.Identities.{identity_in}
use Rattle.srt_mailbox.specs.Runs.{Run}
use Rattle.srt_mailbox.proofs.cells.RouteCell.visit_claimed.Goals as goal

pub give_back-back-requires : goal.give_back-back-requires
give_back-back-requires g c =
    c.visit-visit.ensures.bears (identity_in c.args.self.now)
    (subst (λ (r : Run). Bears (identity_in c.args.self.now) r) (sym c.in_ok-claimed.ensures.1) c.in_ok-claimed.ensures.0)
