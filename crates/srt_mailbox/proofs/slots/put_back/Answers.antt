use Rattle.std.proofs.Common.{sym, subst}
use Rattle.srt_mailbox.proofs.slots.put_back.Goals as goal

pub leave-requires-clause-fits : goal.leave-requires-clause-fits
leave-requires-clause-fits g c =
    subst (λ (tag : g.row.X-Tag.Denot). g.X.Fits.fits tag c.loop.left) (sym c.turn-found.ensures.2) c.loop.invariant.2
