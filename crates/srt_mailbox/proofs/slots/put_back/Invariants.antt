use Rattle.srt_mailbox.proofs.slots.put_back.Given as goal

abbrev pub invariant-loop : goal.invariant-loop
invariant-loop g l =
    (goal.iterator-loop g).can_next l.iterator' × (goal.iterator-loop g).is_finite l.iterator' × g.X.Fits.fits l.fn.slot l.left
