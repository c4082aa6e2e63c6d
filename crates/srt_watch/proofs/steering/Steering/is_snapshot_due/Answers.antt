use Rattle.srt_watch.proofs.Steered.{due}
use Rattle.srt_watch.proofs.steering.Steering.is_snapshot_due.Goals as goal

pub invariant_of-self : goal.invariant_of-self
invariant_of-self g c = record { known = due _ _ _ _ _ c.is_snapshot_due.ensures.new c.args.self.now.known }
