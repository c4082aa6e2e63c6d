use Rattle.srt_watch.proofs.Steered.{stopped}
use Rattle.srt_watch.proofs.steering.Steering.stop.Goals as goal

pub invariant_of-self : goal.invariant_of-self
invariant_of-self g c =
    record { known = stopped _ _ _ _ _ _ c.requires.moment c.requires.signal c.stop.ensures.new c.args.self.now.known }
