use Rattle.std.proofs.Common.{sym, ◌∙◌}
use Rattle.srt_watch.proofs.Steered.{begun}
use Rattle.srt_watch.proofs.steering.Steering.begin.Goals as goal

pub invariant_of-self : goal.invariant_of-self
invariant_of-self g c =
    record { known = begun _ _ _ _ _ _ _ c.requires (sym c.take.ensures.value ∙ c.in-Some.is) c.take.ensures.after c.end_after.ensures c.args.self.now.known }
