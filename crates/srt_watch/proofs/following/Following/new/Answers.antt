use Rattle.srt_watch.proofs.Asked.{began}
use Rattle.srt_watch.proofs.following.Following.new.Goals as goal

pub invariant_of-result : goal.invariant_of-result
invariant_of-result g c = record { known = began _ _ _ c.requires c.in_ok-new.ensures.config c.in_ok-new.ensures.indexes }
