use Rattle.std.proofs.Common.{refl}
use Rattle.srt_sub.proofs.Sound.{stands_at_first}
use Rattle.srt_sub.proofs.session.Subscriber.open.Goals as goal

pub returns-clause-stands : goal.returns-clause-stands
returns-clause-stands c =
    stands_at_first _ _ _ _ _ _ c.in_ok-buffer.ensures (c.start.ensures 0 _ refl refl) refl refl refl refl refl refl refl refl c.none.ensures
