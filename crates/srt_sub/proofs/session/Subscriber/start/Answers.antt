use Rattle.std.proofs.Common.{refl}
use Rattle.srt_types.specs.Window.{word_of}
use Rattle.srt_sub.proofs.Sound.{stands_at_first}
use Rattle.srt_sub.proofs.session.Subscriber.start.Goals as goal

pub returns : goal.returns
returns c width w =
    stands_at_first _ _ _ _ _ _ (c.start.ensures width w.0 w.1 w.2) (c.start-self.ensures (word_of c.args.opening.initial) _ refl refl) refl refl refl
    refl refl refl refl refl c.none-self.ensures
