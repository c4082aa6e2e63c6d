use Rattle.srt_host.specs.Held.{waiting_in}
use Rattle.srt_host.proofs.HeldTexts.{rest_of_rest}
use Rattle.srt_host.proofs.errors.Errors.write_held.Goals as goal

pub loop-preserved : goal.loop-preserved
loop-preserved g c =
    rest_of_rest 4096 (waiting_in c.args.self.now) (waiting_in c.loop.self) (waiting_in c.write_next.new.self) c.loop.invariant c.write_next.ensures
