use Rattle.srt_sub.proofs.Waiting.{reopened}
use Rattle.srt_sub.proofs.session.Subscriber.release.Goals as goal

pub returns : goal.returns
returns c terms initial opening caller time given m h =
    reopened terms initial opening caller time given c.args.self.now m h c.open.new.self c.args.window c.open.ensures
