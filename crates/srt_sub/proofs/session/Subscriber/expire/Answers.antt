use Rattle.std.proofs.Common.{◌-◌, arith}
use Rattle.srt_sub.proofs.session.Subscriber.expire.Goals as goal

pub returns : goal.returns
returns c terms initial opening caller last m h le = c.drop_old.ensures.stands terms initial opening caller (last - opening) 0 m h (omega (arith, le))
