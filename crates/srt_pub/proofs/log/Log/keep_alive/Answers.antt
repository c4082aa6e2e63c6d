use Rattle.srt_pub.proofs.Logs.{log_alive}
use Rattle.srt_pub.proofs.log.Log.keep_alive.Goals as goal

pub returns : goal.returns
returns c terms front point seen notes h = log_alive terms front point seen c.args.time c.args.self.now notes h
