use Rattle.srt_pub.proofs.Logs.{log_nak}
use Rattle.srt_pub.proofs.log.Log.nak.Goals as goal

pub returns : goal.returns
returns c rs terms front point seen notes h =
    log_nak terms front point seen c.args.time c.later_if-self.result c.args.all rs c.args.self.now notes c.later_if-self.ensures h
