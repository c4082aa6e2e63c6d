use Rattle.srt_pub.specs.Publishing.{confirmed_by, samples}
use Rattle.srt_pub.proofs.Logs.{log_confirmed}
use Rattle.srt_pub.proofs.log.Log.confirm.Goals as goal

pub returns-in-Some : goal.returns-in-Some
returns-in-Some c terms front point seen notes h =
    log_confirmed terms front point seen c.args.time c.args.stamp.word c.in-Some.round_trip (confirmed_by c.args.number notes) c.args.self.now
    c.confirm.new.self c.sample.new.self c.with_sample-self.result notes (c.in-Some.ensures.sample terms.width front point notes h.acks)
    (c.confirm.ensures.stands c.args.stamp.word terms.width front point notes h.acks) (c.sample.ensures terms.callers (samples notes) h.times)
    c.with_sample-self.ensures h
