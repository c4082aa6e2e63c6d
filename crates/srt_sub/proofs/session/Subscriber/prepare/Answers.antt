use Rattle.srt_sub.specs.Subscribing.{renewed}
use Rattle.srt_sub.proofs.Counting.{counts_renewed}
use Rattle.srt_sub.proofs.Credits.{credited_renewed}
use Rattle.srt_sub.proofs.Sound.{changed}
use Rattle.srt_sub.proofs.session.Subscriber.prepare.Goals as goal

pub returns : goal.returns
returns c terms initial opening caller given m h =
    let s = c.args.self.now in
    let time = c.args.time in (
      c.presume.ensures.stands terms initial opening caller given (renewed terms time m)
          (changed terms initial opening caller time given s m h time given s.given s.buffer c.renew.new.self (renewed terms time m) h.given_is
          h.buffer_is (c.renew.ensures initial terms m.notes h.history_is) h.sound s.counts
          (counts_renewed terms.resend_percent time s.counts m h.counts_are) h.phase_is
          (credited_renewed terms.resend_percent time m.notes h.credited)),
      c.presume.ensures.phase,
    )
