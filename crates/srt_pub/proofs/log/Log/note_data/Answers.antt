use Rattle.srt_pub.specs.Publishing.{rating, received_at}
use Rattle.std.proofs.Common.{refl}
use Rattle.srt_pub.proofs.log.Log.note_data.Goals as goal

pub returns : goal.returns
returns c region terms front point seen notes h =
    record {
      acks = c.arrived.ensures c.args.time region c.args.put terms.width front point notes h.acks;
      times = h.times;
      rates = c.come.ensures (rating terms.mode terms.callers) (received_at notes) h.rates;
      arrived_is = refl;
      nak_is = h.nak_is;
      sent_is = h.sent_is;
      seen_is = h.seen_is;
      clock_is = h.clock_is;
    }
