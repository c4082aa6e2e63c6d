use Rattle.std.proofs.Common.{◌∷◌, refl, sym, subst}
use Rattle.srt_sub.specs.Counting.{AreSendings, fresh_in, resent_in}
use Rattle.srt_sub.specs.Subscribing.{Sent}
use Rattle.srt_sub.specs.declared.counts.Sendings.{Sendings}
use Rattle.srt_sub.proofs.Counting.{sends}
use Rattle.srt_sub.proofs.history.History.give.Goals as goal

pub returns : goal.returns
returns c initial agreed notes r media drop again h =
    record {
      window_is = h.window_is;
      round_trip_is = h.round_trip_is;
      sent_is = refl;
      media_is = rw media refl;
      growth_is = h.growth_is;
      missed_is = rw drop h.missed_is;
      tries_are = h.tries_are;
      once = h.once;
      credit_is = c.note_sent.ensures agreed.resend_percent notes c.args.time r media again h.credit_is;
      sendings_are = subst (λ (k : Sendings). AreSendings k (fresh_in (Sent c.args.time r ∷ notes)) (resent_in (Sent c.args.time r ∷ notes)))
          (sym c.send.ensures) (sends c.args.time c.args.again c.args.self.now.sendings r notes media again h.sendings_are);
    }
