use Rattle.std.proofs.Common.{Bool, length, ap, sym, subst, ◌∙◌}
use Rattle.srt_timing.specs.RoundTrip as times
use Rattle.srt_types.specs.Given.{given}
use Rattle.srt_pub.specs.Calls.{listed}
use Rattle.srt_pub.specs.Kept.{MeterStandsFor}
use Rattle.srt_pub.specs.Publishing.{rating, follows, clock_if}
use Rattle.srt_pub.proofs.Logs.{after_acks}
use Rattle.srt_pub.proofs.log.Log.ack.Goals as goal

pub returns-then-report-clause-stands : goal.returns-then-report-clause-stands
returns-then-report-clause-stands c terms front a seen notes is h =
    let k = after_acks terms a c.args.state.available c.args.time notes in
    let one = sym (c.report.ensures.count terms front a notes is h.acks) ∙ ap (λ (b : Bool). length (listed (given b c.report.new.body))) c.if-report.true in
    record {
      acks = c.report.ensures.stands terms front a notes (c.values.ensures ∙ h.times.0) h.rates is h.acks;
      times = subst (times.StandsFor terms.callers c.args.self.now.rtt) (sym k.samples_are) h.times;
      rates = subst (MeterStandsFor (rating terms.mode terms.callers) c.args.self.now.meter) (sym k.received_are) h.rates;
      arrived_is = h.arrived_is ∙ sym k.arrived_is;
      nak_is = h.nak_is ∙ sym k.nak_is;
      sent_is = sym (k.something one);
      seen_is = h.seen_is;
      clock_is = h.clock_is ∙ sym (ap (clock_if (follows terms.mode terms.callers)) k.clocked_are);
    }

pub returns-clause-stands : goal.returns-clause-stands
returns-clause-stands c terms front a seen notes is h =
    let k = after_acks terms a c.args.state.available c.args.time notes in
    let none = sym (c.report.ensures.count terms front a notes is h.acks) ∙ ap (λ (b : Bool). length (listed (given b c.report.new.body))) c.if-report.false in
    record {
      acks = c.report.ensures.stands terms front a notes (c.values.ensures ∙ h.times.0) h.rates is h.acks;
      times = subst (times.StandsFor terms.callers c.args.self.now.rtt) (sym k.samples_are) h.times;
      rates = subst (MeterStandsFor (rating terms.mode terms.callers) c.args.self.now.meter) (sym k.received_are) h.rates;
      arrived_is = h.arrived_is ∙ sym k.arrived_is;
      nak_is = h.nak_is ∙ sym k.nak_is;
      sent_is = h.sent_is ∙ sym (k.nothing none);
      seen_is = h.seen_is;
      clock_is = h.clock_is ∙ sym (ap (clock_if (follows terms.mode terms.callers)) k.clocked_are);
    }
