use Rattle.srt_pub.proofs.session.Publisher.statistics.Goals as goal
use Rattle.std.proofs.Common.{ℕ, ◌+◌, ap, ◌∙◌, arith}
use Rattle.srt_timing.specs.RoundTrip.{RoundTrip, round_trip_of}
use Rattle.srt_recvbuf.specs.Receiving.{top}
use Rattle.srt_pub.proofs.Goings.{end_within}
use Rattle.srt_pub.proofs.Windows.{beyond}

abbrev trip : ℕ → ℕ → RoundTrip
trip time variance = record { time = time; variance = variance }

pub returns : goal.returns
returns c terms initial opening stamp caller m h =
    let r = m.receiving in
    let width = terms.width in
    let ends = end_within width r (beyond width initial opening c.args.self.now.buffer r h.buffer) in
    let s = c.steps.ensures (initial + r.front) (initial + top r) (omega arith) (omega (arith, ends, h.narrow))
    (c.front.ensures width initial opening r h.buffer) (c.top.ensures width initial opening r h.buffer) in
    let rtt = round_trip_of c.values-rtt.result in
    record {
      counts_are = h.counts;
      in_use_is = omega (arith, s);
      available_is = c.available.ensures width initial opening r h.buffer;
      round_trip_is = ap (λ (x : ℕ). trip x c.variance.result) c.rtt.ensures ∙ ap (λ (x : ℕ). trip rtt.time x) c.variance.ensures
          ∙ c.values-rtt.ensures ∙ h.log.times.0;
      correction_is = c.followed_correction.ensures.value terms _ _ _ _ h.log;
    }
