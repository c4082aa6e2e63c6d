-- The snapshot of a publisher's session.
use Rattle.std.specs.Prelude.{◌≡◌, ◌-◌, option_map}
use Rattle.srt_timing.specs.RoundTrip.{RoundTrip}
use Rattle.srt_recvbuf.specs.Receiving.{end_of, available}
use Rattle.srt_timing.specs.declared.drift_windows.Clock.{Clock}
use Rattle.srt_pub.specs.Publishing.{Terms, Publishing, round_trip, clock_of}
use Rattle.srt_pub.specs.Counting.{Counted, delivered_in}
use Rattle.srt_pub.specs.declared.statistics.Statistics.{Statistics}

abbrev pub shown_round_trip : Statistics → RoundTrip
shown_round_trip x = record { time = x.rtt; variance = x.variance }

-- `x` has the counters and the state of the session
pub record AreStatistics (terms : Terms) (m : Publishing) (x : Statistics) : Type 0 where
  pub counts_are : Counted x.counts m.receiving.arrivals (delivered_in m.receiving) m.receiving.front m.notes
  pub in_use_is : x.in_use ≡ end_of m.receiving.arrivals - m.receiving.front
  pub available_is : x.available ≡ available terms.width m.receiving
  pub round_trip_is : shown_round_trip x ≡ round_trip terms.callers m.notes
  pub correction_is : x.correction ≡ option_map (λ (c : Clock). c.correction) (clock_of terms m.notes)
