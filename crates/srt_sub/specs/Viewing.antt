-- The snapshot of a subscriber's session.
use Rattle.std.specs.Prelude.{◌≡◌}
use Rattle.srt_timing.specs.RoundTrip.{RoundTrip}
use Rattle.srt_sendbuf.specs.Sending.{room, in_flight}
use Rattle.srt_sub.specs.Subscribing.{Terms, Subscribing, round_trip, flow_window}
use Rattle.srt_sub.specs.Counting.{Counted, AreSendings, fresh_in, resent_in}
use Rattle.srt_sub.specs.declared.statistics.Statistics.{Statistics}

abbrev pub shown_round_trip : Statistics → RoundTrip
shown_round_trip x = record { time = x.rtt; variance = x.variance }

-- `x` has the counters and the state of the session
pub record AreStatistics (terms : Terms) (m : Subscribing) (x : Statistics) : Type 0 where
  pub counts_are : Counted x.counts m
  pub sendings_are : AreSendings x.sendings (fresh_in m.notes) (resent_in m.notes)
  pub room_is : x.room ≡ room terms.width m.sending
  pub in_flight_is : x.in_flight ≡ in_flight m.sending
  pub flow_window_is : x.flow_window ≡ flow_window terms.window m.notes
  pub round_trip_is : shown_round_trip x ≡ round_trip m.notes
