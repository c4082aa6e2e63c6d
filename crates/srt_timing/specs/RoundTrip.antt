-- Round-trip times and the timers derived from them (section 4.10). All are microseconds.
use Rattle.std.specs.Prelude.{◌≡◌, ℕ, ◌+◌, ◌-◌, ◌*◌, ◌/◌, max, List, [], ◌∷◌}
use Rattle.srt_types.specs.Limits.{nak_interval_min_us, resend_margin_us}
use Rattle.srt_types.specs.declared.shared.Callers.{Callers}
use Rattle.srt_types.specs.declared.shared.Callers.TheVariants.{Draft, Libsrt}
use Rattle.srt_timing.specs.declared.round_trip.Rtt.{Rtt}
use Rattle.srt_timing.specs.declared.sampled.Fold.{Fold}
use Rattle.srt_timing.specs.declared.sampled.Fold.TheVariants.{Replace, Smooth}
use Rattle.srt_timing.specs.declared.sampled.SampledRtt.{SampledRtt}

-- a round-trip time and its variance (RTT and RTTVar), in microseconds
pub record RoundTrip : Type 0 where
  pub time : ℕ
  pub variance : ℕ

-- the values before the first sample (section 4.10)
abbrev pub start : RoundTrip
start = record { time = 100_000; variance = 50_000 }

-- the absolute difference of two numbers
abbrev pub distance : ℕ → ℕ → ℕ
distance a b = (a - b) + (b - a)

-- smoothing: a sample has weight 1/8 in the time, and its distance from the old time has weight 1/4 in the variance
-- (section 4.10); both are rounded down (our choice)
abbrev pub with_sample : ℕ → RoundTrip → RoundTrip
with_sample sample r = record { time = (7 * r.time + sample) / 8; variance = (3 * r.variance + distance r.time sample) / 4 }

-- the effect of a sample after these earlier ones: for callers that run libsrt, the first sample replaces the values
abbrev pub fold_after : Callers → (earlier : List ℕ) → Fold
fold_after Draft earlier = Smooth
fold_after Libsrt [] = Replace
fold_after Libsrt (sample ∷ samples) = Smooth

-- the values after a sample; if it replaces them, the variance is half the sample, rounded down
abbrev pub folded : Fold → (sample : ℕ) → RoundTrip → RoundTrip
folded Smooth sample r = with_sample sample r
folded Replace sample r = record { time = sample; variance = sample / 2 }

-- the values after these samples, the newest first
abbrev pub after_samples : Callers → List ℕ → RoundTrip
after_samples callers [] = start
after_samples callers (sample ∷ samples) = folded (fold_after callers samples) sample (after_samples callers samples)

-- the interval between two periodic NAKs, which report all gaps (section 4.8.2); rounded down (our choice)
abbrev pub nak_interval : RoundTrip → ℕ
nak_interval r = max ((r.time + 4 * r.variance) / 2) nak_interval_min_us

-- the time after which all packets in flight are retransmitted, if none is acknowledged or sent meanwhile (our choice)
abbrev pub resend_after : RoundTrip → ℕ
resend_after r = r.time + 4 * r.variance + resend_margin_us

-- the round-trip time and variance that a value of the code represents
abbrev pub round_trip_of : Rtt → RoundTrip
round_trip_of r = record { time = r.time; variance = r.variance }

-- the same for values computed from samples
abbrev pub values_of : SampledRtt → RoundTrip
values_of r = round_trip_of r.values

-- the value of the code represents the values after these samples, newest first, and has the effect of the next one
abbrev pub StandsFor : Callers → SampledRtt → List ℕ → Type 0
StandsFor callers r samples = (values_of r ≡ after_samples callers samples) × (r.next ≡ fold_after callers samples)
