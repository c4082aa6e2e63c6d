-- The drift of a sender's clock, estimated from ACKACKs (section 4.7; the rules are our choice). Times are whole
-- microseconds since the session's opening, and timestamps count from the timestamp of its conclusion. Lists have the
-- newest first.
use Rattle.std.specs.Prelude.{◌≡◌, ℕ, ◌+◌, ◌-◌, ◌/◌, ◌^◌, ◌<◌, ◌≤◌, max, nat_le, if◌then◌else◌, Option, None, Some, List, [], ◌∷◌, ⊤}
use Rattle.std.specs.Option.{ForSome}
use Rattle.std.specs.Prelude.{ℤ, pos, ◌+ℤ◌, ◌-ℤ◌, ◌*ℤ◌, ◌≤ℤ◌}
use Rattle.std.specs.Int.{int_min, int_max}
use Rattle.srt_timing.specs.Deadline.{corrected_time}
use Rattle.srt_timing.specs.declared.drift_windows.Window.{Window}
use Rattle.srt_timing.specs.declared.drift_windows.Clock.{Clock}

-- a sample: an ACKACK that confirms a Full ACK arrives at this time with this timestamp, and the round-trip time is
-- this one
pub record Sample : Type 0 where
  pub time : ℕ
  pub stamp : ℕ
  pub round_trip : ℕ

-- the time after which a window that wasn't closed is discarded, in microseconds
abbrev pub window_expiry_us : ℕ
window_expiry_us = 10_000_000

-- the minimum time from a window's first sample to its last one, in microseconds
abbrev pub window_length_us : ℕ
window_length_us = 1_000_000

-- the lateness below the reference that moves nothing, in microseconds
abbrev pub slack_us : ℕ
slack_us = 2_000

-- the maximum drift that is followed is one part in this number (1000 ppm)
abbrev pub parts : ℕ
parts = 1000

-- the clock of a session that was just opened
abbrev pub clock_at_first : Clock
clock_at_first = record { correction = pos 0; moved = 0; reference = None; window = None }

-- how late a sample's timestamp is, less half of the round trip: with this correction, it denotes the time
-- corrected_time
abbrev pub lateness : (correction : ℤ) → Sample → ℤ
lateness correction s = pos s.time -ℤ corrected_time correction (pos s.time) s.stamp -ℤ pos (s.round_trip / 2)

-- a window that is too old is discarded
abbrev pub unexpired : (time : ℕ) → Option Window → Option Window
unexpired time None = None
unexpired time (Some w) = if nat_le window_expiry_us (time - w.start) then None else Some w

-- the window after a sample with this lateness: it has the sample with the least round trip, of equal ones the last
abbrev pub with_sample : (late : ℤ) → Sample → Option Window → Window
with_sample late s None = record { start = s.time; round_trip = s.round_trip; lateness = late }
with_sample late s (Some w) =
    if nat_le s.round_trip w.round_trip then record { start = w.start; round_trip = s.round_trip; lateness = late } else w

-- a lateness that is greater than the reference counts whole, a lesser one by what is beyond the slack
abbrev pub beyond_slack : (change : ℤ) → ℤ
beyond_slack change = int_max change (int_min (pos 0) (change +ℤ pos slack_us))

-- the correction moves by at most `limit` either way
abbrev pub limited : (limit : ℕ) → (change : ℤ) → ℤ
limited limit change = int_max (pos 0 -ℤ pos limit) (int_min (pos limit) change)

-- the change of the correction by a window that closes `elapsed` after the one before it
abbrev pub change_by : (elapsed : ℕ) → (late reference : ℤ) → ℤ
change_by elapsed late reference = limited (elapsed / parts) (beyond_slack (late -ℤ reference))

-- the clock after a window closes: the session's first one gives the reference, each later one moves the correction.
-- Times don't decrease, so the time of the later closing is this one
abbrev pub closed_from : (reference : Option ℤ) → (time : ℕ) → (late : ℤ) → Clock → Clock
closed_from None time late c = record { correction = c.correction; moved = max c.moved time; reference = Some late; window = None }
closed_from (Some reference) time late c =
    record {
      correction = c.correction +ℤ change_by (time - c.moved) late reference;
      moved = max c.moved time;
      reference = Some reference;
      window = None;
    }

abbrev pub closed : (time : ℕ) → (late : ℤ) → Clock → Clock
closed time late c = closed_from c.reference time late c

-- the clock with a window that has just taken a sample: the window closes if it is long enough
abbrev pub closed_if_long : (time : ℕ) → Window → Clock → Clock
closed_if_long time w c = if nat_le window_length_us (time - w.start) then closed time w.lateness c else record c { window = Some w }

-- the clock after a sample
unfoldable pub sampled : Sample → Clock → Clock
sampled s c = closed_if_long s.time (with_sample (lateness c.correction s) s (unexpired s.time c.window)) c

-- the clock after these samples
abbrev pub clock_after : List Sample → Clock
clock_after [] = clock_at_first
clock_after (s ∷ samples) = sampled s (clock_after samples)

-- a lateness is near 0
pub record IsNear (late : ℤ) : Type 0 where
  pub above : pos 0 ≤ℤ (late +ℤ pos (2 ^ 31 + 5_000_000))
  pub below : late ≤ℤ pos (2 ^ 31 + 5_000_000)

-- the correction is at most a thousandth of the time of the last closing, either way
pub record IsSlow (correction : ℤ) (moved : ℕ) : Type 0 where
  pub above : pos 0 ≤ℤ (pos moved +ℤ pos parts *ℤ correction)
  pub below : (pos parts *ℤ correction) ≤ℤ pos moved

-- the bounds of a clock's values
pub record IsBounded (c : Clock) : Type 0 where
  pub slow : IsSlow c.correction c.moved
  pub early : c.moved < 2 ^ 62
  pub reference : ForSome c.reference IsNear
  pub window : ForSome c.window (λ w. IsNear w.lateness)

-- the time of the newest sample; 0, the opening, without one
abbrev pub last_time : List Sample → ℕ
last_time [] = 0
last_time (s ∷ samples) = s.time

-- the times of samples don't decrease
abbrev pub AreInOrder : List Sample → Type 0
AreInOrder [] = ⊤
AreInOrder (s ∷ samples) = (last_time samples ≤ s.time) × AreInOrder samples

-- at most 1000 ppm: the correction is at most a thousandth of the time of the last closing, which is no later than the
-- last sample
abbrev pub CorrectionsAreSlow : Type 0
CorrectionsAreSlow = (samples : List Sample) → AreInOrder samples →
    IsSlow (clock_after samples).correction (clock_after samples).moved × ((clock_after samples).moved ≤ last_time samples)

-- a lateness is near 0, whatever the timestamp and the correction
abbrev pub LatenessIsNear : Type 0
LatenessIsNear = (correction : ℤ) (s : Sample) → s.round_trip ≤ 10_000_000 → IsNear (lateness correction s)

-- without a correction, each sample has this lateness
abbrev pub AreAsLate : (late : ℤ) → List Sample → Type 0
AreAsLate late [] = ⊤
AreAsLate late (s ∷ samples) = (lateness (pos 0) s ≡ late) × AreAsLate late samples

-- a right clock over an even line isn't corrected
abbrev pub RightClocksStand : Type 0
RightClocksStand = (late : ℤ) (samples : List Sample) → AreAsLate late samples → (clock_after samples).correction ≡ pos 0
