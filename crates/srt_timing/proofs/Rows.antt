-- Computed examples of a sender's clock and of corrected due times. All times are since the opening.
use Rattle.std.proofs.Common.{◌≡◌, ℕ, Option, None, Some, List, [], ◌∷◌, pos, negsuc, refl}
use Rattle.srt_types.specs.Lift.{lift}
use Rattle.srt_timing.specs.Deadline.{due_time}
use Rattle.srt_timing.specs.Clock.{Sample, sampled, clock_after}
use Rattle.srt_timing.specs.declared.drift_windows.Clock.{Clock}
use Rattle.srt_timing.specs.declared.drift_windows.Window.{Window}

abbrev sample : (time stamp round_trip : ℕ) → Sample
sample time stamp round_trip = record { time = time; stamp = stamp; round_trip = round_trip }

abbrev window : (start round_trip lateness : ℕ) → Option Window
window start round_trip lateness = Some (record { start = start; round_trip = round_trip; lateness = pos lateness })

-- the first window: the sample with the least round trip, whatever its lateness
abbrev first_one : List Sample
first_one = sample 1_010_000 1_004_500 10_000 ∷ []

abbrev first_two : List Sample
first_two = sample 1_508_000 1_503_250 8_000 ∷ first_one

abbrev first_three : List Sample
first_three = sample 2_009_999 2_004_599 9_000 ∷ first_two

opened_window : (clock_after first_one).window ≡ window 1_010_000 10_000 500
unfolding lift sampled
opened_window = refl

lesser_round_trip : (clock_after first_two).window ≡ window 1_010_000 8_000 750
unfolding lift sampled
lesser_round_trip = refl

not_a_second : (clock_after first_three).window ≡ window 1_010_000 8_000 750
unfolding lift sampled
not_a_second = refl

-- it closes with the reference
abbrev referenced : List Sample
referenced = sample 2_010_000 5 30_000 ∷ first_three

reference : clock_after referenced ≡ record { correction = pos 0; moved = 2_010_000; reference = Some (pos 750); window = None }
unfolding lift sampled
reference = refl

-- of two equal round trips the later sample counts
abbrev later : List Sample
later = sample 3_110_000 3_103_300 10_000 ∷ sample 2_110_000 2_103_750 10_000 ∷ referenced

moved_later : clock_after later ≡ record { correction = pos 950; moved = 3_110_000; reference = Some (pos 750); window = None }
unfolding lift sampled
moved_later = refl

due_later : due_time 120_000 (pos 950) 3_300_000 5_000_000 ≡ pos 5_120_950
unfolding lift
due_later = refl

-- moves are limited
abbrev much_later : List Sample
much_later = sample 4_210_999 4_185_049 10_000 ∷ sample 3_210_000 3_204_050 10_000 ∷ later

moved_much_later : clock_after much_later ≡ record { correction = pos 2_050; moved = 4_210_999; reference = Some (pos 750); window = None }
unfolding lift sampled
moved_much_later = refl

abbrev much_earlier : List Sample
much_earlier = sample 5_409_998 2_152_881_597 10_000 ∷ sample 4_310_000 4_302_950 10_000 ∷ much_later

moved_much_earlier : clock_after much_earlier ≡ record { correction = pos 852; moved = 5_409_998; reference = Some (pos 750); window = None }
unfolding lift sampled
moved_much_earlier = refl

-- a window that isn't closed in ten seconds is discarded
abbrev discarded : List Sample
discarded = sample 15_500_010 15_498_403 10 ∷ sample 5_500_010 5_499_030 10 ∷ much_earlier

new_window : (clock_after discarded).window ≡ window 15_500_010 10 750
unfolding lift sampled
new_window = refl

abbrev closed_late : List Sample
closed_late = sample 25_500_009 25_448_402 11 ∷ discarded

no_move : clock_after closed_late ≡ record { correction = pos 852; moved = 25_500_009; reference = Some (pos 750); window = None }
unfolding lift sampled
no_move = refl

-- early timestamps move it beyond the slack
abbrev early : (stamp : ℕ) → Clock
early stamp = clock_after (sample 39_000_000 stamp 0 ∷ sample 38_000_000 1 0 ∷ closed_late)

within_slack : (early 39_000_398).correction ≡ pos 852
unfolding lift sampled
within_slack = refl

beyond_the_slack : (early 39_000_399).correction ≡ pos 851
unfolding lift sampled
beyond_the_slack = refl

-- with a correction of -1,100 a timestamp is read nearest to the time on the sender's clock
read_near : (due_time 120_000 (negsuc 1_099) 2_700_000 2_150_184_747 ≡ pos 2_150_303_647) ×
    (due_time 120_000 (negsuc 1_099) 2_700_000 2_150_184_748 ≡ negsuc 2_144_663_647)
unfolding lift
read_near = (refl, refl)
