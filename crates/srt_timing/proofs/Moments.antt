-- There is exactly one deadline; deadlines may be relative to the opening; a correction moves them by little.
use Rattle.std.proofs.Common.{◌≡◌, ℕ, ◌+◌, ◌-◌, ◌≤◌, ℤ, pos, ◌+ℤ◌, ◌-ℤ◌, refl, arith}
use Rattle.std.proofs.lemmas.Int.{ints}
use Rattle.srt_types.specs.Lift.{lift, stamped_from}
use Rattle.srt_types.proofs.Lifts.{lift_is, times_from_first}
use Rattle.srt_timing.specs.Deadline.{sender_time, IsDeadline, deadline_at, corrected_time, due_time, DeadlineIsTheMoment, DeadlinesFromOpening}
use Rattle.srt_timing.specs.Deadline.{DueTimesUncorrected, DueTimesAreNear}

pub deadline_is : DeadlineIsTheMoment
deadline_is base first word now delay =
    let l = lift_is word (sender_time base first now) in
    ((lift word (sender_time base first now), l.0, refl), λ due h. omega (arith, ints, h.2, l.1 h.0 h.1))

-- the sender's time is its first timestamp plus the time since the base
sender_time_is : (opening first : ℕ) (correction : ℤ) (time : ℕ)
    → sender_time (pos opening +ℤ correction) first (opening + time) ≡ pos first +ℤ (pos time -ℤ correction)
sender_time_is opening first correction time = omega (arith, ints)

pub deadlines_from_opening : DeadlinesFromOpening
deadlines_from_opening opening first correction word time delay =
    let e = sender_time_is opening first correction time in
    let t = times_from_first first word (pos time -ℤ correction) in
    rw e (omega (arith, ints, t))

no_change : (time : ℕ) → pos time -ℤ pos 0 ≡ pos time
no_change time = omega (arith, ints)

pub due_times_uncorrected : DueTimesUncorrected
due_times_uncorrected delay time stamp = rw (no_change time) (omega (arith, ints))

pub due_times_are_near : DueTimesAreNear
due_times_are_near delay correction time stamp =
    let h = (lift_is stamp (pos time -ℤ correction)).0 in
    record { above = omega (arith, ints, h.above); below = omega (arith, ints, h.below) }

-- the three forms of the deadline of a packet
pub due_from_opening : (opening first : ℕ) (correction : ℤ) (word now delay : ℕ) (due : ℤ)
    → due ≡ pos opening +ℤ (corrected_time correction (pos now -ℤ pos opening) (stamped_from first word) +ℤ pos delay) →
    IsDeadline (pos opening +ℤ correction) first word now delay due ×
    (due ≡ deadline_at (pos opening +ℤ correction) first word now delay) ×
    (opening ≤ now → due ≡ pos opening +ℤ due_time delay correction (now - opening) (stamped_from first word))
due_from_opening opening first correction word now delay due e =
    let t = times_from_first first word (pos now -ℤ pos opening -ℤ correction) in
    let s : sender_time (pos opening +ℤ correction) first now ≡ pos first +ℤ (pos now -ℤ pos opening -ℤ correction) = omega (arith, ints) in
    let same : due ≡ deadline_at (pos opening +ℤ correction) first word now delay = rw s (omega (arith, ints, t, e)) in
    let l = lift_is word (sender_time (pos opening +ℤ correction) first now) in
    ((lift word (sender_time (pos opening +ℤ correction) first now), l.0, same), same, λ le. rw (own le) at e)
  where
    own : opening ≤ now → pos now -ℤ pos opening ≡ pos (now - opening)
    own le = omega (arith, ints, le)
