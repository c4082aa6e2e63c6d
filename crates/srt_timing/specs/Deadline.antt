-- When a packet is due, and when it is too late. All times are whole microseconds.
use Rattle.std.specs.Prelude.{◌≡◌, ℕ, ◌+◌, ◌-◌, ◌*◌, ◌/◌, ◌^◌, max, ℤ, pos, ◌+ℤ◌, ◌-ℤ◌, ◌*ℤ◌, ◌<ℤ◌, ◌≤ℤ◌}
use Rattle.srt_types.specs.Limits.{tlpktdrop_min_us}
use Rattle.srt_types.specs.Lift.{IsLift, lift, stamped_from}
use Rattle.srt_timing.specs.declared.deadlines.Base.{Base}

-- the time at which a session was opened
abbrev pub opening_of : Base → ℕ
opening_of b = b.opening

-- the timestamp of the conclusion that opened it
abbrev pub first_of : Base → ℕ
first_of b = b.first.word

-- the time on the sender's clock at now, if at the base it was the conclusion's timestamp. The base is the opening plus
-- the correction of the sender's clock, and can be negative
abbrev pub sender_time : (base : ℤ) → (first now : ℕ) → ℤ
sender_time base first now = pos first +ℤ (pos now -ℤ base)

-- the packet's timestamp denotes the time nearest to the sender's time; the packet is due one delay after that time, on
-- the gateway's clock (section 4.5.1)
abbrev pub IsDeadline : (base : ℤ) → (first word now delay : ℕ) → ℤ → Type 0
IsDeadline base first word now delay due =
    (time : ℤ) × IsLift word (sender_time base first now) time × (due ≡ base -ℤ pos first +ℤ time +ℤ pos delay)

-- the time at which the packet is due, as a function
abbrev pub deadline_at : (base : ℤ) → (first word now delay : ℕ) → ℤ
deadline_at base first word now delay = base -ℤ pos first +ℤ lift word (sender_time base first now) +ℤ pos delay

-- the time that a timestamp denotes at this time. Both are relative to the session: time 0 is its opening, and timestamp
-- 0 is that of its conclusion. The correction is by how much the sender's clock is slow since the opening
abbrev pub corrected_time : (correction time : ℤ) → (stamp : ℕ) → ℤ
corrected_time correction time stamp = correction +ℤ lift stamp (time -ℤ correction)

-- the time at which the packet is due, relative to the session
abbrev pub due_time : (delay : ℕ) → (correction : ℤ) → (time stamp : ℕ) → ℤ
due_time delay correction time stamp = corrected_time correction (pos time) stamp +ℤ pos delay

-- the deadline relative to the session, converted to an absolute time
abbrev pub deadline_from_opening : (opening first : ℕ) → (correction : ℤ) → (word now delay : ℕ) → ℤ
deadline_from_opening opening first correction word now delay =
    pos opening +ℤ due_time delay correction (now - opening) (stamped_from first word)

-- there is exactly one deadline, and it is the value of deadline_at
abbrev pub DeadlineIsTheMoment : Type 0
DeadlineIsTheMoment = (base : ℤ) (first word now delay : ℕ) →
    IsDeadline base first word now delay (deadline_at base first word now delay) ×
    ((due : ℤ) → IsDeadline base first word now delay due → due ≡ deadline_at base first word now delay)

-- a deadline is the opening plus the deadline relative to it
abbrev pub DeadlinesFromOpening : Type 0
DeadlinesFromOpening = (opening first : ℕ) (correction : ℤ) (word time delay : ℕ) →
    deadline_at (pos opening +ℤ correction) first word (opening + time) delay ≡
    pos opening +ℤ due_time delay correction time (stamped_from first word)

-- without a correction, the packet is due one delay after the time nearest to its arrival
abbrev pub DueTimesUncorrected : Type 0
DueTimesUncorrected = (delay time stamp : ℕ) → due_time delay (pos 0) time stamp ≡ lift stamp (pos time) +ℤ pos delay

-- whatever the correction and the timestamp, a packet is due within 2^31 microseconds of one delay after its arrival
pub record IsDueNear (delay time : ℕ) (due : ℤ) : Type 0 where
  pub above : (pos time +ℤ pos delay) ≤ℤ (due +ℤ pos (2 ^ 31))
  pub below : due <ℤ (pos time +ℤ pos delay +ℤ pos (2 ^ 31))

abbrev pub DueTimesAreNear : Type 0
DueTimesAreNear = (delay : ℕ) (correction : ℤ) (time stamp : ℕ) → IsDueNear delay time (due_time delay correction time stamp)

-- a packet to be sent is too late if it is older than 1.25 times the delay and older than a second (section 4.6)
pub record IsTooLate (delay : ℕ) (age : ℤ) : Type 0 where
  pub than_delay : pos (5 * delay) <ℤ (pos 4 *ℤ age)
  pub than_second : pos tlpktdrop_min_us <ℤ age

-- the age above which a packet is too late: the greater of these two bounds, rounded down
abbrev pub threshold : (delay : ℕ) → ℕ
threshold delay = max (delay * 5 / 4) tlpktdrop_min_us

-- a packet queued before this time is too late
abbrev pub too_late_at : (now delay : ℕ) → ℤ
too_late_at now delay = pos now -ℤ pos (threshold delay)

-- the threshold relative to a session's opening is the same time
abbrev pub ThresholdsFromOpening : Type 0
ThresholdsFromOpening = (opening time delay : ℕ) → too_late_at (opening + time) delay ≡ pos opening +ℤ too_late_at time delay
