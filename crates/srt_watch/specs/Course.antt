-- When snapshots of the routes are taken, and when and why the gateway stops.
use Rattle.std.specs.Prelude.{ℕ, ◌+◌, ◌-◌, ◌^◌, min, Bool, false, not, nat_lt, nat_le, Option, None, Some, is_some, if◌then◌else◌}
use Rattle.srt_log.specs.declared.events.StopCause.{StopCause}
use Rattle.srt_log.specs.declared.events.StopCause.TheVariants.{Signal, Duration}
use Rattle.srt_watch.specs.declared.course.Course.{Course}

-- a time later by this many microseconds
abbrev pub later : (moment span : ℕ) → ℕ
later moment span = min (moment + span) (2 ^ 64 - 1)

abbrev pub first_course : Course
first_course = record { next_snapshot = 0; ends_at = None; requested_at = None }

abbrev pub ending : Course → (moment lasts : ℕ) → Course
ending course moment lasts = record course { ends_at = Some (later moment lasts) }

-- a run that begins at this moment ends by itself if it lasts so long
abbrev pub begun : Course → (moment : ℕ) → (lasts : Option ℕ) → Course
begun course moment None = course
begun course moment (Some lasts) = ending course moment lasts

-- snapshots are due twice a second
abbrev pub is_due : Course → (moment : ℕ) → Bool
is_due course moment = not (nat_lt moment course.next_snapshot)

abbrev pub after_due : Course → (moment : ℕ) → Course
after_due course moment = if is_due course moment then record course { next_snapshot = later moment 500_000 } else course

abbrev pub is_stopping : Course → Bool
is_stopping course = is_some course.requested_at

-- the time of the run is over
abbrev pub is_over : Option ℕ → (moment : ℕ) → Bool
is_over None moment = false
is_over (Some ends_at) moment = nat_le ends_at moment

-- why the gateway is to stop, by a signal first
abbrev pub cause_of : (requested : Bool) → (ends_at : Option ℕ) → (moment : ℕ) → Option StopCause
cause_of requested ends_at moment = if requested then Some Signal else (if is_over ends_at moment then Some Duration else None)

-- the same, once
abbrev pub stop_of : Course → (requested : Bool) → (moment : ℕ) → Option StopCause
stop_of course requested moment = if is_stopping course then None else cause_of requested course.ends_at moment

abbrev pub after_stop : Course → (requested : Bool) → (moment : ℕ) → Course
after_stop course requested moment =
    if is_some (stop_of course requested moment) then record course { requested_at = Some moment } else course
