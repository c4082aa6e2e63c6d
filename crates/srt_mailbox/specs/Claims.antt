-- A route that a call has claimed.
use Rattle.srt_mailbox.specs.Runs.{Run}

-- the route as it was when it was claimed, and as it is now, or as it was given back
pub record ClaimedRun : Type 0 where
  pub was : Run
  pub now : Run

abbrev pub claimed_run : (was now : Run) → ClaimedRun
claimed_run a b = record { was = a; now = b }
