-- Why the routes of a run can't be settled.
use Rattle.std.specs.Prelude.{ℕ, ◌<◌, ◌≤◌, ◌⊎◌, IfNone}
use Rattle.srt_serve.specs.declared.running.NotReached.{NotReached}
use Rattle.srt_serve.specs.declared.running.NotReached.TheVariants.{Began, Behind}

-- the polling thread's reader reached fewer routes than the run began with, or more than 511; or the clock's ends of further routes were looked for
-- until there was evidence that there was none, or no room for one
abbrev pub HasNotReached : (first reached room ends : ℕ) → NotReached → Type 0
HasNotReached first reached room ends (Began busy) = (reached < first) ⊎ (511 < reached)
HasNotReached first reached room ends (Behind none) = IfNone none (room ≤ ends)
