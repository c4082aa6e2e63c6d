-- The number of packets that an event sends.
use Rattle.std.specs.Prelude.{ℕ, ◌≤◌, Bool, length}
use Rattle.srt_sub.specs.Heard.{Heard}
use Rattle.srt_sub.specs.Subscribing.{Terms, Subscribing, answers, reports}

-- at most one ACKACK, and at the event's end at most one drop request and 64 data packets
pub record SendsAtMost66 : Type 0 where
  pub reports : (terms : Terms) (time : ℕ) (recent : Bool) (s : Subscribing) → length (reports terms time recent s) ≤ 65
  pub answers : (h : Heard) → length (answers h) ≤ 1
