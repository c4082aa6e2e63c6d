-- The marks of the routes. Threads set and clear them at any time, so that a clause states which routes an answer may name, not which have a
-- mark.
use Rattle.std.specs.Prelude.{◌≡◌, ℕ, ◌≤◌, ◌<◌, min}
use Rattle.srt_wakeups.specs.declared.bit_set.AtomicBitSet.{AtomicBitSet}
use Rattle.srt_wakeups.specs.declared.wakeups.Wakeups.{Wakeups}

-- the number of routes of a set of marks
abbrev pub routes_of : AtomicBitSet → ℕ
routes_of set = set.routes

-- an answer to "the first from this route on": a route from there on, or the number of routes
abbrev pub IsNextFrom : (routes route answer : ℕ) → Type 0
IsNextFrom routes route answer = (answer ≤ routes) × (min route routes ≤ answer)

-- all marks of a run are for this many routes, and it has this many workers
pub record IsFor (routes workers : ℕ) (wakeups : Wakeups) : Type 0 where
  pub inbox_ready : routes_of wakeups.inbox_ready ≡ routes
  pub in_service : routes_of wakeups.in_service ≡ routes
  pub outbox_ready : routes_of wakeups.outbox_ready ≡ routes
  pub polled : routes_of wakeups.polled ≡ routes
  pub working : wakeups.workers ≡ workers

-- a route of a run
abbrev pub IsAmong : (wakeups : Wakeups) → (route : ℕ) → Type 0
IsAmong wakeups route = (routes workers : ℕ) → IsFor routes workers wakeups → route < routes

-- an answer of a run to "the first from this route on"
abbrev pub IsNextAmong : (wakeups : Wakeups) → (route answer : ℕ) → Type 0
IsNextAmong wakeups route answer = (routes workers : ℕ) → IsFor routes workers wakeups → IsNextFrom routes route answer
