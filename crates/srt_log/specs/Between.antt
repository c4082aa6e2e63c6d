-- What is logged of a route between two snapshots, in order.
use Rattle.std.specs.Prelude.{ℕ, zero, suc, List, [], ◌∷◌, ◌++◌, Option, None, Some}
use denote.Ref.{Bor}
use Rattle.srt_log.specs.declared.events.LogEvent.{LogEvent}
use Rattle.srt_log.specs.declared.snapshots.RouteSnapshot.{RouteSnapshot}
use Rattle.srt_log.specs.declared.changes.Change.{Change}
use Rattle.srt_log.specs.Changes.{change_at}
use Rattle.srt_log.specs.Telling.{event_of}

-- the event of a change, if there is one
abbrev pub event_if : Bor (List ℕ) → (old new : RouteSnapshot) → Option Change → Option LogEvent
event_if route old new None = None
event_if route old new (Some change) = event_of route old new change

-- what is logged in a step
abbrev pub event_at : Bor (List ℕ) → (old new : RouteSnapshot) → (step : ℕ) → Option LogEvent
event_at route old new step = event_if route old new (change_at old new step)

abbrev pub listed : Option LogEvent → List LogEvent
listed None = []
listed (Some event) = event ∷ []

-- the events of the first steps
unfoldable pub events_to : Bor (List ℕ) → (old new : RouteSnapshot) → (steps : ℕ) → List LogEvent
events_to route old new zero = []
events_to route old new (suc step) = events_to route old new step ++ listed (event_at route old new step)

-- those of all steps
abbrev pub events_between : Bor (List ℕ) → (old new : RouteSnapshot) → List LogEvent
events_between route old new = events_to route old new 120
