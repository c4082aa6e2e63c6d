-- The events between two snapshots, step by step.
use Rattle.std.proofs.Common.{◌≡◌, ℕ, ◌+◌, List, [], ◌++◌, refl, add-one}
use denote.Ref.{Bor}
use Rattle.srt_log.specs.declared.snapshots.RouteSnapshot.{RouteSnapshot}
use Rattle.srt_log.specs.Between.{event_at, listed, events_to}

pub no_events : (route : Bor (List ℕ)) (old new : RouteSnapshot) → events_to route old new 0 ≡ []
unfolding events_to
no_events route old new = refl

pub next_event : (route : Bor (List ℕ)) (old new : RouteSnapshot) (step : ℕ)
    → events_to route old new (step + 1) ≡ events_to route old new step ++ listed (event_at route old new step)
unfolding events_to
next_event route old new step = rw add-one refl
