-- The lines of a route, step by step.
use Rattle.std.proofs.Common.{◌≡◌, ℕ, ◌+◌, List, ◌++◌, Option, refl, sym, ap, ◌∙◌, subst, add-one}
use Rattle.std.proofs.lemmas.List.{map-append}
use denote.Ref.{Bor}
use Rattle.srt_log.specs.Between.{event_at, events_to, listed}
use Rattle.srt_log.specs.Changes.{change_at}
use Rattle.srt_log.specs.declared.line_limits.LineKind.TheVariants.{Session}
use Rattle.srt_log.specs.declared.snapshots.RouteSnapshot.{RouteSnapshot}
use Rattle.srt_log.proofs.Between.{no_events, next_event}
use Rattle.srt_watch.specs.declared.log.LogPace.{LogPace}
use Rattle.srt_watch.specs.declared.log.When.{When}
use Rattle.srt_watch.specs.declared.watched_routes.SnapshotPair.{SnapshotPair}
use Rattle.srt_watch.specs.Log.{Logged, Offered, offered, said}
use Rattle.srt_status.specs.declared.route_status.EndCounts.{EndCounts}
use Rattle.srt_watch.specs.RouteLines.{step_calls, calls_to, take_over_more, take_overs_to, end_more, ends_to}
use Rattle.srt_watch.proofs.Logging.{logged_none, logged_both}

-- before the first step, and after one more
pub no_steps : (b : Option (List ℕ)) (p : LogPace) (when : When) (name : Bor (List ℕ)) (pair : SnapshotPair) → Logged b b p p (calls_to when name pair 0)
no_steps b p when name pair = logged_none b p _ (ap (offered when) (no_events name pair.old pair.new))

calls_next : (when : When) (name : Bor (List ℕ)) (pair : SnapshotPair) (step : ℕ) →
    calls_to when name pair (step + 1) ≡ calls_to when name pair step ++ step_calls when name pair step
calls_next when name pair step =
    ap (offered when) (next_event name pair.old pair.new step)
    ∙ map-append (λ event. Offered when Session (said event)) (events_to name pair.old pair.new step) (listed (event_at name pair.old pair.new step))

pub next_step : (a b c : Option (List ℕ)) (p q r : LogPace) (when : When) (name : Bor (List ℕ)) (pair : SnapshotPair) (step : ℕ) →
    Logged a b p q (calls_to when name pair step) → Logged b c q r (step_calls when name pair step) →
    Logged a c p r (calls_to when name pair (step + 1))
next_step a b c p q r when name pair step l m =
    subst (λ t. Logged a c p r t) (sym (calls_next when name pair step)) (logged_both a b c p q r _ _ l m)

pub no_take_over : (old new : RouteSnapshot) → take_overs_to old new 0 ≡ 0
unfolding take_overs_to
no_take_over old new = refl

pub next_take_over : (old new : RouteSnapshot) (step : ℕ) →
    take_overs_to old new (step + 1) ≡ take_over_more (take_overs_to old new step) (change_at old new step)
unfolding take_overs_to
next_take_over old new step = rw add-one refl

pub no_end : (counts : EndCounts) (old new : RouteSnapshot) → ends_to counts old new 0 ≡ counts
unfolding ends_to
no_end counts old new = refl

pub next_end : (counts : EndCounts) (old new : RouteSnapshot) (step : ℕ) →
    ends_to counts old new (step + 1) ≡ end_more (ends_to counts old new step) old new (change_at old new step)
unfolding ends_to
next_end counts old new step = rw add-one refl
