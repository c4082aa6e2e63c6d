-- The lines of what changed between two snapshots of a route.
use Rattle.std.specs.Prelude.{ℕ, zero, suc, ◌+◌, List, [], ◌∷◌, Option, None, Some, option_map}
use denote.Ref.{Bor}
use Rattle.srt_log.specs.Between.{event_at, events_between, events_to, listed}
use Rattle.srt_log.specs.Changes.{change_at}
use Rattle.srt_log.specs.declared.events.LogEvent.TheVariants.{Limited, Absent}
use Rattle.srt_log.specs.declared.changes.Change.{Change}
use Rattle.srt_log.specs.declared.line_limits.LineKind.TheVariants.{Refusal, Session}
use Rattle.srt_log.specs.declared.changes.Change.TheVariants.{TookOver, Gone, Unseen}
use Rattle.srt_log.specs.declared.changes.Change.TheVariants as changes
use Rattle.srt_log.specs.declared.snapshots.RouteSnapshot.{RouteSnapshot}
use Rattle.srt_log.specs.declared.snapshots.SlotSession.{SlotSession}
use Rattle.srt_log.specs.declared.snapshots.SlotSession.TheVariants.{Open, Ended}
use Rattle.srt_log.specs.Telling.{session_at, end_between}
use Rattle.srt_route.specs.declared.ledger.EndCause.{EndCause}
use Rattle.srt_route.specs.declared.ledger.EndedSession.{EndedSession}
use Rattle.srt_status.specs.Labels.{with_end}
use Rattle.srt_status.specs.declared.route_status.EndCounts.{EndCounts}
use Rattle.srt_status.specs.declared.route_status.LimitCounts.{LimitCounts}
use Rattle.srt_watch.specs.declared.log.When.{When}
use Rattle.srt_watch.specs.declared.watched_routes.SnapshotPair.{SnapshotPair}
use Rattle.srt_watch.specs.Census.{one_more}
use Rattle.srt_watch.specs.Log.{LogCall, Offered, offered, said, lent, most}

-- what changed, in the order of the steps, and the refusals by each limit
abbrev pub step_calls : When → Bor (List ℕ) → SnapshotPair → (step : ℕ) → List LogCall
step_calls when name pair step = offered when (listed (event_at name pair.old pair.new step))

abbrev pub calls_to : When → Bor (List ℕ) → SnapshotPair → (steps : ℕ) → List LogCall
calls_to when name pair steps = offered when (events_to name pair.old pair.new steps)

abbrev pub change_calls : When → Bor (List ℕ) → SnapshotPair → List LogCall
change_calls when name pair = offered when (events_between name pair.old pair.new)

abbrev pub limit_calls : When → (name : List ℕ) → Option LimitCounts → List LogCall
limit_calls when name None = []
limit_calls when name (Some n) = Offered when Refusal (said (Limited (lent name) n.sessions n.reserved n.sessions_per_address)) ∷ []

-- for how many minutes the route with this name has had no encoder, if a line is to tell of it
abbrev pub absence_calls : When → (name : List ℕ) → (minutes : Option ℕ) → List LogCall
absence_calls when name None = []
absence_calls when name (Some minutes) = Offered when Session (said (Absent (lent name) minutes)) ∷ []

-- the take-overs in the first steps
abbrev pub take_over_more : (count : ℕ) → Option Change → ℕ
take_over_more count None = count
take_over_more count (Some (TookOver slot)) = one_more count
take_over_more count (Some change) = count

unfoldable pub take_overs_to : (old new : RouteSnapshot) → (steps : ℕ) → ℕ
take_overs_to old new zero = 0
take_overs_to old new (suc step) = take_over_more (take_overs_to old new step) (change_at old new step)

-- why the session of a slot ended, if it has
abbrev pub cause_in : Option SlotSession → Option EndCause
cause_in None = None
cause_in (Some (Open view)) = None
cause_in (Some (Ended session)) = Some session.cause

abbrev pub cause_at : RouteSnapshot → (slot : ℕ) → Option EndCause
cause_at snapshot slot = cause_in (session_at snapshot slot)

-- why the session ended that the earlier of two snapshots has in a slot, if the later one has its end
abbrev pub cause_between : (old new : RouteSnapshot) → (slot : ℕ) → Option EndCause
cause_between old new slot = option_map (λ (x : EndedSession). x.cause) (end_between old new slot)

-- the counts of ends after those in the first steps: each by its reason, and those of sessions that no snapshot has as unknown
abbrev pub with_unseen : EndCounts → (opened : ℕ) → EndCounts
with_unseen counts opened = record counts { unknown = most (counts.unknown + opened) }

abbrev pub end_more : EndCounts → (old new : RouteSnapshot) → Option Change → EndCounts
end_more counts old new None = counts
end_more counts old new (Some (Gone slot)) = with_end counts (cause_between old new slot)
end_more counts old new (Some (changes.Ended slot)) = with_end counts (cause_at new slot)
end_more counts old new (Some (Unseen opened)) = with_unseen counts opened
end_more counts old new (Some change) = counts

unfoldable pub ends_to : EndCounts → (old new : RouteSnapshot) → (steps : ℕ) → EndCounts
ends_to counts old new zero = counts
ends_to counts old new (suc step) = end_more (ends_to counts old new step) old new (change_at old new step)
