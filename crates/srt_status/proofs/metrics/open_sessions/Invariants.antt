use Rattle.std.proofs.Common.{◌≡◌, take}
use Rattle.std.specs.List.{count_by}
use Rattle.srt_status.specs.Metrics.{has_role}
use Rattle.srt_status.proofs.metrics.open_sessions.Given as goal

abbrev pub invariant-loop-slot : goal.invariant-loop-slot
invariant-loop-slot l = l.count ≡ count_by (has_role l.role) (take l.slot-index l.route.sessions)
