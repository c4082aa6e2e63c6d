use Rattle.std.proofs.Common.{◌≡◌, ◌++◌, take}
use Rattle.std.specs.List.{flat_map}
use Rattle.srt_status.specs.Metrics.{lobby_refusal}
use Rattle.srt_status.proofs.metrics.put_lobby_refusals.Given as goal

abbrev pub invariant-loop-reason : goal.invariant-loop-reason
invariant-loop-reason l = l.out.items ≡ l.fn.out.items ++ flat_map (lobby_refusal l.counts) (take l.reason-index l.reasons)
