use Rattle.std.proofs.Common.{◌≡◌, ◌++◌, take}
use Rattle.std.specs.List.{flat_map}
use Rattle.srt_status.specs.Metrics.{lobby_cause}
use Rattle.srt_status.proofs.metrics.put_lobby_causes.Given as goal

abbrev pub invariant-loop-cause : goal.invariant-loop-cause
invariant-loop-cause l = l.out.items ≡ l.fn.out.items ++ flat_map (lobby_cause l.counts) (take l.cause-index l.causes)
