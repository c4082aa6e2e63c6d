use Rattle.std.proofs.Common.{◌≡◌, ◌++◌, take}
use Rattle.std.specs.List.{flat_map}
use Rattle.srt_status.specs.Json.{refusal_json}
use Rattle.srt_status.proofs.json.put_refusals.Given as goal

abbrev pub invariant-loop-reason : goal.invariant-loop-reason
invariant-loop-reason l = l.out.items ≡ l.fn.out.items ++ flat_map (refusal_json l.counts) (take l.reason-index l.reasons)
