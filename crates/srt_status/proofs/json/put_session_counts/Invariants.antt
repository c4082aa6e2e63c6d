use Rattle.std.proofs.Common.{◌≡◌, ◌++◌, take}
use Rattle.std.specs.List.{flat_map}
use Rattle.srt_status.specs.Json.{session_count_json}
use Rattle.srt_status.proofs.json.put_session_counts.Given as goal

abbrev pub invariant-loop-count : goal.invariant-loop-count
invariant-loop-count l = l.out.items ≡ l.fn.out.items ++ flat_map (session_count_json l.session) (take l.count-index l.counts)
