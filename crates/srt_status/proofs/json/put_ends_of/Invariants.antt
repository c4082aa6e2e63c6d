use Rattle.std.proofs.Common.{◌≡◌, ◌++◌, take}
use Rattle.std.specs.List.{flat_map}
use Rattle.srt_status.specs.Json.{end_json}
use Rattle.srt_status.proofs.json.put_ends_of.Given as goal

abbrev pub invariant-loop-ending : goal.invariant-loop-ending
invariant-loop-ending l = l.out.items ≡ l.fn.out.items ++ flat_map (end_json l.counts) (take l.ending-index l.endings)
