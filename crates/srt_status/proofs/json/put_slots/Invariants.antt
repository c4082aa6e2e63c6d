use Rattle.std.proofs.Common.{◌≡◌, ◌++◌, true, drop}
use Rattle.srt_status.specs.Json.{slots_json}
use Rattle.srt_status.proofs.json.put_slots.Given as goal

abbrev pub invariant-loop-slot : goal.invariant-loop-slot
invariant-loop-slot l = l.out.items ++ slots_json l.moment l.first (drop l.slot-index l.slots) ≡ l.fn.out.items ++ slots_json l.moment true l.slots
