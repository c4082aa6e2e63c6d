use Rattle.std.proofs.Common.{◌≡◌, ◌++◌, take}
use Rattle.srt_status.specs.Peers.{next_groups}
use Rattle.srt_status.proofs.peers.put_next_groups.Given as goal

abbrev pub invariant-loop-group : goal.invariant-loop-group
invariant-loop-group l = l.out.items ≡ l.fn.out.items ++ next_groups (take l.group-index l.groups)
