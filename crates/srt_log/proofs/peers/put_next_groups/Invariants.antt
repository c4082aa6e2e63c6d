use Rattle.std.proofs.Common.{◌≡◌, take}
use Rattle.srt_log.specs.Texts.{put}
use Rattle.srt_log.specs.Peers.{next_groups}
use Rattle.srt_log.proofs.peers.put_next_groups.Given as goal

abbrev pub invariant-loop-group : goal.invariant-loop-group
invariant-loop-group l = l.line.text.items ≡ put l.fn.line.text.items (next_groups (take l.group-index l.groups))
