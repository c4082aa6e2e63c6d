use Rattle.std.proofs.Common.{◌≡◌, map, take}
use Rattle.srt_watch.specs.Indexes.{index_at}
use Rattle.srt_watch.proofs.prepared_change.Preparation.begin.Given as goal

abbrev pub invariant-loop-place : goal.invariant-loop-place
invariant-loop-place l = l.closes.items ≡ map (index_at l.indexes) (take l.place-index l.gone)
