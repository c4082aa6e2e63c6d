use Rattle.std.proofs.Common.{◌≡◌, ◌≤◌, ◌+◌, ◌++◌, length, vec_len, vec_capacity}
use Rattle.srt_watch.specs.Indexes.{indexes_from}
use Rattle.srt_watch.proofs.indexes.fill_indexes.Given as goal

abbrev pub invariant-loop-rest : goal.invariant-loop-rest
invariant-loop-rest l = record {
  filled : l.indexes.items ++ indexes_from l.before l.next l.rest ≡ indexes_from l.before l.first l.changes;
  room : vec_len l.indexes + length l.rest ≤ vec_capacity l.indexes;
}

abbrev pub decreases-loop-rest : goal.decreases-loop-rest
decreases-loop-rest l = length l.rest
