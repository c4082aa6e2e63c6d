use Rattle.std.proofs.Common.{◌≡◌, map, ◌++◌, ◌+◌, length}
use Rattle.srt_types.specs.Terms.{terms_of}
use Rattle.srt_config.specs.Changes.{gone_from}
use Rattle.srt_config.proofs.changes.gone_by.Given as goal

abbrev pub invariant-loop-rest : goal.invariant-loop-rest
invariant-loop-rest l = record {
  count : l.place + length l.rest ≡ length l.before;
  found : l.gone.items ++ gone_from l.place (map terms_of l.places.entries.now) (map terms_of l.rest)
      ≡ gone_from 0 (map terms_of l.places.entries.now) (map terms_of l.before);
}

abbrev pub decreases-loop-rest : goal.decreases-loop-rest
decreases-loop-rest l = length l.rest
