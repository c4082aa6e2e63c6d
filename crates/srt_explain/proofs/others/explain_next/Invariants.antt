use Rattle.std.proofs.Common.{◌≡◌, ◌-◌, ◌++◌, map, drop, take}
use Rattle.std.specs.Vec.Iter.{into_iter_items}
use Rattle.srt_config.specs.AllFaults.{faults_seen}
use Rattle.srt_explain.specs.Listing.{told_of, ArePrivate}
use Rattle.srt_explain.proofs.others.explain_next.Given as goal

abbrev pub invariant-loop-at : goal.invariant-loop-at
invariant-loop-at l = record {
  told : map told_of l.list.items ++ take (20 - l.at) (faults_seen (into_iter_items l.rest)) ≡ take 19 (drop 1 (faults_seen l.fn.faults.items));
  hidden : ArePrivate l.list.items;
}
