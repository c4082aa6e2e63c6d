use Rattle.std.proofs.Common.{◌≡◌, ◌-◌, [], length}
use Rattle.std.specs.Vec.Iter.{into_iter_items}
use Rattle.srt_config.specs.AllFaults.{faults_seen}
use Rattle.srt_explain.specs.Misspelled.{with_faults}
use Rattle.srt_explain.proofs.misspelled.told_faults.Given as goal

abbrev pub invariant-loop-at : goal.invariant-loop-at
invariant-loop-at l = record {
  told : with_faults (faults_seen l.list.items) (faults_seen (into_iter_items l.rest)) ≡ with_faults [] (faults_seen l.fn.faults.items);
  left : length (into_iter_items l.rest) ≡ l.count - l.at;
}
