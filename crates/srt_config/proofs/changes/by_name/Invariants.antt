use Rattle.std.proofs.Common.{◌≡◌, ℕ, List, map, drop, ◌≤◌, length}
use Rattle.srt_types.specs.Terms.{terms_of}
use Rattle.srt_lobby.specs.Tables.{index_in}
use Rattle.srt_config.specs.Changes.{place_from}
use Rattle.srt_config.proofs.changes.by_name.Given as goal

abbrev pub invariant-loop-at : goal.invariant-loop-at
invariant-loop-at l = record {
  within : l.at ≤ length l.entries;
  found : (name : List ℕ) → index_in (λ key. key.items) l.table.entries name ≡ place_from l.at name (map terms_of (drop l.at l.entries));
}

abbrev pub decreases-loop-at : goal.decreases-loop-at
decreases-loop-at l = l.at
