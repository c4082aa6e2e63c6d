use Rattle.std.proofs.Common.{◌≡◌, ◌++◌}
use Rattle.srt_config.specs.AllFaults.{faults_seen, each_unknown, unknown_faults}
use Rattle.srt_config.specs.inside.Sections.{section_seen}
use Rattle.srt_config.proofs.Listed.{unknowns_of}
use Rattle.srt_config.proofs.config.listing.push_unknown.Given as goal

abbrev pub invariant-loop-key : goal.invariant-loop-key
invariant-loop-key l =
    (goal.iterator-loop-key).can_next l.key-iterator ×
    (goal.iterator-loop-key).is_finite l.key-iterator ×
    (faults_seen l.list.items ++ each_unknown (section_seen l.section) (unknowns_of l.keys l.key-iterator)
    ≡ faults_seen l.fn.list.items ++ unknown_faults (section_seen l.section))
