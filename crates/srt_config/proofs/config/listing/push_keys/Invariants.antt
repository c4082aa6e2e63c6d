use Rattle.std.proofs.Common.{◌≡◌, ◌++◌, drop}
use Rattle.srt_config.specs.AllFaults.{faults_seen, each, place_of, part_fault}
use Rattle.srt_config.specs.inside.Sections.{section_seen}
use Rattle.srt_config.proofs.config.listing.push_keys.Given as goal

abbrev pub invariant-loop-at : goal.invariant-loop-at
invariant-loop-at l =
    faults_seen l.list.items ++ each (place_of (section_seen l.section)) (part_fault (section_seen l.section)) (drop l.at l.keys)
    ≡ faults_seen l.fn.list.items ++ each (place_of (section_seen l.section)) (part_fault (section_seen l.section)) l.keys
