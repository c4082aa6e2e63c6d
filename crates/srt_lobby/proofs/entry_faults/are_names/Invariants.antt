use Rattle.std.proofs.Common.{◌≡◌, map, length}
use Rattle.srt_types.specs.Terms.{terms_of}
use Rattle.srt_lobby.specs.Opening.{are_names}
use Rattle.srt_lobby.proofs.entry_faults.are_names.Given as goal

abbrev pub invariant-loop-rest : goal.invariant-loop-rest
invariant-loop-rest l = are_names (map terms_of l.rest) ≡ are_names (map terms_of l.entries)

abbrev pub decreases-loop-rest : goal.decreases-loop-rest
decreases-loop-rest l = length l.rest
