use Rattle.std.proofs.Common.{◌≡◌, map, ◌++◌, length}
use Rattle.srt_types.specs.Terms.{terms_of}
use Rattle.srt_config.specs.Config.{settings_of}
use Rattle.srt_config.specs.Changes.{changes_of}
use Rattle.srt_config.proofs.changes.changes_by.Given as goal

abbrev pub invariant-loop-rest : goal.invariant-loop-rest
invariant-loop-rest l = record {
  many : length l.later ≡ length l.rest;
  found : l.changes.items ++ changes_of (settings_of l.before) (map terms_of l.rest) l.later
      ≡ changes_of (settings_of l.before) (map terms_of l.entries) l.schedules;
}

abbrev pub decreases-loop-rest : goal.decreases-loop-rest
decreases-loop-rest l = length l.rest
