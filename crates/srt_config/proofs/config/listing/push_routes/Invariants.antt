use Rattle.std.proofs.Common.{◌≡◌, ◌++◌, ◌+◌, [], length}
use Rattle.toml.specs.View.{items_view}
use Rattle.srt_config.specs.AllFaults.{faults_seen, routes_faults}
use Rattle.srt_config.specs.inside.Sections.{texts_seen}
use Rattle.srt_config.proofs.config.listing.push_routes.Given as goal

abbrev pub invariant-loop-rest : goal.invariant-loop-rest
invariant-loop-rest l =
    record {
      told :
          faults_seen l.list.items ++
          routes_faults (items_view l.context.written.now) (faults_seen l.context.wrong.now) l.number (texts_seen l.names.items) (items_view l.rest)
          ≡ faults_seen l.fn.list.items ++
          routes_faults (items_view l.context.written.now) (faults_seen l.context.wrong.now) 1 [] (items_view l.values);
      numbered : l.number + length l.rest ≡ 1 + length l.values;
    }

abbrev pub decreases-loop-rest : goal.decreases-loop-rest
decreases-loop-rest l = length l.rest
