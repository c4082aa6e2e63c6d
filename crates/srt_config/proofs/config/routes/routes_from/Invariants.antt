use Rattle.std.proofs.Common.{◌≡◌, ◌+◌, length}
use Rattle.toml.specs.View.{items_view}
use Rattle.srt_config.specs.Routes.{routes_from, no_routes}
use Rattle.srt_config.specs.FaultPlace.{faulty_from}
use Rattle.srt_config.specs.inside.RouteParts.{routes_seen}
use Rattle.srt_config.proofs.config.routes.routes_from.Given as goal

abbrev pub invariant-loop-rest : goal.invariant-loop-rest
invariant-loop-rest l =
    record {
      read : routes_from no_routes (items_view l.values) ≡ routes_from (routes_seen l.routes) (items_view l.rest);
      faulty : faulty_from 1 no_routes (items_view l.values) ≡ faulty_from l.number (routes_seen l.routes) (items_view l.rest);
      numbered : l.number + length l.rest ≡ 1 + length l.values;
    }

abbrev pub decreases-loop-rest : goal.decreases-loop-rest
decreases-loop-rest l = length l.rest
