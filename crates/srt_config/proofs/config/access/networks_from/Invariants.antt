use Rattle.std.proofs.Common.{◌≡◌, [], length}
use Rattle.toml.specs.View.{items_view}
use Rattle.srt_config.specs.Access.{networks_from}
use Rattle.srt_config.proofs.config.access.networks_from.Given as goal

abbrev pub invariant-loop-rest : goal.invariant-loop-rest
invariant-loop-rest l = networks_from l.key [] (items_view l.values) ≡ networks_from l.key l.networks.items (items_view l.rest)

abbrev pub decreases-loop-rest : goal.decreases-loop-rest
decreases-loop-rest l = length l.rest
