use Rattle.std.proofs.Common.{◌≡◌, map, take}
use Rattle.toml.specs.Data.{as_table}
use Rattle.toml.specs.View.{view, table_view}
use Rattle.srt_config.specs.Defaults.{completed_if}
use Rattle.srt_config.proofs.config.defaults.completed_values.Given as goal

abbrev pub invariant-loop-value : goal.invariant-loop-value
invariant-loop-value l =
    map view l.routes.items ≡ map (λ v. completed_if (as_table (view v)) (view v) (table_view l.defaults)) (take l.value-index l.values)
