use Rattle.std.proofs.Common.{◌≡◌}
use Rattle.toml.specs.View.{table_view}
use Rattle.srt_config.specs.Keys.{least_unknown}
use Rattle.srt_config.proofs.TableKeys.{unknown_of}
use Rattle.srt_config.proofs.config.typed_values.least_unknown.Given as goal

abbrev pub invariant-loop-key : goal.invariant-loop-key
invariant-loop-key l =
    (goal.iterator-loop-key).can_next l.key-iterator ×
    (goal.iterator-loop-key).is_finite l.key-iterator ×
    (least_unknown l.keys (table_view l.table) ≡ unknown_of l.keys l.key-iterator)
