use Rattle.std.proofs.Common.{◌≡◌}
use Rattle.toml.specs.View.{table_view, members_view}
use Rattle.srt_config.specs.Defaults.{completed}
use Rattle.srt_config.proofs.config.defaults.completed.Given as goal

abbrev pub invariant-loop-key : goal.invariant-loop-key
invariant-loop-key l =
    completed (table_view l.fn.route) (table_view l.defaults) ≡ completed (table_view l.whole) (members_view l.key-iterator)
