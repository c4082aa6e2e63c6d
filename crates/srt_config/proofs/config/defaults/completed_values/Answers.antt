use Rattle.std.proofs.Common.{◌≡◌, ◌∙◌, map, take, ap, arith}
use Rattle.std.proofs.lemmas.List.{take_all}
use Rattle.toml.specs.Data.{as_table}
use Rattle.toml.specs.View.{view, table_view}
use Rattle.srt_config.specs.Defaults.{completed_if}
use Rattle.srt_config.proofs.Completed.{completed_view}
use Rattle.srt_config.proofs.config.defaults.completed_values.Goals as goal

pub returns : goal.returns
returns c =
    let defaults = table_view c.args.defaults.now in
    let all : take c.loop-value.value-index c.args.values.now ≡ c.args.values.now =
    take_all c.loop-value.value-index c.args.values.now (omega (arith, c.loop-value-test.false, c.loop-value.auto.value-index-end)) in
    completed_view c.loop-value.routes.items c.args.values.now defaults
    (c.loop-value.invariant ∙ ap (map (λ v. completed_if (as_table (view v)) (view v) defaults)) all)
