use Rattle.std.proofs.Common.{option_map, sym, ap, ◌∙◌}
use Rattle.toml.specs.View.{array_view, members_view}
use Rattle.toml.specs.declared.value.Value.{Array}
use Rattle.toml.proofs.Views.{view-Array}
use Rattle.srt_config.proofs.Completed.{with_completed}
use Rattle.srt_config.proofs.config.defaults.with_defaults.Goals as goal

pub returns : goal.returns
returns c =
    ap members_view c.in_ok-insert.ensures.entries
    ∙ with_completed c.args.table.entries (array_view c.in-Some.routes) c.in_ok-key.key (Array c.in-Some.routes)
    (sym c.in_ok-routes.ensures ∙ ap (option_map array_view) c.in-Some.is) (c.in_ok-key.ensures.ok ∙ c.name.ensures) (view-Array c.in-Some.routes)
