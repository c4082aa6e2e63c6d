use Rattle.std.proofs.Common.{◌++◌, map, ap, ◌∙◌}
use Rattle.toml.specs.View.{table_view}
use Rattle.srt_types.specs.Terms.{terms_of}
use Rattle.srt_explain.specs.declared.warnings.Warning.TheVariants.{ExampleSecret}
use Rattle.srt_explain.specs.Warnings.{has_example_secret, status_warnings, routes_warnings}
use Rattle.srt_explain.proofs.Added.{one_given}
use Rattle.srt_explain.proofs.warnings.warnings_of.Goals as goal

pub returns : goal.returns
returns c =
    one_given c.new-list.result.items c.push_if.new.list.items c.push_status.new.list.items c.push_routes.new.list.items
    (status_warnings c.args.config.now.status) (routes_warnings (table_view c.args.table.now) 1 (map terms_of c.args.config.now.entries.items))
    c.is_example_secret.result (has_example_secret (table_view c.args.table.now)) ExampleSecret
    c.new-list.ensures.items c.in_ok-push_if.ensures c.in_ok-push_status.ensures
    (c.in_ok-push_routes.ensures
    ∙ ap (λ es. c.push_status.new.list.items ++ routes_warnings (table_view c.args.table.now) 1 (map terms_of es)) c.as_slice.ensures.value)
    c.is_example_secret.ensures
