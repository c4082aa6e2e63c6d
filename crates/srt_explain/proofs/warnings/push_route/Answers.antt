use Rattle.toml.specs.View.{table_view}
use Rattle.srt_types.specs.Terms.{terms_of}
use Rattle.srt_explain.specs.Warnings.{route_table, value_warnings, default_admission, default_limits}
use Rattle.srt_explain.proofs.Added.{three_more}
use Rattle.srt_explain.proofs.warnings.push_route.Goals as goal

pub returns : goal.returns
returns c =
    let t = terms_of c.args.entry.now in
    let table = route_table (table_view c.args.table.now) c.args.route in
    three_more c.args.list.now.items c.push_values.new.list.items c.push_default_admission.new.list.items c.push_default_limits.new.list.items
    (value_warnings c.args.route t) (default_admission c.args.route table t) (default_limits c.args.route table t)
    c.in_ok-push_values.ensures c.in_ok-push_default_admission.ensures c.in_ok-push_default_limits.ensures
