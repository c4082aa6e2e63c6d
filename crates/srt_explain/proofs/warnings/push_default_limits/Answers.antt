use Rattle.std.proofs.Common.{refl}
use Rattle.toml.specs.View.{table_view}
use Rattle.srt_config.specs.declared.config.keys.Key.TheVariants.{ResendPercent}
use Rattle.srt_types.specs.Terms.{terms_of}
use Rattle.srt_explain.specs.declared.warnings.Warning.TheVariants.{NoTakeover, NoResendLimit}
use Rattle.srt_explain.specs.Warnings.{route_table, lacks, lacks_takeover}
use Rattle.srt_explain.proofs.Added.{two_given}
use Rattle.srt_explain.proofs.warnings.push_default_limits.Goals as goal

pub returns : goal.returns
returns c =
    let t = terms_of c.args.entry.now in
    let table = route_table (table_view c.args.table.now) c.args.route in
    two_given c.args.list.now.items c.push_if.new.list.items c.push_if-2.new.list.items
    c.lacks_takeover-is_slow.result (lacks_takeover table t) c.lacks-is_unlimited.result (lacks ResendPercent table)
    (NoTakeover c.args.route) (NoTakeover c.args.route) (NoResendLimit c.args.route) (NoResendLimit c.args.route)
    c.in_ok-push_if.ensures c.in_ok-push_if-2.ensures
    c.lacks_takeover-is_slow.ensures refl c.lacks-is_unlimited.ensures refl
