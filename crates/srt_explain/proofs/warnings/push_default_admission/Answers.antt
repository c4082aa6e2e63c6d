use Rattle.std.proofs.Common.{refl}
use Rattle.toml.specs.View.{table_view}
use Rattle.srt_config.specs.declared.config.keys.Key.TheVariants.{Callers}
use Rattle.srt_types.specs.Terms.{terms_of}
use Rattle.srt_explain.specs.declared.warnings.Warning.TheVariants.{NoCallers}
use Rattle.srt_explain.specs.Warnings.{route_table, lacks, lacks_reserved, reserved_warning}
use Rattle.srt_explain.proofs.Added.{two_given}
use Rattle.srt_explain.proofs.warnings.push_default_admission.Goals as goal

pub returns : goal.returns
returns c =
    let t = terms_of c.args.entry.now in
    let table = route_table (table_view c.args.table.now) c.args.route in
    two_given c.args.list.now.items c.push_if.new.list.items c.push_if-2.new.list.items
    c.lacks-is_draft.result (lacks Callers table) c.lacks_reserved-is_open.result (lacks_reserved table t)
    (NoCallers c.args.route) (NoCallers c.args.route) c.reserved_warning.result (reserved_warning c.args.route t)
    c.in_ok-push_if.ensures c.in_ok-push_if-2.ensures
    c.lacks-is_draft.ensures refl c.lacks_reserved-is_open.ensures c.reserved_warning.ensures
