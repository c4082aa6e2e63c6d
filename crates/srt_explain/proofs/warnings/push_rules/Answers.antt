use Rattle.std.proofs.Common.{refl}
use Rattle.srt_types.specs.Terms.{terms_of}
use Rattle.srt_explain.specs.declared.warnings.Warning.TheVariants.{UnusedTakeover}
use Rattle.srt_explain.specs.Warnings.{has_unused_takeover, has_unused_limit, limit_warning, has_one_unreserved, unreserved_warning}
use Rattle.srt_explain.proofs.Added.{three_given}
use Rattle.srt_explain.proofs.warnings.push_rules.Goals as goal

pub returns : goal.returns
returns c =
    let t = terms_of c.args.entry.now in
    three_given c.args.list.now.items c.push_if.new.list.items c.push_if-2.new.list.items c.push_if-3.new.list.items
    c.has_unused_takeover.result (has_unused_takeover t) c.has_unused_limit.result (has_unused_limit t)
    c.has_one_unreserved.result (has_one_unreserved t)
    (UnusedTakeover c.args.route) (UnusedTakeover c.args.route) c.limit_warning.result (limit_warning c.args.route t)
    c.unreserved_warning.result (unreserved_warning c.args.route t)
    c.in_ok-push_if.ensures c.in_ok-push_if-2.ensures c.in_ok-push_if-3.ensures
    c.has_unused_takeover.ensures refl c.has_unused_limit.ensures c.limit_warning.ensures c.has_one_unreserved.ensures c.unreserved_warning.ensures
