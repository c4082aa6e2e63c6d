use Rattle.srt_types.specs.Access.{access_of}
use Rattle.srt_types.specs.Terms.{terms_of}
use Rattle.srt_explain.specs.Warnings.{number_warnings, access_warnings, rule_warnings}
use Rattle.srt_explain.proofs.Added.{three_more}
use Rattle.srt_explain.proofs.warnings.push_values.Goals as goal

pub returns : goal.returns
returns c =
    let t = terms_of c.args.entry.now in
    three_more c.args.list.now.items c.push_numbers.new.list.items c.push_access.new.list.items c.push_rules.new.list.items
    (number_warnings c.args.route t) (access_warnings c.args.route (access_of c.args.entry.now.access)) (rule_warnings c.args.route t)
    c.in_ok-push_numbers.ensures c.in_ok-push_access.ensures c.in_ok-push_rules.ensures
