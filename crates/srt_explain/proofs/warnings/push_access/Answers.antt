use Rattle.srt_types.specs.Access.{access_of}
use Rattle.srt_explain.specs.Warnings.{key_warnings, short_warnings, pair_warnings}
use Rattle.srt_explain.proofs.Added.{three_more}
use Rattle.srt_explain.proofs.warnings.push_access.Goals as goal

pub returns : goal.returns
returns c =
    let access = access_of c.args.access.now in
    three_more c.args.list.now.items c.push_keys.new.list.items c.push_short.new.list.items c.push_pair.new.list.items
    (key_warnings c.args.route access) (short_warnings c.args.route access) (pair_warnings c.args.route access)
    c.in_ok-push_keys.ensures c.in_ok-push_short.ensures c.in_ok-push_pair.ensures
