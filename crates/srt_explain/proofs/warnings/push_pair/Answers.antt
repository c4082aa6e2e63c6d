use Rattle.std.proofs.Common.{refl}
use Rattle.srt_types.specs.Access.{access_of}
use Rattle.srt_explain.specs.declared.warnings.Warning.TheVariants.{SharedPassphrase, ClearPlayers}
use Rattle.srt_explain.specs.Warnings.{are_same, has_clear_players}
use Rattle.srt_explain.proofs.Added.{two_given}
use Rattle.srt_explain.proofs.warnings.push_pair.Goals as goal

pub returns : goal.returns
returns c =
    let access = access_of c.args.access.now in
    two_given c.args.list.now.items c.push_if.new.list.items c.push_if-2.new.list.items
    c.are_same-same.result (are_same access.publish.passphrase access.request.passphrase) c.has_clear_players.result (has_clear_players access)
    (SharedPassphrase c.args.route) (SharedPassphrase c.args.route) (ClearPlayers c.args.route) (ClearPlayers c.args.route)
    c.in_ok-push_if.ensures c.in_ok-push_if-2.ensures c.are_same-same.ensures refl c.has_clear_players.ensures refl
