use Rattle.std.proofs.Common.{refl}
use Rattle.srt_types.specs.declared.shared.Role.TheVariants.{Publish, Request}
use Rattle.srt_types.specs.Access.{role_access_of}
use Rattle.srt_explain.specs.declared.warnings.Warning.TheVariants.{ShortPassphrase}
use Rattle.srt_explain.specs.Warnings.{is_short}
use Rattle.srt_explain.proofs.Added.{two_given}
use Rattle.srt_explain.proofs.warnings.push_short.Goals as goal

pub returns : goal.returns
returns c =
    let publish = role_access_of c.args.access.now.publish in
    let request = role_access_of c.args.access.now.request in
    two_given c.args.list.now.items c.push_if.new.list.items c.push_if-2.new.list.items
    c.is_short-publish.result (is_short publish.passphrase) c.is_short-request.result (is_short request.passphrase)
    (ShortPassphrase c.args.route Publish) (ShortPassphrase c.args.route Publish)
    (ShortPassphrase c.args.route Request) (ShortPassphrase c.args.route Request)
    c.in_ok-push_if.ensures c.in_ok-push_if-2.ensures c.is_short-publish.ensures refl c.is_short-request.ensures refl
