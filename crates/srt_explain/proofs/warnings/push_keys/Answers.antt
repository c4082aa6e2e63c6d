use Rattle.std.proofs.Common.{◌∙◌, ◌++◌, ap}
use Rattle.srt_types.specs.declared.shared.Role.TheVariants.{Publish, Request}
use Rattle.srt_types.specs.Access.{role_access_of}
use Rattle.srt_explain.specs.declared.warnings.Warning.TheVariants.{OpenKey}
use Rattle.srt_explain.specs.Warnings.{given, has_open_key}
use Rattle.srt_explain.proofs.Added.{two_more}
use Rattle.srt_explain.proofs.warnings.push_keys.Goals as goal

pub returns : goal.returns
returns c =
    two_more c.args.list.now.items c.push_if.new.list.items c.push_if-2.new.list.items
    (given (has_open_key (role_access_of c.args.access.now.publish)) (OpenKey c.args.route Publish))
    (given (has_open_key (role_access_of c.args.access.now.request)) (OpenKey c.args.route Request))
    (c.in_ok-push_if.ensures ∙ ap (λ b. c.args.list.now.items ++ given b (OpenKey c.args.route Publish)) c.has_open_key.ensures)
    (c.in_ok-push_if-2.ensures ∙ ap (λ b. c.push_if.new.list.items ++ given b (OpenKey c.args.route Request)) c.has_open_key-2.ensures)
