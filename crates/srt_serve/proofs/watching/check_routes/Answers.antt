use Rattle.std.proofs.Common.{◌∙◌, Bool, length, subst, ap}
use Rattle.srt_serve.specs.inside.Looking.{IsShownAt}
use Rattle.srt_serve.specs.inside.Quiet.{is_check_quiet}
use Rattle.srt_serve.specs.inside.UpTo.{UpTo}
use Rattle.srt_serve.proofs.Looks.{checked, unchecked}
use Rattle.srt_serve.proofs.watching.check_routes.Goals as goal

pub returns-clause-shown : goal.returns-clause-shown
returns-clause-shown g c looks =
    subst (λ (b : Bool). UpTo (IsShownAt g.C.Serve.holds g.C.Serve.shows_none g.T.Watch.shown b c.args.cells.now) (length c.args.cells.now))
    (c.new.ensures ∙ looks) c.show_all-all_quiet.ensures.shown

pub returns-clause-check : goal.returns-clause-check
returns-clause-check g c =
    let seen = ap (λ r. r.all_quiet) c.look_at_outboxes-seen.ensures.routes in
    checked g.C.Serve.holds g.C.Serve.shows_none c.args.order c.args.cells.now _ c.show_all-all_quiet.result c.has_hint.result seen
    (c.is_check_quiet.ensures ∙ ap (λ b. is_check_quiet c.args.order b c.has_hint.result) seen)
    c.show_all-all_quiet.ensures.quiet c.show_all-all_quiet.ensures.busy c.has_hint.ensures.none c.has_hint.ensures.some
