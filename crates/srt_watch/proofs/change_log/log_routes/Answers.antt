use Rattle.std.proofs.Common.{◌++◌, map}
use Rattle.srt_types.specs.Terms.{terms_of}
use Rattle.srt_watch.specs.ChangeLines.{gone_calls, reopened_calls, opens_calls}
use Rattle.srt_watch.proofs.Logging.{logged_as, logged_both}
use Rattle.srt_watch.proofs.change_log.log_routes.Goals as goal

pub returns : goal.returns
returns g c =
    logged_as _ _ _ _ _ _
    (λ i. gone_calls c.args.when c.args.before.now (c.as_slice.ensures.value i)
    ++ reopened_calls c.args.when c.args.before.now (c.as_slice-2.ensures.value i)
    ++ opens_calls c.args.when c.args.first (c.as_slice-3.ensures.value i) (map terms_of (c.as_slice-4.ensures.value i)))
    (logged_both _ _ _ _ _ _ _ _ (logged_both _ _ _ _ _ _ _ _ c.log_gone.ensures c.log_reopened.ensures) c.log_opens.ensures)
