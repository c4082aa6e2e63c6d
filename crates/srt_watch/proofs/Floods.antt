-- That a flood of refused callers costs no line about a session.
use Rattle.std.proofs.Common.{◌≡◌, true, List, [], ◌∷◌, ◌++◌, refl, ap, ◌∙◌}
use Rattle.srt_log.specs.LineLimit.{is_within, omitted_within}
use Rattle.srt_log.specs.LineShares.{calls_of}
use Rattle.srt_log.specs.declared.line_limits.LineKind.TheVariants.{Session, Refusal}
use Rattle.srt_watch.specs.Log.{LogCall, Offered, Always, Polled, Missed, Looked, Closed, LogState, state_after, state_after_all}
use Rattle.srt_watch.specs.Log.{left_out_text, line_if}
use Rattle.srt_watch.specs.Shares.{is_refusal, AreRefusals, RefusalsCostNothing}

one_stays : (s : LogState) (call : LogCall) → is_refusal call ≡ true → calls_of Session (state_after s call).calls ≡ calls_of Session s.calls
one_stays s (Offered when Session event) h = cc
one_stays s (Offered when Refusal event) h = refl
one_stays s (Always when event) h = cc
one_stays s (Polled when) h = cc
one_stays s (Missed count) h = cc
one_stays s Looked h = cc
one_stays s (Closed when) h = cc

sessions_stay : (s : LogState) (flood : List LogCall) → AreRefusals flood →
    calls_of Session (state_after_all s flood).calls ≡ calls_of Session s.calls
unfolding state_after_all
sessions_stay s [] h = refl
sessions_stay s (call ∷ flood) h = sessions_stay (state_after s call) flood h.1 ∙ one_stays s call h.0

pub cost_nothing : RefusalsCostNothing
cost_nothing s flood h when event =
    ap (λ own. left_out_text when (omitted_within 40 own when.moment) ++ line_if (is_within 40 own when.moment) when event)
    (sessions_stay s flood h)
