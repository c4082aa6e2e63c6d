use Rattle.std.proofs.Common.{refl, sym, ap, ◌∙◌, [], ◌∷◌, arith}
use Rattle.srt_poller.specs.Devices.{call_of_wait, joined}
use Rattle.srt_poller.specs.History.{Waits, WaitFails}
use Rattle.srt_supervision.specs.declared.report.Report.{Report}
use Rattle.srt_poller.proofs.Joined.{joined_none}
use Rattle.srt_poller.proofs.Steps.{are_later_none, unsent, went_one, went_once}
use Rattle.srt_poller.proofs.poller.Poller.wait.Goals as goal

pub returns-in-Ready-clause-ready : goal.returns-in-Ready-clause-ready
returns-in-Ready-clause-ready g c is class schedules names round latest wire ends =
    went_one _ schedules Waits _ _ refl
    (unsent _ _ _ _ refl refl (c.wait.ensures.records ∙ sym (joined_none _))
    (c.wait.ensures.called ∙ ap (λ p. joined (g.S.Source.calls c.args.source.now) (call_of_wait p ∷ [])) c.in-Ready.is))
    (are_later_none _ _ (λ r. refl) (λ r. refl)) refl refl tt

pub returns-in-Failed-clause-failed : goal.returns-in-Failed-clause-failed
returns-in-Failed-clause-failed g c is class schedules names round latest wire ends =
    went_once _ schedules WaitFails 1 1 _ _ refl (omega arith) refl
    (unsent _ _ _ _ refl refl (c.wait.ensures.records ∙ sym (joined_none _))
    (c.wait.ensures.called ∙ ap (λ p. joined (g.S.Source.calls c.args.source.now) (call_of_wait p ∷ [])) c.in-Failed.is))
    (are_later_none _ _ (λ r. refl) (λ r. refl)) refl c.count_fault.ensures c.failed.ensures

pub returns-in-Failed-clause-reported : goal.returns-in-Failed-clause-reported
returns-in-Failed-clause-reported g c is = c.failed.ensures

pub returns-in-Failed-clause-read : goal.returns-in-Failed-clause-read
returns-in-Failed-clause-read g c = ap (λ (n : Report). n.read) c.count_fault.ensures
