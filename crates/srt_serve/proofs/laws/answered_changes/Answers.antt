use Rattle.srt_serve.proofs.LeftAlone.{changing_runs_are_so, unanswered_stays_open, unanswered_is_not_added}
use Rattle.srt_serve.proofs.laws.answered_changes.Goals as goal

pub returns : goal.returns
returns g c = record {
  changing = changing_runs_are_so g.A.Answers.answered;
  unasked = unanswered_stays_open g.A.Answers.answered;
  unopened = unanswered_is_not_added g.A.Answers.answered;
}
