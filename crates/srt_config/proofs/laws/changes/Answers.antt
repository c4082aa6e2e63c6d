use Rattle.srt_config.proofs.Changed.{are_meant, runs_the_file}
use Rattle.srt_config.proofs.SameFile.{same_requests_nothing}
use Rattle.srt_config.proofs.Sameness.{terms_decide, schedules_decide}
use Rattle.srt_config.proofs.laws.changes.Goals as goal

pub returns-clause-keys : goal.returns-clause-keys
returns-clause-keys c = (terms_decide, schedules_decide)

pub returns-clause-same : goal.returns-clause-same
returns-clause-same c = same_requests_nothing

pub returns-clause-expectations : goal.returns-clause-expectations
returns-clause-expectations c = λ s expected names many. same_requests_nothing s names many

pub returns-clause-meant : goal.returns-clause-meant
returns-clause-meant c = are_meant

pub returns-clause-runs : goal.returns-clause-runs
returns-clause-runs c = runs_the_file
