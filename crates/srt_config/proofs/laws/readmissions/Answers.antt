use Rattle.srt_config.proofs.Readmitted.{readmissions_are_meant, readmissions_reopen, other_secrets_reopen}
use Rattle.srt_config.proofs.laws.readmissions.Goals as goal

pub returns-clause-meant : goal.returns-clause-meant
returns-clause-meant c = readmissions_are_meant

pub returns-clause-reopen : goal.returns-clause-reopen
returns-clause-reopen c = readmissions_reopen

pub returns-clause-secrets : goal.returns-clause-secrets
returns-clause-secrets c = other_secrets_reopen
