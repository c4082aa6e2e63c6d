use Rattle.srt_config.proofs.Secured.{encryption_is_written, encryption_is_right}
use Rattle.srt_config.proofs.laws.encryption.Goals as goal

pub returns-clause-written : goal.returns-clause-written
returns-clause-written c = encryption_is_written

pub returns-clause-right : goal.returns-clause-right
returns-clause-right c = encryption_is_right
