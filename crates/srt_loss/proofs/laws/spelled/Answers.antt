use Rattle.srt_loss.proofs.Spelled.{spelled_is_read, fault_is_read}
use Rattle.srt_loss.proofs.laws.spelled.Goals as goal

pub returns : goal.returns
returns c = record { ranges = spelled_is_read; fault = fault_is_read }
