use Rattle.srt_loss.proofs.Written.{written_is_read}
use Rattle.srt_loss.proofs.laws.written.Goals as goal

pub returns : goal.returns
returns c = record { is_read = written_is_read }
