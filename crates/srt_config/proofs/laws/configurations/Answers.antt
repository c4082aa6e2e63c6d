use Rattle.srt_config.proofs.KeyFaults.{first_fault}
use Rattle.srt_config.proofs.laws.configurations.Goals as goal

pub returns : goal.returns
returns c = first_fault
