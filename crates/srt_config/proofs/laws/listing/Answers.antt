use Rattle.srt_config.proofs.AllFaults.{first_is_read}
use Rattle.srt_config.proofs.laws.listing.Goals as goal

pub returns : goal.returns
returns c = first_is_read
