use Rattle.srt_hs.proofs.Spelled.{reading_is_spelling, fault_is_the_first}
use Rattle.srt_hs.proofs.laws.reading.Goals as goal

pub returns : goal.returns
returns c = record { spelled = reading_is_spelling; fault = fault_is_the_first }
