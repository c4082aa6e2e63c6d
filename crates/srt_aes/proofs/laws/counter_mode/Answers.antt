use Rattle.srt_aes.proofs.Counting.{length-counter_mode, counter_mode-twice}
use Rattle.srt_aes.proofs.laws.counter_mode.Goals as goal

pub returns : goal.returns
returns c = record { lengths = length-counter_mode; inverse = counter_mode-twice }
