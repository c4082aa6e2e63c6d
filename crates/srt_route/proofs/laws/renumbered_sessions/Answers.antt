use Rattle.srt_route.proofs.renumbering.ShiftedWords.{counts_stay, stamps_stay}
use Rattle.srt_route.proofs.renumbering.ShiftedHeard.{publishers_hear, subscribers_hear}
use Rattle.srt_route.proofs.laws.renumbered_sessions.Goals as goal

pub returns : goal.returns
returns c = record { numbers = counts_stay; stamps = stamps_stay; publishers = publishers_hear; subscribers = subscribers_hear }
