use Rattle.srt_timing.proofs.Once.{waits_at_place, confirms_once, places_count_back}
use Rattle.srt_timing.proofs.laws.confirmations.Goals as goal

pub returns : goal.returns
returns c = record { at_place = waits_at_place; once = confirms_once; count_back = places_count_back }
