use Rattle.srt_hs.proofs.Back.{reads_back, hsrsp_back}
use Rattle.srt_hs.proofs.laws.round_trip.Goals as goal

pub returns : goal.returns
returns c = record { answer = reads_back; hsrsp = hsrsp_back }
