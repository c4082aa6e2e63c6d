use Rattle.srt_route.proofs.renumbering.ShiftedOutput.{publishers_say, subscribers_say}
use Rattle.srt_route.proofs.renumbering.ShiftedAnswers.{answers_say, conclusions_have_few}
use Rattle.srt_route.proofs.laws.renumbered_output.Goals as goal

pub returns : goal.returns
returns c = record { publishers = publishers_say; subscribers = subscribers_say; answers = answers_say; congestion = conclusions_have_few }
