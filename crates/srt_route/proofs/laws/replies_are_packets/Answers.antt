use Rattle.srt_route.proofs.model.Sendables.{publishers_send, subscribers_send, answers_send, replies_send, clear_replies_send}
use Rattle.srt_route.proofs.laws.replies_are_packets.Goals as goal

pub returns : goal.returns
returns c = record { replies = replies_send; clear = clear_replies_send; publishers = publishers_send; subscribers = subscribers_send; answers = answers_send }
