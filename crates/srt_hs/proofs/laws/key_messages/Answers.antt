use Rattle.srt_hs.proofs.Answered.{messages_are_answered}
use Rattle.srt_hs.proofs.Keys.{key_reading_is_spelling, keys_read_back}
use Rattle.srt_hs.proofs.laws.key_messages.Goals as goal

pub returns : goal.returns
returns c = record { spelled = key_reading_is_spelling; back = keys_read_back; answered = messages_are_answered }
