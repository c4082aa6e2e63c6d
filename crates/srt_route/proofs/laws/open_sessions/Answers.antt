use Rattle.srt_route.proofs.model.Alone.{two_publish, no_more_than_slots, one_in_a_slot, nowhere_else, one_of_a_caller}
use Rattle.srt_route.proofs.laws.open_sessions.Goals as goal

pub returns : goal.returns
returns c = record { publishers = two_publish; sessions = no_more_than_slots; slots = one_in_a_slot; elsewhere = nowhere_else; callers = one_of_a_caller }
