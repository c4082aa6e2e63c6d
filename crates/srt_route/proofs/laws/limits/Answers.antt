use Rattle.srt_route.proofs.model.Limited.{few_of_an_address, keeps_slots, none_is_kept, publishers_have_slots}
use Rattle.srt_route.proofs.laws.limits.Goals as goal

pub returns : goal.returns
returns c = record { slots = keeps_slots; publishers = publishers_have_slots; kept = none_is_kept; addresses = few_of_an_address }
