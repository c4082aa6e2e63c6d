-- Evidence that another call has taken out what a slot holds.
use Rattle.std.specs.Prelude.{Bool}
use Rattle.srt_mailbox.specs.declared.slots.TakenElsewhere.{TakenElsewhere}

-- whether the call to which it was returned was to take the value out for good
abbrev pub is_for_good : TakenElsewhere → Bool
is_for_good e = e.for_good
