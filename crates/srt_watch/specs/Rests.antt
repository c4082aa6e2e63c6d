-- Rests on the machine, and how many there were.
use Rattle.std.specs.Prelude.{◌+◌}
use Rattle.srt_watch.specs.declared.rests.Rests.{Rests}

-- before the first, and after one more
abbrev pub no_rests : Rests
no_rests = record { rests = 0; pauses = 0 }

abbrev pub with_rest : Rests → Rests
with_rest r = record r { rests = r.rests + 1 }

abbrev pub with_pause : Rests → Rests
with_pause r = record r { pauses = r.pauses + 1 }
