-- How a value of the code turns the words of planes.
use Rattle.srt_aes.specs.inside.Planes.{Bend}
use Rattle.srt_aes.specs.declared.turn.Turn.{Turn}

abbrev pub bend_of : Turn → Bend
bend_of t = record { low = t.low; high = t.high; mask = t.mask }
