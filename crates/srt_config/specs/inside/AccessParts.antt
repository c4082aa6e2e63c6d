-- The parts of a network, as plain values.
use Rattle.std.specs.Prelude.{ℕ}
use Rattle.srt_config.specs.declared.config.access.Ending.{Ending}

abbrev pub ending_seen : Ending → ℕ × ℕ
ending_seen ending = (ending.octet, ending.prefix)
