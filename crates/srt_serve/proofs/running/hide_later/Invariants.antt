use Rattle.std.proofs.Common.{◌≡◌, take}
use Rattle.srt_lobby.specs.Names.{names_of}
use Rattle.srt_serve.specs.NamesAtStart.{later_hidden}
use Rattle.srt_serve.proofs.running.hide_later.Given as goal

abbrev pub invariant-loop-r : goal.invariant-loop-r
invariant-loop-r l = names_of l.names ≡ later_hidden (take l.r l.schedules) (names_of l.fn.names)
