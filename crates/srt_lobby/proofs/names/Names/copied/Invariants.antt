use Rattle.std.proofs.Common.{◌≡◌, map, take}
use Rattle.srt_types.specs.Terms.{terms_of}
use Rattle.srt_lobby.specs.Names.{name_of, names_of}
use Rattle.srt_lobby.proofs.names.Names.copied.Given as goal

abbrev pub invariant-loop-entry : goal.invariant-loop-entry
invariant-loop-entry l = names_of l.names ≡ take l.entry-index (map name_of (map terms_of l.entries))
