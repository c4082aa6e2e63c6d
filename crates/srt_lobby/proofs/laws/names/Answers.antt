use Rattle.srt_lobby.proofs.Distinct.{names_are_distinct}
use Rattle.srt_lobby.proofs.laws.names.Goals as goal

pub returns : goal.returns
returns c = record { distinct = names_are_distinct }
