use Rattle.srt_poller.proofs.Beforehand.{earlier_rounds_are_same, lobby_ignores_later}
use Rattle.srt_poller.proofs.laws.earlier_rounds.Goals as goal

pub returns : goal.returns
returns c =
    record {
      same = earlier_rounds_are_same;
      lobby = lobby_ignores_later;
    }
