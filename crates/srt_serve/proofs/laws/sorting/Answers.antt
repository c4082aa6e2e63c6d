use Rattle.srt_serve.proofs.OwnNames.{lobby_sorts_by_own_name}
use Rattle.srt_serve.proofs.Sorted.{sorted_alike}
use Rattle.srt_serve.proofs.Marks.{marks_are_own}
use Rattle.srt_serve.proofs.OpenRoutes.{open_routes_begin_alike}
use Rattle.srt_serve.proofs.LeftAlone.{own_schedule_decides, accepted_are_sorted}
use Rattle.srt_serve.proofs.laws.sorting.Goals as goal

pub returns : goal.returns
returns c =
    record {
      lobby = lobby_sorts_by_own_name;
      alike = sorted_alike;
      marks = marks_are_own;
      schedule = own_schedule_decides;
      open_routes = open_routes_begin_alike;
      accepted = accepted_are_sorted;
    }
