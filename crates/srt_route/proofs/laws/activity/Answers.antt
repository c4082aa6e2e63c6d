use Rattle.srt_route.proofs.model.Activity.{behind, one_delivers, one_is_active, standby_is_next, stays}
use Rattle.srt_route.proofs.model.Following.{active_goes_on}
use Rattle.srt_route.proofs.model.Queues.{queues_go_on}
use Rattle.srt_route.proofs.laws.activity.Goals as goal

pub returns : goal.returns
returns c =
    record {
      one = one_is_active;
      delivers = one_delivers;
      stays = stays;
      next = standby_is_next;
      behind = behind;
      goes_on = active_goes_on;
      queues = queues_go_on;
    }
