use Rattle.srt_route.proofs.model.Acknowledged.{at_once, delivers_in_order, drained, feeds_all, points_stay}
use Rattle.srt_route.proofs.model.Numbered.{delivers_all, one_alone_delivers}
use Rattle.srt_route.proofs.model.ReportedPoints.{fronts_stay}
use Rattle.srt_route.proofs.laws.acknowledged.Goals as goal

pub returns : goal.returns
returns c =
    record {
      points = points_stay;
      order = delivers_in_order;
      fronts = fronts_stay;
      all = delivers_all;
      one = one_alone_delivers;
      fed = feeds_all;
      at_once = at_once;
      drained = drained;
    }
