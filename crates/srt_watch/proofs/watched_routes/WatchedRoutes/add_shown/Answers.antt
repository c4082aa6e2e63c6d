use Rattle.std.proofs.Common.{Some, rules}
use Rattle.srt_watch.proofs.watched_routes.WatchedRoutes.add_shown.Goals as goal

pub returns : goal.returns
returns c = record {
  route = record {
    index = c.len-place.result;
    name = c.in_ok-name.name;
    snapshot = c.first_snapshot.result;
    place = Some c.len-place.result;
  };
  status = c.in_ok-name.status;
  route_is = record { index_is = search rules; name_is = search rules; snapshot_is = search rules; place_is = search rules };
  status_is = search rules;
  routes_are = search rules;
  shown_are = search rules;
}
