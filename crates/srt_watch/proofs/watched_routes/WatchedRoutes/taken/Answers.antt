use Rattle.std.proofs.Common.{refl}
use Rattle.srt_watch.proofs.watched_routes.WatchedRoutes.taken.Goals as goal

pub returns-clause-shown : goal.returns-clause-shown
returns-clause-shown c = (c.replace.new.dest, refl)
