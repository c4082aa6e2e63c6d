use Rattle.std.proofs.Common.{map, take}
use Rattle.srt_types.specs.Terms.{terms_of}
use Rattle.srt_watch.specs.FirstRoutes.{HasOpened}
use Rattle.srt_watch.proofs.watched_routes.WatchedRoutes.open.Given as goal

abbrev pub invariant-loop-entry : goal.invariant-loop-entry
invariant-loop-entry l = HasOpened (map terms_of (take l.entry-index l.entries)) l.routes
