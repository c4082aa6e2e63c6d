use Rattle.srt_serve.specs.inside.Changing.{IsClosedAt}
use Rattle.srt_serve.specs.inside.UpTo.{UpTo}
use Rattle.srt_serve.proofs.watching.leave_notices.Given as goal

abbrev pub invariant-loop-route : goal.invariant-loop-route
invariant-loop-route g l = UpTo (IsClosedAt (g.N.ChangeNotices.requested l.notices) l.hosted.first l.closes) l.route-index
