use Rattle.std.proofs.Common.{arith}
use Rattle.srt_route.proofs.delivery.feed_seat.Goals as goal

pub returns-clause-some : goal.returns-clause-some
returns-clause-some c h terms initial opening caller m stands some places =
    c.feed.ensures.stands terms initial opening caller c.args.clock m stands (omega arith) some places
