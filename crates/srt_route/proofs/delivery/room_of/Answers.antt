use Rattle.std.proofs.Common.{Some, ap}
use Rattle.srt_route.proofs.delivery.room_of.Goals as goal

pub returns-then-has_subscriber-clause-some : goal.returns-then-has_subscriber-clause-some
returns-then-has_subscriber-clause-some c h terms initial opening caller last m stands = ap Some (c.room.ensures terms initial opening caller last m stands)
