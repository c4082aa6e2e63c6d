use Rattle.std.proofs.Common.{arith}
use Rattle.srt_wakeups.proofs.bit_set.route_at.Goals as goal

pub returns : goal.returns
returns c = omega (arith, c.saturating_mul.ensures, c.saturating_add.ensures)
