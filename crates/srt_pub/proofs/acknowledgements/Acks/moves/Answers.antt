use Rattle.srt_pub.proofs.Fulls.{acks_moved, acks_still}
use Rattle.srt_pub.proofs.acknowledgements.Acks.moves.Goals as goal
use Rattle.std.proofs.Common.{arith}

pub returns-then-saturating_add-eq0 : goal.returns-then-saturating_add-eq0
returns-then-saturating_add-eq0 c width front a notes inside h = (
  h.0,
  acks_still width front _ a _ notes _ _ _ _ (omega (arith, c.saturating_add.ensures, c.if-saturating_add-eq0.true))
      (omega (arith, c.saturating_add.ensures, c.if-saturating_add-eq0.true)) h.1,
)

pub returns : goal.returns
returns c width front a notes inside h = (
  h.0,
  acks_moved width front a c.args.front_steps c.args.point_steps notes _ _ _ _
      (omega (arith, c.saturating_add.ensures, c.if-saturating_add-eq0.false)) inside h.1,
)
