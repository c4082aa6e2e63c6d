use Rattle.srt_pub.proofs.Fulls.{full_not_due, full_due}
use Rattle.srt_pub.proofs.acknowledgements.Acks.is_full_due.Goals as goal

pub returns-then-self : goal.returns-then-self
returns-then-self c width front point notes h = full_not_due width front point c.args.time notes _ _ _ _ c.if-self.true h.1

pub returns : goal.returns
returns c width front point notes h = full_due width front point c.args.time _ notes _ _ _ _ c.if-self.false c.saturating_sub.ensures h.1
