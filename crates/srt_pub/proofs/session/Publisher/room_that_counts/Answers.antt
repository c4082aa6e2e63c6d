use Rattle.srt_pub.proofs.session.Publisher.room_that_counts.Goals as goal
use Rattle.std.proofs.Common.{sym, ◌∙◌}
use Rattle.srt_pub.proofs.Deliveries.{live_next}

pub returns-in-Live : goal.returns-in-Live
returns-in-Live c terms initial opening stamp caller m h time = live_next terms time c.args.room m (sym h.agreed.mode_is ∙ c.in-Live.is)

pub returns-in-Buffer : goal.returns-in-Buffer
returns-in-Buffer c terms initial opening stamp caller m h time =
    c.room_in_order.ensures terms initial opening stamp caller m h (sym h.agreed.mode_is ∙ c.in-Buffer.is) time
