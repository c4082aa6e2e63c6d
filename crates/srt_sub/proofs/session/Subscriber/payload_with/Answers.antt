use Rattle.std.proofs.Common.{◌+◌, ◌<◌, ◌∙◌, arith}
use Rattle.srt_sendbuf.specs.Sending.{front}
use Rattle.srt_sub.proofs.Carried.{offset_is}
use Rattle.srt_sub.proofs.session.Subscriber.payload_with.Goals as goal

pub returns : goal.returns
returns c terms initial opening caller time given k m h few word above below =
    let queued = c.queued_payloads.ensures terms initial opening caller time given m h in
    let stored = c.stored.ensures terms.width initial m.sending h.buffer_is in
    let from = c.front_number.ensures terms.width initial m.sending h.buffer_is in
    let near : k < front m.sending + 8_193 = omega (arith, below, h.buffer_is.fields.queued_is, c.args.self.now.buffer.queue_in) in
    let steps = c.steps_from-steps.ensures ∙ offset_is initial (front m.sending) k _ _ word from above near in
    omega (arith, queued, stored, steps, few, above, below, c.saturating_sub-front.ensures, c.from.ensures, c.from-2.ensures, c.saturating_add.ensures)
