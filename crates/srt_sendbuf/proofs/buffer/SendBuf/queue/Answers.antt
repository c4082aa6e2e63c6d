use Rattle.std.proofs.Common.{◌∙◌}
use Rattle.srt_sendbuf.proofs.Steps.{queued_one}
use Rattle.srt_sendbuf.proofs.buffer.SendBuf.queue.Goals as goal

pub returns-clause-stands : goal.returns-clause-stands
returns-clause-stands c width initial r h t =
    let s = c.args.self.now in
    record {
      width_is = c.put.ensures.width ∙ h.width_is;
      fields = queued_one initial _ _ _ _ _ _ _ _ _ _ c.args.now c.args.payload.now _ _ _ _ r h.fields c.put.ensures.length s.sent_in t
          c.put.ensures.kept c.put.ensures.lost c.next-self.ensures.number;
    }
