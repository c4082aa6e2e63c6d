use Rattle.std.proofs.Common.{◌∙◌}
use Rattle.srt_sendbuf.proofs.Steps.{sent_next, same_count}
use Rattle.srt_sendbuf.proofs.buffer.SendBuf.sent_new.Goals as goal

pub returns : goal.returns
returns c width initial r h =
    let s = c.args.self.now in
    record {
      width_is = c.unmark.ensures.width ∙ h.width_is;
      fields = same_count initial _ _ _ _ _ _ _ _ _ _ _ _ c.unmark.ensures.length
          (sent_next initial _ _ _ _ _ _ _ _ _ _ _ _ r h.fields s.low_in s.high_in c.unmark.ensures.kept c.unmark.ensures.lost);
    }
