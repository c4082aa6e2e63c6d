use Rattle.std.proofs.Common.{◌∙◌}
use Rattle.srt_sendbuf.proofs.Steps.{sent_lost, same_count}
use Rattle.srt_sendbuf.proofs.buffer.SendBuf.sent_again.Goals as goal

pub returns : goal.returns
returns c width initial r h =
    let s = c.args.self.now in
    let marked = c.unmark.ensures in
    let found = c.find_lost-self.ensures in
    record {
      width_is = found.width ∙ marked.width ∙ h.width_is;
      fields = same_count initial _ _ _ _ _ _ _ _ _ _ _ _ (found.length ∙ marked.length)
          (sent_lost initial _ _ _ _ _ _ _ _ _ _ _ _ _ r h.fields c.requires s.high_in (λ d. found.kept d ∙ marked.kept d)
          (λ d. found.lost d ∙ marked.lost d) found.low (λ d a b. found.lost d ∙ found.before d a b) (λ lt. found.lost _ ∙ found.here lt));
    }
