use Rattle.std.proofs.Common.{◌∙◌}
use Rattle.srt_sendbuf.proofs.Steps.{moved_on}
use Rattle.srt_sendbuf.proofs.buffer.SendBuf.move_front.Goals as goal

pub returns : goal.returns
returns c width initial r moved h v =
    let slid = c.slide_by.ensures in
    let found = c.find_lost-self.ensures in
    record {
      width_is = found.width ∙ slid.width ∙ h.width_is;
      fields = moved_on initial _ _ _ _ _ _ _ _ c.args.count _ _ _ _ _ c.saturating_sub-low.result _ _ _ _ _ _ r moved h.fields v
          c.requires.inside c.args.self.now.sent_in c.add-self.ensures.value (λ d. found.kept d ∙ slid.kept d) (λ d. found.lost d ∙ slid.lost d)
          (found.length ∙ slid.length) c.saturating_sub-self.ensures c.saturating_sub-high.ensures c.saturating_sub-low.ensures found.low
          (λ d a b. found.lost d ∙ found.before d a b) (λ lt. found.lost _ ∙ found.here lt);
    }
