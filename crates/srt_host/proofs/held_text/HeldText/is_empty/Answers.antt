use Rattle.std.proofs.Common.{◌≡◌, length, ap, ◌∙◌}
use Rattle.srt_host.proofs.HeldTexts.{all_written, none_waits}
use Rattle.srt_host.proofs.held_text.HeldText.is_empty.Goals as goal

pub returns : goal.returns
returns c =
    let whole : c.len.result ≡ length c.args.self.now.kept.value.items = c.len.ensures.value ∙ ap (λ v. length v.items) c.deref.ensures in
    (λ all. all_written _ _ _ c.args.self.now.within whole all, λ none. none_waits _ _ _ c.args.self.now.within whole none)
