use Rattle.std.proofs.Common.{length, ap, ◌∙◌}
use Rattle.srt_host.proofs.HeldTexts.{piece}
use Rattle.srt_host.proofs.held_text.HeldText.next.Goals as goal

pub returns : goal.returns
returns c =
    piece c.args.self.now.written 4096 _ _ _ c.args.self.now.kept.value.items c.min.ensures
    (c.len.ensures.value ∙ ap (λ v. length v.items) c.deref.ensures) (c.as_slice.ensures.value ∙ ap (λ v. v.items) c.deref-2.ensures)
