use Rattle.std.proofs.Common.{◌++◌, ◌∙◌, ap, sym, ℕ, ◌*◌, List}
use Rattle.srt_samples.specs.Samples.{group, groups}
use Rattle.srt_samples.proofs.Puts.{joined, one_group_more}
use Rattle.srt_samples.proofs.writing.put_groups.Goals as goal

pub loop-at-preserved : goal.loop-at-preserved
loop-at-preserved c =
    let old = c.args.out.now.items in
    let text = c.args.text.now in
    let at = c.loop-at.at in
    joined old c.loop-at.out.items c.put_group.new.out.items (groups text at) (group text (4 * at)) c.loop-at.invariant c.in_ok-put_group.ensures
    ∙ ap (λ (l : List ℕ). old ++ l) (sym (one_group_more text at))
