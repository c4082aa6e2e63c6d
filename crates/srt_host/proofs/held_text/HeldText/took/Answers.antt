use Rattle.std.proofs.Common.{rules, arith, ◌+◌, ◌≤◌, length}
use Rattle.srt_host.proofs.HeldTexts.{within}
use Rattle.srt_host.proofs.held_text.HeldText.took.Goals as goal

pub overflow_add-self : goal.overflow_add-self
overflow_add-self c =
    let sum : c.args.self.now.written + c.args.count ≤ length c.args.self.now.kept.value.items = within _ _ _ c.args.self.now.within c.requires in
    let most : c.args.self.now.written + c.args.count ≤ 65536 = omega (arith, sum, c.args.self.now.few) in
    search rules
