use Rattle.std.proofs.Common.{◌≤◌, length, drop, sym, ap, subst, ◌∙◌}
use Rattle.srt_host.specs.Held.{held_in}
use Rattle.srt_host.proofs.HeldTexts.{few_taken, drop_taken}
use Rattle.srt_host.proofs.errors.Errors.write_next.Goals as goal

pub took-requires : goal.took-requires
took-requires g c =
    subst (λ xs. length xs ≤ length (held_in c.args.self.now.held)) (sym c.next-next.ensures) (few_taken 4096 (held_in c.args.self.now.held))

pub returns : goal.returns
returns g c =
    c.took.ensures.held ∙ ap (λ xs. drop (length xs) (held_in c.args.self.now.held)) c.next-next.ensures
    ∙ drop_taken 4096 (held_in c.args.self.now.held)
