use Rattle.std.proofs.Common.{◌≡◌, ◌∙◌, ◌==◌, ◌&&◌, ℕ, Bool, true, sym, ap}
use Rattle.srt_types.specs.declared.shared.Rules.{Rules}
use Rattle.srt_route.specs.Route.{sends_files}
use Rattle.srt_route.specs.Sessions.{open_publishers}
use Rattle.srt_route.proofs.stored.Stored.{publishers_among}
use Rattle.srt_route.proofs.files.is_file_over.Goals as goal

pub returns : goal.returns
returns c e index clock sessions body =
    let table = c.args.table.now in
    let sends : sends_files e.rules.callers e.mode ≡ true =
    ap (sends_files e.rules.callers) (sym body.mode_is) ∙ ap (λ (r : Rules). sends_files r.callers table.mode) (sym body.rules_are)
    ∙ sym c.sends_files.ensures ∙ c.if-not-sends_files.false in
    ap (λ (n : ℕ). n == 0)
    (table.counted ∙ publishers_among e index clock table sessions body)
    ∙ ap (λ (b : Bool). b && open_publishers sessions == 0) (sym sends)
