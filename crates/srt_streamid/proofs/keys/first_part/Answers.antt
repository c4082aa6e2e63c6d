use Rattle.std.proofs.Common.{ap, sym, ◌∙◌}
use Rattle.srt_streamid.proofs.Cuts.{cut_at, cuts, cut_there}
use Rattle.srt_streamid.proofs.keys.first_part.Goals as goal

pub returns-in-Some-clause-parts : goal.returns-in-Some-clause-parts
returns-in-Some-clause-parts c = λ start.
    cut_there start c.in-Some.len c.args.list.now c.in-Some.ensures.inside (sym c.in-Some.ensures.value)

pub returns-in-None-clause-parts : goal.returns-in-None-clause-parts
returns-in-None-clause-parts c = λ start.
    cuts start c.args.list.now ∙ ap (cut_at start c.args.list.now) (sym c.in-None.ensures.value)
