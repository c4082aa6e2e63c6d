use Rattle.std.proofs.Common.{◌+◌, arith}
use Rattle.std.proofs.lemmas.Grind.{common_steps}
use Rattle.srt_streamid.specs.Reading.{with_part}
use Rattle.srt_streamid.proofs.keys.Found.with_part.Goals as goal

pub returns-then-eq-2 : goal.returns-then-eq-2
unfolding with_part
returns-then-eq-2 c =
    let reported = c.with_mode.ensures (c.args.start + c.in-Some.equals + 1) in
    grind (arith, common_steps, reported)
