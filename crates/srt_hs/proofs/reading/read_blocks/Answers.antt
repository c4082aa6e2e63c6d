use Rattle.std.proofs.Common.{sym, ◌∙◌, arith}
use Rattle.srt_hs.specs.View.{blocks_of}
use Rattle.srt_hs.proofs.Steps.{all_ok}
use Rattle.srt_hs.proofs.reading.read_blocks.Goals as goal

pub loop-rest-preserved : goal.loop-rest-preserved
loop-rest-preserved c =
    let e = all_ok (blocks_of c.loop-rest.blocks) (blocks_of c.in_ok-next.next) c.loop-rest.rest.now
    (omega (arith, c.in_ok-next.ensures.shorter)) (sym c.in_ok-next.ensures.blocks) in
    rw c.in_ok-next.ensures.rest (sym e ∙ c.loop-rest.invariant)
