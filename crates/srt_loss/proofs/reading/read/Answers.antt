use Rattle.std.proofs.Common.{arith}
use Rattle.std.proofs.lemmas.Grind.{common_steps}
use Rattle.srt_loss.proofs.Spelled.{answer_only, answer_fault, read_spelled, spelled_read, all_read}
use Rattle.srt_loss.proofs.reading.read.Goals as goal

pub returns-in_err-rest-clause-only : goal.returns-in_err-rest-clause-only
returns-in_err-rest-clause-only c = answer_only c.args.bytes.now c.from_residual.result (grind (arith, common_steps))

pub returns-in_err-rest-clause-fault : goal.returns-in_err-rest-clause-fault
returns-in_err-rest-clause-fault c = answer_fault c.args.bytes.now c.from_residual.result (grind (arith, common_steps))

pub returns-clause-found : goal.returns-clause-found
returns-clause-found c =
    read_spelled c.args.bytes.now _ (all_read c.args.bytes.now c.loop-rest.rest.now c.loop-rest.invariant.same_fault (grind (arith, common_steps)))

pub returns-clause-only : goal.returns-clause-only
returns-clause-only c =
    let e = all_read c.args.bytes.now c.loop-rest.rest.now c.loop-rest.invariant.same_fault (grind (arith, common_steps)) in
    λ ranges s. let k = spelled_read c.args.bytes.now ranges s in cc
