use Rattle.srt_hs.proofs.Spelled.{found_of, only_of, fault_of}
use Rattle.srt_hs.proofs.reading.read.Goals as goal

pub returns-clause-found : goal.returns-clause-found
returns-clause-found c = found_of c.parse.result c.args.body.now c.parse.ensures

pub returns-clause-only : goal.returns-clause-only
returns-clause-only c = only_of c.parse.result c.args.body.now c.parse.ensures

pub returns-clause-fault : goal.returns-clause-fault
returns-clause-fault c = fault_of c.parse.result c.args.body.now c.parse.ensures
