use Rattle.srt_hs.proofs.Keys.{found_by, only_by}
use Rattle.srt_hs.proofs.key_reading.read_key_message.Goals as goal

pub returns-clause-found : goal.returns-clause-found
returns-clause-found c = found_by c.args.bytes.now c.parse.result c.parse.ensures

pub returns-clause-only : goal.returns-clause-only
returns-clause-only c = only_by c.args.bytes.now c.parse.result c.parse.ensures
