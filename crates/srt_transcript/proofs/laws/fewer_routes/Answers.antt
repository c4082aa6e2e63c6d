use Rattle.srt_transcript.proofs.Fewer.{numbered}
use Rattle.srt_transcript.proofs.laws.fewer_routes.Goals as goal

pub returns : goal.returns
returns c routes number line within event = numbered routes 511 within number line event
