use Rattle.srt_explain.proofs.KeyValues.{warns_of_no_key}
use Rattle.srt_explain.proofs.laws.keys.Goals as goal

pub returns : goal.returns
returns c = warns_of_no_key
