use Rattle.srt_explain.proofs.Secrets.{tells_no_secret}
use Rattle.srt_explain.proofs.laws.texts.Goals as goal

pub returns : goal.returns
returns c = tells_no_secret
