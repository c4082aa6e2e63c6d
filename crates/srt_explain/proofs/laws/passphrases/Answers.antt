use Rattle.srt_explain.proofs.KeyValues.{warns_of_no_passphrase}
use Rattle.srt_explain.proofs.laws.passphrases.Goals as goal

pub returns : goal.returns
returns c = warns_of_no_passphrase
