use Rattle.srt_explain.specs.Texts.{exposed_text}
use Rattle.srt_explain.proofs.texts.write_exposed.Goals as goal

pub returns : goal.returns
unfolding exposed_text
returns g c = c.write.ensures.writes
