use Rattle.srt_streamid.proofs.Exact.{name_is_inside, name_is_said}
use Rattle.srt_streamid.proofs.laws.names.Goals as goal

pub returns : goal.returns
returns c = record { inside = name_is_inside; said = name_is_said }
