use Rattle.srt_watch.proofs.Reloading.{followed}
use Rattle.srt_watch.proofs.laws.followed_files.Goals as goal

pub returns : goal.returns
returns c = followed
