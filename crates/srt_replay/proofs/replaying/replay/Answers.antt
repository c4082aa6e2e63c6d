use Rattle.std.proofs.Common.{map, inr}
use Rattle.srt_types.specs.Terms.{terms_of}
use Rattle.srt_cookie.specs.Cookie.{secret_bytes}
use Rattle.srt_replay.proofs.replaying.replay.Goals as goal

pub returns-in-Ok-clause-replays : goal.returns-in-Ok-clause-replays
returns-in-Ok-clause-replays g c =
    let stands = rw c.as_slice.ensures.value at c.in-Ok.ensures.stands in
    inr (c.replay_over.ensures.replays (secret_bytes c.args.config.now.secret) (map terms_of c.args.config.now.entries.items) stands)
