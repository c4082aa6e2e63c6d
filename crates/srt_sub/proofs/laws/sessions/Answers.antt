use Rattle.srt_sub.proofs.Sound.{stands_later, begins}
use Rattle.srt_sub.proofs.Freshness.{expires_once}
use Rattle.srt_sub.proofs.Counted.{sends_at_most_66}
use Rattle.srt_sub.proofs.laws.sessions.Goals as goal

pub returns-clause-emission : goal.returns-clause-emission
returns-clause-emission c = begins

pub returns-clause-later : goal.returns-clause-later
returns-clause-later c = stands_later

pub returns-clause-expiry : goal.returns-clause-expiry
returns-clause-expiry c = expires_once

pub returns-clause-most : goal.returns-clause-most
returns-clause-most c = sends_at_most_66
