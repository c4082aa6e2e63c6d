use Rattle.srt_status.proofs.Expected.{tells_at_once, tells_each_ten_minutes}
use Rattle.srt_status.proofs.laws.expectations.Goals as goal

pub returns-clause-once : goal.returns-clause-once
returns-clause-once c = tells_at_once

pub returns-clause-rarely : goal.returns-clause-rarely
returns-clause-rarely c = tells_each_ten_minutes
