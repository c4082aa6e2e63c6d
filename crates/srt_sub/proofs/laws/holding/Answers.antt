use Rattle.srt_sub.proofs.Waiting.{holds_new_ones, leaves_the_rest}
use Rattle.srt_sub.proofs.laws.holding.Goals as goal

pub returns-clause-sends : goal.returns-clause-sends
returns-clause-sends c = holds_new_ones

pub returns-clause-rest : goal.returns-clause-rest
returns-clause-rest c = leaves_the_rest
