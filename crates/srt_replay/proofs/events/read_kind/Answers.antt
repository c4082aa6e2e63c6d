use Rattle.std.proofs.Common.{rules}
use Rattle.srt_replay.specs.Events.{event_in}
use Rattle.srt_replay.proofs.events.read_kind.Goals as goal

pub returns-in-79-clause-value : goal.returns-in-79-clause-value
unfolding event_in
returns-in-79-clause-value c = let h = c.read_opening.ensures.value c.args.buffer.now in search (rules, h)
