use Rattle.srt_replay.proofs.Utf8.{read_found, read_none}
use Rattle.srt_replay.proofs.events.read_text.Goals as goal

pub returns-in-Ok : goal.returns-in-Ok
returns-in-Ok c = let h = c.in-Ok.ensures.cases in read_found c.in-Ok.name.now c.args.text.now h.0 h.1

pub returns-in-Err : goal.returns-in-Err
returns-in-Err c = let h = c.in-Err.ensures.cases in read_none c.args.text.now h.0
