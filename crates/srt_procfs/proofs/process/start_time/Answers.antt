use Rattle.std.proofs.Common.{inl}
use Rattle.srt_procfs.proofs.process.start_time.Goals as goal

pub returns-in_err-machine : goal.returns-in_err-machine
returns-in_err-machine g c = inl (c.in_err-machine.ensures.unread, c.from_residual.ensures)
