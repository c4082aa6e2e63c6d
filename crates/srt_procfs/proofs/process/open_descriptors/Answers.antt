use Rattle.std.proofs.Common.{inl}
use Rattle.srt_procfs.proofs.process.open_descriptors.Goals as goal

pub returns-in_err-names : goal.returns-in_err-names
returns-in_err-names g c = inl (c.in_err-names.ensures.unread, c.from_residual.ensures)
