use Rattle.std.proofs.Common.{sym}
use Rattle.srt_config.proofs.Groups.{read_whole, not_read}
use Rattle.srt_config.proofs.config.address.read_groups.Goals as goal

pub returns-in-Ok : goal.returns-in-Ok
returns-in-Ok c = sym (read_whole _ _ c.in-Ok.ensures)

pub returns-in-Err : goal.returns-in-Err
returns-in-Err c = sym (not_read _ (λ groups. c.in-Err.ensures (record { segments = groups })))
