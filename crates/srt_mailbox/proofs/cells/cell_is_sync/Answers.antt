use denote.Param.Send.{sendable}
use Rattle.srt_mailbox.proofs.Syncs.{cell_send, cell_sync}
use Rattle.srt_mailbox.proofs.cells.cell_is_sync.Goals as goal

pub is_sync-requires-send-T : goal.is_sync-requires-send-T
is_sync-requires-send-T c κs = search (sendable, cell_send)

pub is_sync-requires-sync-T : goal.is_sync-requires-sync-T
is_sync-requires-sync-T c κs = search (sendable, cell_sync)
