use denote.Param.Send.{sendable}
use Rattle.srt_mailbox.proofs.Syncs.{cell_sync}
use Rattle.srt_mailbox.proofs.tests.nobody_waits_for_a_route.Goals as goal

pub serve_beside-served-requires-sync-C : goal.serve_beside-served-requires-sync-C
serve_beside-served-requires-sync-C c = search (sendable, cell_sync)
