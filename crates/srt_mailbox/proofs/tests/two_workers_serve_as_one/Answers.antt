use denote.Param.Send.{sendable}
use Rattle.srt_mailbox.proofs.Syncs.{cell_sync}
use Rattle.srt_mailbox.proofs.tests.two_workers_serve_as_one.Goals as goal

pub serve_by_two-requires-sync-C : goal.serve_by_two-requires-sync-C
serve_by_two-requires-sync-C c = search (sendable, cell_sync)
