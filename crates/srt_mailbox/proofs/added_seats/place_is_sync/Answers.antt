use denote.Param.Send.{sendable}
use Rattle.srt_mailbox.proofs.SeatSyncs.{place_sync}
use Rattle.srt_mailbox.proofs.added_seats.place_is_sync.Goals as goal

pub is_sync-requires : goal.is_sync-requires
is_sync-requires g c =
    let here = place_sync _ g.X.Attachment c.type_bounds.send-X c.type_bounds.sync-X in
    search (sendable, here)
