use denote.Ref.{NamedLft}
use denote.Param.Send.{IsSend, IsSync, sendable, recorded_send, struct_send}
use denote.Struct.Declared.{shape}
use Rattle.std.proofs.Crossing as heap
use Rattle.srt_mailbox.specs.contracts.tests.seats.Mark as mark
use Rattle.srt_mailbox.specs.contracts.tests.seats.MarkAttachment.TheImpl as companion
use Rattle.srt_mailbox.specs.contracts.tests.seats.ClockSide as side
use Rattle.srt_mailbox.proofs.SeatSyncs.{hand_send, reader_fields_send}
use Rattle.srt_mailbox.proofs.tests.seats.come_beside.Goals as goal

mark_send : IsSend mark.the_row
mark_send = search sendable

mark_sync : IsSync mark.the_row
mark_sync = search sendable

side_send : (a : NamedLft) → IsSend (side.the_row a)
side_send a =
    recorded_send (side.the_field a).row _ _ (side.the_type a).to_one
    (struct_send (shape (side.the_type a)) (
      reader_fields_send mark.the_row companion.ghosts mark_send mark_sync a,
      (heap.Vec-send _ hand_send, tt),
    ))

pub join_mut-put-requires-send-F : goal.join_mut-put-requires-send-F
join_mut-put-requires-send-F g c κs within = search (sendable, side_send) depth 40
