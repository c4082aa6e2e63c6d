-- Threads may share the places of a run, and the clocks may go to the ticking thread, with its arrivals.
use denote.RattleType.{RattleType}
use denote.Ref.{NamedLft}
use denote.Param.Send.{IsSend, IsSync, struct_send, recorded_send}
use denote.Struct.Declared.{shape}
use Rattle.srt_mailbox.specs.contracts.added_seats.Place as place
use Rattle.srt_mailbox.specs.declared.seats.Attachment.{Ghosts}
use Rattle.srt_serve.specs.contracts.arrivals.NameAttachment as name
use Rattle.srt_serve.specs.contracts.arrivals.ClockArrivals as arrivals
use Rattle.srt_serve.proofs.arrivals.NameAttachment.TheSendSync as name_is
use Rattle.srt_serve.specs.contracts.ticking.Clocks as clocks
use Rattle.std.proofs.Crossing as heap
use Rattle.srt_mailbox.proofs.SeatSyncs.{place_sync, reader_fields_send}

module _ (A : RattleType) (g : Ghosts (name.the_row A).Denot) where
  pub places_sync : IsSync (place.the_row (name.the_row A) g)
  places_sync = place_sync (name.the_row A) g (name_is.the_send A) (name_is.the_sync A)

  pub arrivals_send : (a : NamedLft) → IsSend (arrivals.the_row a A g)
  arrivals_send a =
      recorded_send (arrivals.the_field a A g).row _ _ (arrivals.the_type a A g).to_one
      (struct_send (shape (arrivals.the_type a A g)) (
        reader_fields_send (name.the_row A) g (name_is.the_send A) (name_is.the_sync A) a,
        tt,
      ))

pub clocks_send : (K E A : RattleType) → IsSend K → IsSend E → IsSend A → IsSend (clocks.the_row K E A)
clocks_send K E A k e a =
    recorded_send (clocks.the_field K E A).row _ _ (clocks.the_type K E A).to_one
    (struct_send (shape (clocks.the_type K E A)) (heap.Vec-send _ e, (a, (k, tt))))
