-- A seat may be moved to another thread, threads may share a place, and a reader may be moved to its owner's thread.
use denote.RattleType.{RattleType}
use denote.Ref.{NamedLft}
use denote.Param.Send.{IsSend, IsSync, struct_send, struct_sync, recorded_send, recorded_sync, shr_slice_send}
use denote.Struct.Declared.{shape}
use Rattle.counted_slot.proofs.Counted.TheSendSync as counted
use Rattle.std.specs.contracts.option.Option as option
use Rattle.std.proofs.option.Option.TheSendSync as option_is
use Rattle.std.proofs.Crossing as heap
use Rattle.std.proofs.sync.OnceLock.TheSendSync as once_is
use Rattle.std.proofs.sync.OnceToken.TheSendSync as token_is
use Rattle.srt_mailbox.specs.declared.seats.Attachment.{Ghosts}
use Rattle.srt_mailbox.specs.contracts.seats.PollerEnds as ends
use Rattle.srt_mailbox.specs.contracts.seats.ClockHand as hand
use Rattle.srt_mailbox.specs.contracts.seats.SeatTag as tag
use Rattle.srt_mailbox.specs.contracts.seats.Seat as seat
use Rattle.srt_mailbox.specs.contracts.added_seats.Place as place
use Rattle.srt_mailbox.specs.contracts.readers.SeatReader as reader
use Rattle.srt_mailbox.proofs.inbox.Ingress.TheSendSync as ingress_is
use Rattle.srt_mailbox.proofs.inbox.ClockEnd.TheSendSync as clock_is
use Rattle.srt_mailbox.proofs.outbox.Drain.TheSendSync as drain_is
use Rattle.srt_mailbox.proofs.Syncs.{ingress_sync, clock_sync, drain_sync, cell_fields_send, cell_fields_sync}

-- the clock's end of an added route may be moved to another thread
pub hand_send : IsSend hand.the_row
hand_send = recorded_send (hand.the_field).row _ _ hand.the_type.to_one (struct_send (shape hand.the_type) (clock_is.the_send, tt))

-- threads may share the clock's end of an added route
pub hand_sync : IsSync hand.the_row
hand_sync = recorded_sync (hand.the_field).row _ _ hand.the_type.to_one (struct_sync (shape hand.the_type) (clock_sync, tt))

module _ (X : RattleType) (g : Ghosts X.Denot) (s : IsSend X) (y : IsSync X) where
  -- the poller's ends of an added route may be moved to another thread
  pub ends_send : IsSend (ends.the_row X)
  ends_send =
      recorded_send (ends.the_field X).row _ _ (ends.the_type X).to_one
      (struct_send (shape (ends.the_type X)) (ingress_is.the_send, (drain_is.the_send, (s, tt))))

  pub ends_sync : IsSync (ends.the_row X)
  ends_sync =
      recorded_sync (ends.the_field X).row _ _ (ends.the_type X).to_one
      (struct_sync (shape (ends.the_type X)) (ingress_sync, (drain_sync, (y, tt))))

  -- a seat may be moved to another thread
  pub seat_send : IsSend (seat.the_row X g)
  seat_send =
      recorded_send (seat.the_field X g).row _ _ (seat.the_type X g).to_one
      (struct_send (shape (seat.the_type X g)) (
        cell_fields_send,
        (
          counted.the_send (option.the_row (ends.the_row X)) tag.the_row _ (option_is.the_send (ends.the_row X) ends_send),
          (counted.the_send (option.the_row hand.the_row) tag.the_row _ (option_is.the_send hand.the_row hand_send), tt),
        ),
      ))

  -- threads may share a seat
  pub seat_sync : IsSync (seat.the_row X g)
  seat_sync =
      recorded_sync (seat.the_field X g).row _ _ (seat.the_type X g).to_one
      (struct_sync (shape (seat.the_type X g)) (
        cell_fields_sync,
        (
          counted.the_sync (option.the_row (ends.the_row X)) tag.the_row _
              (option_is.the_send (ends.the_row X) ends_send) (option_is.the_sync (ends.the_row X) ends_sync),
          (
            counted.the_sync (option.the_row hand.the_row) tag.the_row _
                (option_is.the_send hand.the_row hand_send) (option_is.the_sync hand.the_row hand_sync),
            tt,
          ),
        ),
      ))

  place_fields_sync : IsSync (place.the_field X g).row
  place_fields_sync = struct_sync (shape (place.the_type X g)) (once_is.the_sync (seat.the_row X g) seat_send seat_sync, tt)

  -- threads may share a place
  pub place_sync : IsSync (place.the_row X g)
  place_sync = recorded_sync (place.the_field X g).row _ _ (place.the_type X g).to_one place_fields_sync

  module _ (a : NamedLft) where
    -- the fields of a reader, for a struct that contains one: a reference to places, which threads may share, and its
    -- tokens
    pub reader_fields_send : IsSend (reader.the_field a X g).row
    reader_fields_send =
        struct_send (shape (reader.the_type a X g)) (
          shr_slice_send _ _ _ place_sync,
          (heap.Vec-send _ (token_is.the_send a (seat.the_row X g)), tt),
        )

    -- a reader of places may be moved to its owner's thread
    pub reader_send : IsSend (reader.the_row a X g)
    reader_send = recorded_send (reader.the_field a X g).row _ _ (reader.the_type a X g).to_one reader_fields_send
