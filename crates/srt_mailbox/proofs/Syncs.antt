-- Threads may share a cell. A pass may be read from any thread: a reference to it exposes no contents.
use denote.RattleType.{RattleType}
use denote.Param.Send.{IsSend, IsSync, part_keyless, sendable, struct_send, struct_sync, recorded_send, recorded_sync, view_send, view_sync}
use denote.Struct.Declared.{shape}
use Rattle.atomic_table.specs.contracts.shared.Seat as seat
use Rattle.atomic_table.proofs.shared.Seat.TheSendSync as seat_is
use Rattle.crossbeam_queue.proofs.array_queue.Slotted.TheSendSync as slotted
use Rattle.crossbeam_queue.specs.contracts.array_queue.Slotted as slotted_c
use Rattle.crossbeam_queue.specs.contracts.array_queue.Doing as doing_c
use Rattle.crossbeam_queue.specs.contracts.array_queue.Turns as turns_c
use Rattle.crossbeam_queue.specs.contracts.array_queue.TurnsTableRuleOptionDoingUnit.TheImpl as turns_impl
use Rattle.counted_slot.proofs.Counted.TheSendSync as counted
use Rattle.counted_slot.specs.contracts.OptionFits.TheImpl as option_fits
use Rattle.std.specs.contracts.option.Option as option
use Rattle.std.proofs.option.Option.TheSendSync as option_is
use Rattle.std.proofs.Crossing as heap
use Rattle.std.specs.contracts.alloc.Global as heap_c
use Rattle.std.specs.contracts.impls.GlobalAllocator.TheImpl as heap_impl
use denote.Builtin as builtin
use Rattle.srt_types.specs.contracts.shared.Entry as entry
use Rattle.srt_route.proofs.replies.Reply.TheSendSync as reply_is
use Rattle.srt_mailbox.specs.contracts.inbox_rule.InboxView as inbox_view
use Rattle.srt_mailbox.specs.contracts.inbox_rule.InboxEntry as inbox_entry
use Rattle.srt_mailbox.proofs.inbox_rule.InboxEntry.TheSendSync as inbox_entry_is
use Rattle.srt_mailbox.specs.contracts.inbox_rule.InboxRule as inbox_rule
use Rattle.srt_mailbox.specs.contracts.inbox_rule.InboxRuleProtocolInboxEntryInboxView.TheImpl as inbox_proto
use Rattle.srt_mailbox.specs.contracts.inbox.Ingress as ingress
use Rattle.srt_mailbox.specs.contracts.inbox.Ingress.TheInside as ingress_in
use Rattle.srt_mailbox.specs.contracts.inbox.ClockEnd as clock
use Rattle.srt_mailbox.specs.contracts.inbox.ClockEnd.TheInside as clock_in
use Rattle.srt_mailbox.specs.contracts.inbox.InboxReceiver as receiver
use Rattle.srt_mailbox.specs.contracts.inbox.InboxReceiver.TheInside as receiver_in
use Rattle.srt_mailbox.specs.contracts.outbox_rule.OutboxView as outbox_view
use Rattle.srt_mailbox.specs.contracts.outbox_rule.Parcel as parcel
use Rattle.srt_mailbox.proofs.outbox_rule.Parcel.TheSendSync as parcel_is
use Rattle.srt_mailbox.specs.contracts.outbox_rule.OutboxRule as outbox_rule
use Rattle.srt_mailbox.specs.contracts.outbox_rule.OutboxRuleProtocolParcelOutboxView.TheImpl as outbox_proto
use Rattle.srt_mailbox.specs.contracts.outbox.Drain as drain
use Rattle.srt_mailbox.specs.contracts.outbox.Drain.TheInside as drain_in
use Rattle.srt_mailbox.specs.contracts.outbox.OutboxSender as sender
use Rattle.srt_mailbox.specs.contracts.outbox.OutboxSender.TheInside as sender_in
use Rattle.srt_mailbox.specs.contracts.running.Running as running
use Rattle.srt_mailbox.specs.contracts.running.Running.TheInside as running_in
use Rattle.std.specs.contracts.snapshot.Snapshot as snapshot
use Rattle.srt_route.proofs.route.Route.TheSendSync as route_is
use Rattle.srt_mailbox.proofs.evidence.QueueRefusals.TheSendSync as refusals_is
use Rattle.srt_mailbox.proofs.inbox.InboxReceiver.TheSendSync as receiver_is
use Rattle.srt_mailbox.proofs.outbox.OutboxSender.TheSendSync as sender_is
use Rattle.srt_mailbox.specs.contracts.cells.RouteCell as cell
use Rattle.srt_mailbox.specs.contracts.cells.CellTag as label
use Rattle.srt_mailbox.specs.contracts.cells.Boxed as boxed_route
use Rattle.srt_mailbox.specs.contracts.cells.BoxedFits.TheImpl as boxed_fits
use Rattle.srt_mailbox.proofs.spares.Boxes.TheSendSync as boxes_is
use Rattle.srt_mailbox.proofs.spares.Spent.TheSendSync as spent_is

pub seat_sync : (S V : RattleType) → IsSend S → IsSync (seat.the_row S V)
seat_sync S V s = record { shared = λ d b o ν q. part_keyless (seat.the_row S V) (seat_is.the_send S V s) q d b o }

option_entry : IsSend (option.the_row inbox_entry.the_row)
option_entry = search (sendable, option_is.the_send, inbox_entry_is.the_send) depth 30

abbrev inbox_queue : RattleType
inbox_queue =
    slotted_c.the_row (option.the_row inbox_entry.the_row) (doing_c.the_row inbox_entry.the_row inbox_view.the_row)
    (turns_c.the_row inbox_rule.the_row) heap_c.the_row
    (turns_impl.ghosts inbox_entry.the_row inbox_view.the_row inbox_rule.the_row inbox_proto.ghosts turns_impl.no_dict) heap_impl.ghosts

inbox_queue_send : IsSend inbox_queue
inbox_queue_send =
    slotted.the_send _ _ _ _
    (turns_impl.ghosts inbox_entry.the_row inbox_view.the_row inbox_rule.the_row inbox_proto.ghosts turns_impl.no_dict) heap_impl.ghosts
    option_entry heap.send heap.frees

inbox_queue_sync : IsSync inbox_queue
inbox_queue_sync =
    slotted.the_sync _ _ _ _
    (turns_impl.ghosts inbox_entry.the_row inbox_view.the_row inbox_rule.the_row inbox_proto.ghosts turns_impl.no_dict) heap_impl.ghosts
    option_entry heap.send heap.sync heap.frees

ingress_in_sync : IsSync ingress_in.the_row
ingress_in_sync =
    recorded_sync (ingress_in.the_field).row _ _ ingress_in.the_type.to_one
    (struct_sync (shape ingress_in.the_type)
    (heap.Arc-sync inbox_queue inbox_queue_send inbox_queue_sync, (seat_sync _ _ option_entry, (search sendable, tt))))

-- threads may share the poller's end of an inbox
pub ingress_sync : IsSync ingress.the_row
ingress_sync = view_sync _ _ _ _ _ ingress_in_sync

clock_in_sync : IsSync clock_in.the_row
clock_in_sync =
    recorded_sync (clock_in.the_field).row _ _ clock_in.the_type.to_one
    (struct_sync (shape clock_in.the_type)
    (heap.Arc-sync inbox_queue inbox_queue_send inbox_queue_sync, (seat_sync _ _ option_entry, (search sendable, tt))))

-- threads may share the clock's end of an inbox
pub clock_sync : IsSync clock.the_row
clock_sync = view_sync _ _ _ _ _ clock_in_sync

receiver_in_sync : IsSync receiver_in.the_row
receiver_in_sync =
    recorded_sync (receiver_in.the_field).row _ _ receiver_in.the_type.to_one
    (struct_sync (shape receiver_in.the_type)
    (heap.Arc-sync inbox_queue inbox_queue_send inbox_queue_sync, (seat_sync _ _ option_entry, tt)))

receiver_sync : IsSync receiver.the_row
receiver_sync = view_sync _ _ _ _ _ receiver_in_sync

option_parcel : IsSend (option.the_row parcel.the_row)
option_parcel = option_is.the_send _ parcel_is.the_send

abbrev outbox_queue : RattleType
outbox_queue =
    slotted_c.the_row (option.the_row parcel.the_row) (doing_c.the_row parcel.the_row outbox_view.the_row)
    (turns_c.the_row outbox_rule.the_row) heap_c.the_row
    (turns_impl.ghosts parcel.the_row outbox_view.the_row outbox_rule.the_row outbox_proto.ghosts turns_impl.no_dict) heap_impl.ghosts

outbox_queue_send : IsSend outbox_queue
outbox_queue_send =
    slotted.the_send _ _ _ _
    (turns_impl.ghosts parcel.the_row outbox_view.the_row outbox_rule.the_row outbox_proto.ghosts turns_impl.no_dict) heap_impl.ghosts
    option_parcel heap.send heap.frees

outbox_queue_sync : IsSync outbox_queue
outbox_queue_sync =
    slotted.the_sync _ _ _ _
    (turns_impl.ghosts parcel.the_row outbox_view.the_row outbox_rule.the_row outbox_proto.ghosts turns_impl.no_dict) heap_impl.ghosts
    option_parcel heap.send heap.sync heap.frees

snapshot_send : (Y : RattleType) → IsSend (snapshot.the_row Y)
snapshot_send Y = record { owned = λ d vs. ((λ vss. (tt, ((λ uss. (tt, tt)), tt))), tt); leaving = λ k f vs. tt }

snapshot_sync : (Y : RattleType) → IsSync (snapshot.the_row Y)
snapshot_sync Y = record { shared = λ d b o κ q. part_keyless (snapshot.the_row Y) (snapshot_send Y) q d b o }

drain_in_sync : IsSync drain_in.the_row
drain_in_sync =
    recorded_sync (drain_in.the_field).row _ _ drain_in.the_type.to_one
    (struct_sync (shape drain_in.the_type) (
      heap.Arc-sync outbox_queue outbox_queue_send outbox_queue_sync,
      (
        seat_sync _ _ option_parcel,
        (
          spent_is.the_field_sync,
          (
            heap.Box-sync _ reply_is.the_sync,
            (search (sendable, heap.crosses, option_is.the_field_sync) depth 30, tt),
          ),
        ),
      ),
    ))

-- threads may share the end of an outbox from which replies are drained
pub drain_sync : IsSync drain.the_row
drain_sync = view_sync _ _ _ _ _ drain_in_sync

sender_in_sync : IsSync sender_in.the_row
sender_in_sync =
    recorded_sync (sender_in.the_field).row _ _ sender_in.the_type.to_one
    (struct_sync (shape sender_in.the_type)
    (heap.Arc-sync outbox_queue outbox_queue_send outbox_queue_sync, (seat_sync _ _ option_parcel, tt)))

sender_sync : IsSync sender.the_row
sender_sync = view_sync _ _ _ _ _ sender_in_sync

running_in_send : IsSend running_in.the_row
running_in_send =
    recorded_send (running_in.the_field).row _ _ running_in.the_type.to_one
    (struct_send (shape running_in.the_type) (
      receiver_is.the_send,
      (
        sender_is.the_send,
        (
          boxes_is.the_field_send,
          (
            option_is.the_field_send _ (heap.Box-send _ reply_is.the_send),
            (
              search (sendable, heap.crosses, option_is.the_field_send) depth 30,
              (
                search sendable,
                (
                  search sendable,
                  (
                    refusals_is.the_send,
                    (
                      search sendable,
                      (search sendable, (route_is.the_field_send, (snapshot_send entry.the_row, (snapshot_send builtin.usize, tt)))),
                    ),
                  ),
                ),
              ),
            ),
          ),
        ),
      ),
    ))

running_send : IsSend running.the_row
running_send = view_send _ _ _ _ _ running_in_send

running_in_sync : IsSync running_in.the_row
running_in_sync =
    recorded_sync (running_in.the_field).row _ _ running_in.the_type.to_one
    (struct_sync (shape running_in.the_type) (
      receiver_sync,
      (
        sender_sync,
        (
          boxes_is.the_field_sync,
          (
            option_is.the_field_sync _ (heap.Box-sync _ reply_is.the_sync),
            (
              search (sendable, heap.crosses, option_is.the_field_sync) depth 30,
              (
                search sendable,
                (
                  search sendable,
                  (
                    refusals_is.the_sync,
                    (
                      search sendable,
                      (search sendable, (route_is.the_field_sync, (snapshot_sync entry.the_row, (snapshot_sync builtin.usize, tt)))),
                    ),
                  ),
                ),
              ),
            ),
          ),
        ),
      ),
    ))

running_sync : IsSync running.the_row
running_sync = view_sync _ _ _ _ _ running_in_sync

boxed_send : IsSend boxed_route.the_row
boxed_send =
    recorded_send (boxed_route.the_field).row _ _ boxed_route.the_type.to_one
    (struct_send (shape boxed_route.the_type) (heap.Box-send running.the_row running_send, tt))

boxed_sync : IsSync boxed_route.the_row
boxed_sync =
    recorded_sync (boxed_route.the_field).row _ _ boxed_route.the_type.to_one
    (struct_sync (shape boxed_route.the_type) (heap.Box-sync running.the_row running_sync, tt))

-- the fields of a cell, for a struct that contains one
pub cell_fields_send : IsSend (cell.the_field).row
cell_fields_send =
    struct_send (shape cell.the_type) (
      search sendable,
      (
        counted.the_send (option.the_row boxed_route.the_row) label.the_row
            (option_fits.ghosts boxed_route.the_row label.the_row boxed_fits.ghosts option_fits.no_dict)
            (option_is.the_send boxed_route.the_row boxed_send),
        (search sendable, tt),
      ),
    )

pub cell_fields_sync : IsSync (cell.the_field).row
cell_fields_sync =
    struct_sync (shape cell.the_type) (
      search sendable,
      (
        counted.the_sync (option.the_row boxed_route.the_row) label.the_row
            (option_fits.ghosts boxed_route.the_row label.the_row boxed_fits.ghosts option_fits.no_dict)
            (option_is.the_send boxed_route.the_row boxed_send) (option_is.the_sync boxed_route.the_row boxed_sync),
        (search sendable, tt),
      ),
    )

-- a route's cell may be moved to another thread
pub cell_send : IsSend cell.the_row
cell_send = recorded_send (cell.the_field).row _ _ cell.the_type.to_one cell_fields_send

-- threads may share a route's cell
pub cell_sync : IsSync cell.the_row
cell_sync = recorded_sync (cell.the_field).row _ _ cell.the_type.to_one cell_fields_sync
