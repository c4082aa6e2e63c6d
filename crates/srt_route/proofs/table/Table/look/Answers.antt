use Rattle.std.proofs.Common.{◌<◌, Option, length, get_or, subst, arith}
use Rattle.srt_route.specs.inside.Notes.{SeesSeat}
use Rattle.srt_route.specs.declared.publisher_buffers.PublisherBuffers.{PublisherBuffers}
use Rattle.srt_route.proofs.stored.Stored.{some_item}
use Rattle.srt_route.proofs.steps.Views.{none_past, slot_shown}
use Rattle.srt_route.proofs.table.Table.look.Goals as goal

pub returns-then-slot-len : goal.returns-then-slot-len
returns-then-slot-len c e index clock ss is =
    none_past e index clock c.args.self.now ss c.args.slot is (omega (arith, c.if-slot-len.true, c.len.ensures))

pub returns : goal.returns
returns c e index clock ss is =
    let table = c.args.self.now in
    let below : c.args.slot < length table.seats.items = omega (arith, c.if-slot-len.false, c.len.ensures) in
    let d = some_item table.seats.items c.args.slot below in
    slot_shown e index clock table ss c.args.slot d c.look_by.result is below
    (subst (λ (o : Option PublisherBuffers). SeesSeat o table.publishers.items (get_or table.seats.items c.args.slot d) c.look_by.result)
    c.active_buffers.ensures.value (c.look_by.ensures d))
