use Rattle.std.proofs.Common.{◌∙◌, sym}
use Rattle.std.specs.Prelude.{option_copied}
use Rattle.srt_route.proofs.steps.Draining.{copied_some, gives_is, none_given}
use Rattle.srt_route.proofs.draining.gives_some.Goals as goal

pub returns-in-Some : goal.returns-in-Some
returns-in-Some c e index ss body =
    let clock = c.args.clock in
    c.is_some.ensures
    ∙ (sym (copied_some c.next_due.result)
    ∙ gives_is e index clock c.args.table.now ss c.in-Some.active c.room_of_all-room.result c.place.result c.index.result.now
    (option_copied c.next_due.result) (c.active_buffers.ensures.some c.in-Some.active c.in-Some.is e index clock ss body) body
    (c.room_of_all-room.ensures e index clock ss body) c.place.ensures.value c.index.ensures c.next_due.ensures.payload)

pub returns-in-None : goal.returns-in-None
returns-in-None c e index ss body =
    none_given e index c.args.clock c.args.table.now ss body (c.active_buffers.ensures.none c.in-None.is e index c.args.clock ss body)
