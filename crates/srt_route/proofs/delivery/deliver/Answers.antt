use Rattle.std.proofs.Common.{List, ◌∙◌, sym, subst}
use Rattle.srt_route.specs.Sessions.{Session}
use Rattle.srt_route.specs.Tables.{IsTable, Uses}
use Rattle.srt_route.specs.Route.{least_room}
use Rattle.srt_route.specs.inside.Delivery.{passed_on}
use Rattle.srt_route.proofs.steps.Passing.{publisher_passed}
use Rattle.srt_route.proofs.steps.Delivered.{nothing_delivered, delivered_is}
use Rattle.srt_route.proofs.delivery.deliver.Goals as goal

pub returns-in_default : goal.returns-in_default
returns-in_default c e index ss body =
    subst (λ (ts : List Session). IsTable e index c.args.clock c.args.table.now ts)
    (sym (nothing_delivered e index c.args.clock c.args.table.now ss body (c.active_buffers.ensures.none c.in_default.is e index c.args.clock ss body))) body

pub returns : goal.returns
returns c e index ss body =
    let h = c.active_buffers.ensures.some c.in-Some.active c.in-Some.is e index c.args.clock ss body in
    let room = c.room_of_all-room.ensures e index c.args.clock ss body in
    let fed = c.deliver_each.ensures.table e index ss h.at h.session h.past (record { body = body; here = h.here; uses = h.uses }) room in
    let still : Uses c.deliver_each.new.table h.at c.in-Some.active = λ d. h.uses d ∙ sym (c.deliver_each.ensures.stays h.at d) in
    let there = publisher_passed e c.args.clock ss h.at h.session h.past (least_room e ss) h.here in
    subst (λ (ts : List Session). IsTable e index c.args.clock c.deliver_standby.new.table ts)
    (delivered_is e index c.args.clock c.args.table.now ss h.at h.session h.past body h.here h.active_is)
    (c.deliver_standby.ensures e index (passed_on e c.args.clock h.at (least_room e ss) h.session h.past ss) h.at _ _
    (record { body = fed; here = there; uses = still }))
