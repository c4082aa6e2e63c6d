use Rattle.std.proofs.Common.{◌≡◌, ◌∙◌, refl, ap, subst}
use Rattle.std.specs.Prelude.{get_or}
use Rattle.srt_route.specs.PublisherBuffers.{place_of}
use Rattle.srt_route.specs.Viewing.{TellsTraffic, latency_in}
use Rattle.srt_route.proofs.steps.Views.{one_seen}
use Rattle.srt_route.proofs.table.Table.look_by.Goals as goal

pub returns-in-Some : goal.returns-in-Some
returns-in-Some c d =
    let table = c.args.self.now in
    let t = c.in-Some.session in
    let p = c.index.result.now in
    one_seen c.args.active table.publishers.items table.seats.items c.args.slot c.index-seat.result.now d p t _ table.two c.requires c.index-seat.ensures
    c.in-Some.is
    (subst (λ n. p ≡ get_or table.publishers.items n p) (c.place.ensures.value ∙ ap place_of c.buffers.ensures) c.index.ensures)
    (record {
      peer_is = refl;
      caller_is = refl;
      id_is = refl;
      role_is = c.role-role.ensures;
      active_is = c.is_active_by.ensures;
      draining_is = c.drains.ensures;
      opened_is = refl;
      heard_is = refl;
      latency_is = c.latency_in.ensures ∙ ap (λ r. latency_in r t.answer) c.role-role.ensures;
      keys_is = refl;
      traffic_is = subst (λ r. TellsTraffic r p c.index-seat.result.now.subscriber c.traffic_of.result) c.role-role.ensures c.traffic_of.ensures;
    })
