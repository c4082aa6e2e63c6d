use Rattle.std.proofs.Common.{◌∙◌, ap, Bool, cond, refl}
use Rattle.srt_hub.specs.declared.answers.Ticked.TheVariants.{Accepted, Full}
use Rattle.srt_types.specs.Items.{Tick}
use Rattle.srt_hub.specs.World.{Ticks, Offers, has_room, world_after}
use Rattle.srt_hub.proofs.Happens.{event_happens, answer_is, tick_here, tick_elsewhere}
use Rattle.srt_hub.proofs.hubs.Hub.tick.Goals as goal

pub returns-clause-stands : goal.returns-clause-stands
returns-clause-stands g c secret entries events h =
    let class = g.L.Lobby.class secret in
    let w = world_after class g.R.RouteStep.reply entries events in
    record {
      lobby_knows = h.lobby_knows;
      lanes_are = event_happens _ class g.R.RouteStep.reply w c.args.self.now.lanes.items (Ticks c.args.r c.args.moment) c.args.r
          c.index_mut.result.now _ (Offers (Tick c.args.moment)) c.requires.route c.index_mut.ensures.value refl
          (tick_here class w c.args.r c.args.moment) (tick_elsewhere class w c.args.r c.args.moment) c.offer.ensures.stands h.lanes_are;
    }

pub returns-clause-answer : goal.returns-clause-answer
returns-clause-answer g c secret entries events h =
    c.ticked.ensures
    ∙ ap (λ (b : Bool). cond b Accepted Full)
    (answer_is _ (world_after (g.L.Lobby.class secret) g.R.RouteStep.reply entries events) c.args.self.now.lanes.items c.args.r
    c.index_mut.result.now has_room c.offer.result c.requires.route c.index_mut.ensures.value (λ e i m. c.offer.ensures.answer e i m)
    h.lanes_are)
