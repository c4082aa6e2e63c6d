use Rattle.std.proofs.Common.{refl}
use Rattle.srt_hub.specs.World.{Turns, Turn, turn, world_after}
use Rattle.srt_hub.proofs.Happens.{event_happens, answer_is, turn_here, turn_elsewhere}
use Rattle.srt_hub.proofs.hubs.Hub.turn.Goals as goal

pub returns-clause-stands : goal.returns-clause-stands
returns-clause-stands g c secret entries events h =
    let class = g.L.Lobby.class secret in
    let w = world_after class g.R.RouteStep.reply entries events in
    record {
      lobby_knows = h.lobby_knows;
      lanes_are =
          event_happens _ class g.R.RouteStep.reply w c.args.self.now.lanes.items (Turns c.args.r) c.args.r c.index_mut.result.now _ Turn
          c.requires c.index_mut.ensures.value refl (turn_here class w c.args.r) (turn_elsewhere class w c.args.r) c.turn.ensures.stands h.lanes_are;
    }

pub returns-clause-answer : goal.returns-clause-answer
returns-clause-answer g c secret entries events h =
    answer_is _ (world_after (g.L.Lobby.class secret) g.R.RouteStep.reply entries events) c.args.self.now.lanes.items c.args.r
    c.index_mut.result.now turn c.turn.result c.requires c.index_mut.ensures.value (λ e i m. c.turn.ensures.answer e i m) h.lanes_are
