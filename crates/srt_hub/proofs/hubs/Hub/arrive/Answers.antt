use Rattle.std.proofs.Common.{◌∙◌, ap, refl, sym, arith, false, true}
use Rattle.std.proofs.lemmas.List.{length-map}
use Rattle.srt_types.specs.Items.{Datagram}
use Rattle.srt_hub.specs.World.{Arrives, arrival_of, name_at, world_after}
use Rattle.srt_hub.specs.Hubs.{room_at}
use Rattle.srt_hub.proofs.Happens.{nothing_happens, answer_nowhere, drop_nowhere, refused_nowhere}
use Rattle.srt_hub.proofs.hubs.Hub.arrive.Goals as goal

pub returns-in-Answer-clause-stands : goal.returns-in-Answer-clause-stands
returns-in-Answer-clause-stands g c secret entries events h =
    let d : Datagram = record { peer = c.args.peer; bytes = c.args.bytes.now } in
    let class = g.L.Lobby.class secret in
    let w = world_after class g.R.RouteStep.reply entries events in
    let is = sym (c.classify.ensures.class secret _ h.lobby_knows) ∙ c.in-Answer.is in
    record {
      lobby_knows = h.lobby_knows;
      lanes_are = nothing_happens _ class g.R.RouteStep.reply w _ (Arrives d c.args.moment false) refl
          (λ k. answer_nowhere class w d c.args.moment false _ k is) h.lanes_are;
    }

pub returns-in-Answer-clause-answer : goal.returns-in-Answer-clause-answer
returns-in-Answer-clause-answer g c secret entries events h =
    let is = sym (c.classify.ensures.class secret _ h.lobby_knows) ∙ c.in-Answer.is in
    sym (ap (arrival_of false (room_at (g.L.Lobby.class secret) g.R.RouteStep.reply entries events)) is)

pub returns-in-Dropped-clause-stands : goal.returns-in-Dropped-clause-stands
returns-in-Dropped-clause-stands g c secret entries events h =
    let d : Datagram = record { peer = c.args.peer; bytes = c.args.bytes.now } in
    let class = g.L.Lobby.class secret in
    let w = world_after class g.R.RouteStep.reply entries events in
    let is = sym (c.classify.ensures.class secret _ h.lobby_knows) ∙ c.in-Dropped.is in
    record {
      lobby_knows = h.lobby_knows;
      lanes_are = nothing_happens _ class g.R.RouteStep.reply w _ (Arrives d c.args.moment false) refl
          (λ k. drop_nowhere class w d c.args.moment false _ k is) h.lanes_are;
    }

pub returns-in-Dropped-clause-answer : goal.returns-in-Dropped-clause-answer
returns-in-Dropped-clause-answer g c secret entries events h =
    let is = sym (c.classify.ensures.class secret _ h.lobby_knows) ∙ c.in-Dropped.is in
    sym (ap (arrival_of false (room_at (g.L.Lobby.class secret) g.R.RouteStep.reply entries events)) is)

pub returns-in_default-clause-stands : goal.returns-in_default-clause-stands
returns-in_default-clause-stands g c secret entries events h =
    let d : Datagram = record { peer = c.args.peer; bytes = c.args.bytes.now } in
    let class = g.L.Lobby.class secret in
    let w = world_after class g.R.RouteStep.reply entries events in
    let is = sym (c.classify.ensures.class secret _ h.lobby_knows) ∙ c.in-Route.is in
    record {
      lobby_knows = h.lobby_knows;
      lanes_are = nothing_happens _ class g.R.RouteStep.reply w _ (Arrives d c.args.moment true) refl
          (λ k. refused_nowhere class w d c.args.moment _ k is) h.lanes_are;
    }

pub returns-in_default-clause-answer : goal.returns-in_default-clause-answer
returns-in_default-clause-answer g c secret entries events h =
    let is = sym (c.classify.ensures.class secret _ h.lobby_knows) ∙ c.in-Route.is in
    sym (ap (arrival_of true (room_at (g.L.Lobby.class secret) g.R.RouteStep.reply entries events)) is)

pub returns-then-r-len-clause-stands : goal.returns-then-r-len-clause-stands
returns-then-r-len-clause-stands g c secret entries events h =
    let is = sym (c.classify.ensures.class secret _ h.lobby_knows) ∙ c.in-Route.is in
    let named = g.met.L.Lobby.named secret _ _ c.args.moment c.in-Route.r is in
    absurd (omega (arith, named, length-map (world_after (g.L.Lobby.class secret) g.R.RouteStep.reply entries events).places name_at, h.lanes_are.as_many))

pub returns-then-r-len-clause-answer : goal.returns-then-r-len-clause-answer
returns-then-r-len-clause-answer g c secret entries events h =
    let is = sym (c.classify.ensures.class secret _ h.lobby_knows) ∙ c.in-Route.is in
    let named = g.met.L.Lobby.named secret _ _ c.args.moment c.in-Route.r is in
    absurd (omega (arith, named, length-map (world_after (g.L.Lobby.class secret) g.R.RouteStep.reply entries events).places name_at, h.lanes_are.as_many))
