use Rattle.std.proofs.Common.{◌≡◌, ◌<◌, Bool, true, false, List, length, sym, ap, subst, ◌∙◌, arith}
use Rattle.std.proofs.lemmas.List.{length-map}
use Rattle.srt_types.specs.Items.{Close}
use Rattle.srt_lobby.specs.Names.{RouteName}
use Rattle.srt_hub.specs.declared.answers.Closing.TheVariants as closings
use Rattle.srt_hub.specs.World.{Closes, Offers, offer_if, names_in, name_at, is_shown_in, has_room, closing, closing_of, places_closed, world_after}
use Rattle.srt_hub.proofs.Places.{length-closed}
use Rattle.srt_hub.proofs.Happens.{nothing_happens, lane_happens, answer_is}
use Rattle.srt_hub.proofs.OtherRoutes.{close_here, close_elsewhere}
use Rattle.srt_hub.proofs.Shutting.{shown_by, closed_is, close_nowhere, shown_closing, kept_names, fewer_names}
use Rattle.srt_hub.proofs.hubs.Hub.close_route.Goals as goal

pub returns-then-not-shows-clause-stands : goal.returns-then-not-shows-clause-stands
returns-then-not-shows-clause-stands g c secret entries events h =
    let class = g.L.Lobby.class secret in
    let w = world_after class g.R.RouteStep.reply entries events in
    let shown : is_shown_in w c.args.r ≡ false =
    shown_by w c.args.r c.shows.result false (c.shows.ensures secret (names_in w) h.lobby_knows) c.if-not-shows.true in
    let closed : closing w c.args.r ≡ closings.Closed = closed_is w c.args.r shown in
    record {
      lobby_knows = subst (λ (ns : List RouteName). g.L.Lobby.knows c.args.self.now.lobby secret ns)
          (sym (kept_names w c.args.r c.args.moment closed)) h.lobby_knows;
      lanes_are = nothing_happens _ class g.R.RouteStep.reply w _ (Closes c.args.r c.args.moment)
          (ap (places_closed c.args.r w.places) closed) (close_nowhere class w c.args.r c.args.moment shown) h.lanes_are;
    }

pub returns-then-not-shows-clause-answer : goal.returns-then-not-shows-clause-answer
returns-then-not-shows-clause-answer g c secret entries events h =
    let w = world_after (g.L.Lobby.class secret) g.R.RouteStep.reply entries events in
    sym (closed_is w c.args.r (shown_by w c.args.r c.shows.result false (c.shows.ensures secret (names_in w) h.lobby_knows) c.if-not-shows.true))

pub returns-then-not-offer-clause-answer : goal.returns-then-not-offer-clause-answer
returns-then-not-offer-clause-answer g c secret entries events h =
    let w = world_after (g.L.Lobby.class secret) g.R.RouteStep.reply entries events in
    let shown : is_shown_in w c.args.r ≡ true =
    shown_by w c.args.r c.shows.result true (c.shows.ensures secret (names_in w) h.lobby_knows) c.if-not-shows.false in
    let took = answer_is _ w c.args.self.now.lanes.items c.args.r c.index_mut.result.now has_room c.offer.result c.requires.route
    c.index_mut.ensures.value (λ e i m. c.offer.ensures.answer e i m) h.lanes_are in
    sym (shown_closing w c.args.r c.offer.result shown took ∙ ap (closing_of true) c.if-not-offer.true)

pub returns-clause-stands : goal.returns-clause-stands
returns-clause-stands g c secret entries events h =
    let class = g.L.Lobby.class secret in
    let w = world_after class g.R.RouteStep.reply entries events in
    let shown : is_shown_in w c.args.r ≡ true =
    shown_by w c.args.r c.shows.result true (c.shows.ensures secret (names_in w) h.lobby_knows) c.if-not-shows.false in
    let took = answer_is _ w c.args.self.now.lanes.items c.args.r c.index_mut.result.now has_room c.offer.result c.requires.route
    c.index_mut.ensures.value (λ e i m. c.offer.ensures.answer e i m) h.lanes_are in
    let accepted : closing w c.args.r ≡ closings.Accepted = shown_closing w c.args.r c.offer.result shown took ∙ ap (closing_of true) c.if-not-offer.false in
    let below : c.args.r < length (names_in w) = omega (arith, c.requires.route, h.lanes_are.as_many, length-map w.places name_at) in
    record {
      lobby_knows = subst (λ (ns : List RouteName). g.L.Lobby.knows c.hide.new.self secret ns)
          (sym (fewer_names w c.args.r c.args.moment accepted)) (c.hide.ensures secret (names_in w) below h.lobby_knows);
      lanes_are = lane_happens _ class g.R.RouteStep.reply w c.args.self.now.lanes.items (Closes c.args.r c.args.moment) c.args.r
          c.index_mut.result.now _ (Offers (Close c.args.moment)) c.requires.route c.index_mut.ensures.value
          (length-closed w.places c.args.r (closing w c.args.r))
          (close_here class w c.args.r c.args.moment ∙ ap (λ (b : Bool). offer_if b (Close c.args.moment)) shown)
          (close_elsewhere class w c.args.r c.args.moment) c.offer.ensures.stands h.lanes_are;
    }

pub returns-clause-answer : goal.returns-clause-answer
returns-clause-answer g c secret entries events h =
    let w = world_after (g.L.Lobby.class secret) g.R.RouteStep.reply entries events in
    let shown : is_shown_in w c.args.r ≡ true =
    shown_by w c.args.r c.shows.result true (c.shows.ensures secret (names_in w) h.lobby_knows) c.if-not-shows.false in
    let took = answer_is _ w c.args.self.now.lanes.items c.args.r c.index_mut.result.now has_room c.offer.result c.requires.route
    c.index_mut.ensures.value (λ e i m. c.offer.ensures.answer e i m) h.lanes_are in
    sym (shown_closing w c.args.r c.offer.result shown took ∙ ap (closing_of true) c.if-not-offer.false)
