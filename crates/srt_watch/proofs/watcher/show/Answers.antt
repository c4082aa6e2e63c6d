use Rattle.std.proofs.Common.{refl, sym, ap, ◌∙◌, subst}
use Rattle.srt_watch.specs.Observing.{place_in, status_place, with_take_overs, with_ends, changed_if}
use Rattle.srt_watch.specs.Routes.{place_of, route_at}
use Rattle.srt_watch.specs.Turns.{HasTold, Nothing, Told}
use Rattle.srt_watch.proofs.watcher.show.Goals as goal

pub returns-in_default : goal.returns-in_default
returns-in_default g c = record {
  middle = c.observe.new.self;
  pair = c.observe.result;
  observed = c.observe.ensures;
  told = subst (λ x. HasTold c.observe.new.self c.observe.new.self c.args.index (g.W.Write.contents c.args.log.now.out.out)
      (g.W.Write.contents c.args.log.now.out.out) c.args.log.now.pace c.args.log.now.pace c.args.when x) (sym c.in_default.is) (Nothing refl refl refl);
}

pub returns : goal.returns
returns g c = let routes_are = c.count_take_overs.ensures.routes in record {
  middle = c.observe.new.self;
  pair = c.observe.result;
  observed = c.observe.ensures;
  told = subst (λ x. HasTold c.observe.new.self c.count_ends.new.self c.args.index (g.W.Write.contents c.args.log.now.out.out)
      (g.W.Write.contents c.log_pair.new.log.out.out) c.args.log.now.pace c.log_pair.new.log.pace c.args.when x) (sym c.in-Some.is)
      (Told c.in-Some.pair _ (c.as_bytes.ensures.value ∙ c.name_of.ensures) c.log_pair.ensures
      (c.count_ends.ensures.routes ∙ c.count_take_overs.ensures.routes)
      (c.count_ends.ensures.shown
      ∙ (λ i. changed_if (with_ends c.in-Some.pair)
      ((c.count_take_overs.ensures.shown ∙ ap (λ n. changed_if (with_take_overs n) c.observe.new.self.shown.items
      (status_place c.observe.new.self c.args.index)) c.take_overs.ensures) i)
      (place_in (route_at (routes_are i).items (place_of (routes_are i).items c.args.index))))));
}
