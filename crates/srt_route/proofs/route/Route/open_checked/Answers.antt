use Rattle.std.proofs.Common.{sym, subst, arith}
use Rattle.srt_types.specs.Terms.{terms_of}
use Rattle.srt_route.specs.RouteKeys.{RouteKeys}
use Rattle.srt_route.specs.StoredKeys.{AreKeys}
use Rattle.srt_route.specs.Route.{after}
use Rattle.srt_route.proofs.route.Route.open_checked.Goals as goal

pub returns-clause-stands : goal.returns-clause-stands
returns-clause-stands c items rests = record {
  clock_is = sym rests.clock_is;
  stage_is = c.in_ok-table.ensures.rests (after (terms_of c.args.entry.now) c.args.index items) c.args.clock c.requires.early rests;
  room = omega (arith, c.in-Ok.ensures.room);
  closed_is = rests.not_closed;
  keys_are = subst (λ (k : RouteKeys). AreKeys (terms_of c.args.entry.now) c.in-Ok-open-2.keys k) (sym rests.keys_are) c.in-Ok-open-2.ensures;
}
