use Rattle.std.proofs.Common.{◌≡◌, drop}
use Rattle.std.specs.Vec.Iter.{into_iter_items}
use Rattle.srt_serve.specs.inside.Changing.{IsHostedAt}
use Rattle.srt_serve.specs.inside.UpTo.{UpTo}
use Rattle.srt_serve.proofs.watching.Changer.host_all.Given as goal

abbrev pub invariant-loop-offset : goal.invariant-loop-offset
invariant-loop-offset g l = record {
  same : l.self ≡ l.fn.self;
  left : drop l.offset l.fn.seats.items ≡ into_iter_items l.seats;
  hosted : UpTo (IsHostedAt g.C.RouteHost.hosts g.C.RouteHost.has_route l.fn.self.places.now l.fn.self.routes l.fn.seats.items) l.offset;
}
