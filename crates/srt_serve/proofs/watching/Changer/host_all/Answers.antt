use Rattle.std.proofs.Common.{◌∙◌, ◌+◌, ◌<◌, length, refl, arith}
use Rattle.srt_serve.proofs.Looks.{rest_left, rest_shows, hosted_next}
use Rattle.srt_serve.proofs.Settlings.{some_given}
use Rattle.srt_serve.proofs.watching.Changer.host_all.Goals as goal

pub unreachable-requires : goal.unreachable-requires
unreachable-requires g c =
    let below : c.loop-offset.offset < length c.args.seats.items = omega (arith, c.loop-offset-test.true, c.len-count.ensures, c.args.seats.ok.0) in
    some_given _ _ _ c.loop-offset.seats.rest.ok.0 c.next.ensures.variant c.in_default.is
    (rest_left c.args.seats.items _ c.loop-offset.offset below c.loop-offset.invariant.left)

pub loop-offset-preserved : goal.loop-offset-preserved
loop-offset-preserved g c =
    let before = c.loop-offset.invariant in
    let rest = rest_shows c.args.seats.items c.loop-offset.offset c.in-Some.seat _ (before.left ∙ c.in-Some.ensures.items) in
    record {
      same = before.same;
      left = rest.1;
      hosted =
          hosted_next g.C.RouteHost.hosts g.C.RouteHost.has_route c.args.self.now.places.now c.args.self.now.routes c.args.seats.items c.loop-offset.offset
          (c.args.self.now.routes + c.loop-offset.offset) c.in-Some.seat refl rest.0 c.host_at.ensures before.hosted;
    }

pub returns-clause-hosted : goal.returns-clause-hosted
returns-clause-hosted g c i below =
    c.loop-offset.invariant.hosted i (omega (arith, below, c.loop-offset-test.false, c.len-count.ensures, c.args.seats.ok.0))
