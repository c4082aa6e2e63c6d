use Rattle.std.proofs.Common.{drop, arith}
use Rattle.srt_mailbox.specs.Places.{arrived}
use Rattle.srt_serve.proofs.Settlings.{same_so_far, has_all}
use Rattle.srt_serve.proofs.settling.reached_all.Goals as goal

pub loop-r-preserved : goal.loop-r-preserved
loop-r-preserved g c =
    same_so_far (arrived c.args.routes.now) (arrived c.args.arrivals.now) c.loop-r.r c.agree.ensures
    (omega (arith, c.loop-r-test.true, c.routes-r-end.ensures)) c.loop-r.invariant

pub returns-clause-all : goal.returns-clause-all
returns-clause-all g c = (
  drop c.loop-r.r (arrived c.args.arrivals.now),
  has_all (arrived c.args.routes.now) (arrived c.args.arrivals.now) c.loop-r.r
      (omega (arith, c.loop-r-test.false, c.routes-r-end.ensures))
      (omega (arith, c.loop-r.auto.r-end, c.routes-r-end.ensures, c.if-routes.false, c.routes.ensures, c.routes-2.ensures))
      (omega (arith, c.loop-r-test.false, c.loop-r.auto.r-end, c.routes-r-end.ensures)) c.loop-r.invariant,
)
