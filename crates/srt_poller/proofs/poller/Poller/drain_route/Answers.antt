use Rattle.std.proofs.Common.{arith, refl, sym, ap, ◌∙◌}
use Rattle.srt_mailbox.specs.Ends.{Drained}
use Rattle.srt_poller.proofs.Steps.{went_none, replies_then, replies_more}
use Rattle.srt_poller.proofs.poller.Poller.drain_route.Goals as goal

pub returns-then-not-all-clause-went : goal.returns-then-not-all-clause-went
returns-then-not-all-clause-went g c =
    replies_more {a = c.args.route} {b = 0} {c = c.args.route} {d = 0} {m = 0} (omega arith) (λ same. omega arith) (omega arith)
    (λ class schedules t phase source up. (phase, up, went_none _ _ _ _))

pub loop-init : goal.loop-init
loop-init g c = (c.requires.kept, λ e. omega arith, refl, λ class schedules t phase source up. (phase, up, went_none _ _ _ _))

pub loop-preserved : goal.loop-preserved
loop-preserved g c = (
  c.in-Gone.ensures.kept,
  λ e. omega (arith, c.in-Gone.ensures.taken e, c.loop.invariant.1 e),
  c.in-Gone.ensures.read ∙ c.loop.invariant.2,
  replies_then c.loop.invariant.3 (c.drain_one.ensures.went c.loop.counter (omega arith)),
)

pub returns-in-Empty : goal.returns-in-Empty
returns-in-Empty g c = record {
  went = replies_more (omega arith) (λ same. omega arith) (omega arith)
      (replies_then c.loop.invariant.3 (c.drain_one.ensures.went c.loop.counter (omega arith)));
  kept = c.in-Empty.ensures.kept;
  left = λ e.
      let t = c.in-Empty.ensures.taken e in
      (t.1 ∙ sym (ap (λ (d : Drained). d.queue) t.0), t.2 ∙ sym (ap (λ (d : Drained). d.through) t.0));
  read = c.in-Empty.ensures.read ∙ c.loop.invariant.2;
}

pub returns-in-Kept-clause-went : goal.returns-in-Kept-clause-went
returns-in-Kept-clause-went g c =
    replies_more (omega arith) (λ same. omega arith) (omega arith)
    (replies_then c.loop.invariant.3 (c.drain_one.ensures.went c.loop.counter (omega arith)))

pub returns : goal.returns
returns g c = record {
  went = replies_more (omega arith) (λ same. omega arith) (omega arith) c.loop.invariant.3;
  kept = c.loop.invariant.0;
  left = λ e. omega (arith, c.loop.invariant.1 e, c.loop-test.false);
  read = c.loop.invariant.2;
}

pub returns-in-Kept-clause-read : goal.returns-in-Kept-clause-read
returns-in-Kept-clause-read g c = c.drain_one.ensures.read ∙ c.loop.invariant.2
