use Rattle.std.proofs.Common.{◌≡◌, ◌≤◌, None, inl, inr, refl, sym, ◌∙◌, arith}
use Rattle.std.proofs.lemmas.Bool.{or_right}
use Rattle.srt_poller.proofs.Steps.{went_none, replies_then, replies_more, replies_from, none_kept, kept_open}
use Rattle.srt_poller.proofs.poller.Poller.drain_all.Goals as goal

pub loop-route-init : goal.loop-route-init
loop-route-init g c = (
  c.requires,
  omega arith,
  c.new-visits.ensures.next,
  c.new-visits.ensures.all,
  refl,
  λ class schedules t phase source up. (phase, up, rw c.prefetch.ensures (went_none _ _ _ _)),
)

pub returns-then-at-ends-clause-went : goal.returns-then-at-ends-clause-went
returns-then-at-ends-clause-went g c =
    replies_more (omega (arith, c.loop-route.invariant.1, c.loop-route.auto.ends)) (λ same. omega arith)
    (omega (arith, c.loop-route.invariant.1, c.loop-route.auto.ends)) c.loop-route.invariant.5

pub returns-then-is_kept-clause-went : goal.returns-then-is_kept-clause-went
returns-then-is_kept-clause-went g c =
    let later : c.loop-route.route ≤ c.pass-at.result = omega (arith, c.pass-at.ensures.later, c.loop-route.invariant.2) in
    replies_more (omega (arith, c.if-at-ends.false, c.loop-route.auto.ends))
    (λ same. absurd (omega (arith, c.if-at-ends.false, c.loop-route.auto.ends, same)))
    (omega (arith, later, c.if-at-ends.false, c.loop-route.auto.ends))
    (replies_then c.loop-route.invariant.5
    (replies_from later (λ same. omega arith) (rw c.pass-at.ensures.next at c.drain_next-left.ensures.went)))

pub loop-route-preserved : goal.loop-route-preserved
loop-route-preserved g c =
    let later : c.loop-route.route ≤ c.pass-at.result = omega (arith, c.pass-at.ensures.later, c.loop-route.invariant.2) in
    let none : c.drain_next-left.new.poller.kept ≡ None =
    none_kept _ _ c.drain_next-left.ensures.kept (sym c.is_kept.ensures ∙ c.if-is_kept.false) in (
      none,
      omega (arith, c.if-at-ends.false, c.drain_next-left.auto.ends),
      omega (arith, c.drain_next-left.ensures.next, c.pass-at.ensures.next),
      c.drain_next-left.ensures.same ∙ c.pass-at.ensures.same.0 ∙ c.loop-route.invariant.3,
      c.drain_next-left.ensures.read ∙ c.loop-route.invariant.4,
      replies_more (omega arith) (λ same. absurd (omega (arith, same))) (omega (arith, later))
          (replies_then c.loop-route.invariant.5
          (replies_from later (λ same. omega arith) (rw c.pass-at.ensures.next at c.drain_next-left.ensures.went))),
    )

pub loop-route-preserved-else-is_kept : goal.loop-route-preserved-else-is_kept
loop-route-preserved-else-is_kept g c =
    let later : c.loop-route.route ≤ c.pass-at.result = omega (arith, c.pass-at.ensures.later, c.loop-route.invariant.2) in
    let none : c.drain_next-left.new.poller.kept ≡ None =
    none_kept _ _ c.drain_next-left.ensures.kept (sym c.is_kept.ensures ∙ c.if-is_kept.false) in (
      none,
      omega (arith, c.if-at-ends.false, c.drain_next-left.auto.ends),
      omega (arith, c.drain_next-left.ensures.next, c.pass-at.ensures.next),
      c.drain_next-left.ensures.same ∙ c.pass-at.ensures.same.0 ∙ c.loop-route.invariant.3,
      c.drain_next-left.ensures.read ∙ c.loop-route.invariant.4,
      replies_more (omega arith) (λ same. absurd (omega (arith, same))) (omega (arith, later))
          (replies_then c.loop-route.invariant.5
          (replies_from later (λ same. omega arith) (rw c.pass-at.ensures.next at c.drain_next-left.ensures.went))),
    )

pub returns-clause-went : goal.returns-clause-went
returns-clause-went g c =
    replies_more (omega (arith, c.loop-route.invariant.1, c.loop-route.auto.ends)) (λ same. omega arith)
    (omega (arith, c.loop-route.invariant.1, c.loop-route.auto.ends)) c.loop-route.invariant.5

pub returns-then-at-ends-clause-through : goal.returns-then-at-ends-clause-through
returns-then-at-ends-clause-through g c = inl (omega (arith, c.if-at-ends.true, c.pass-at.ensures.next, c.loop-route.auto.ends))

pub returns-then-is_kept-clause-through : goal.returns-then-is_kept-clause-through
returns-then-is_kept-clause-through g c =
    inr (c.drain_next-left.ensures.open ∙ or_right _ _ (kept_open _ (sym c.is_kept.ensures ∙ c.if-is_kept.true)))

pub returns-clause-through : goal.returns-clause-through
returns-clause-through g c = inl (omega (arith, c.loop-route.invariant.2, c.loop-route-test.false, c.loop-route.auto.ends))
