use Rattle.std.proofs.Common.{◌≡◌, ◌∙◌, ℕ, suc, ◌+◌, List, [], ◌∷◌, ◌++◌, sym, ap, subst, length, map, take, arith}
use Rattle.std.proofs.lemmas.List.{map-append, length-append, take_all}
use Rattle.std.proofs.Math.Seq.{take-suc}
use Rattle.srt_types.specs.declared.shared.Schedule.{Schedule}
use Rattle.srt_poller.specs.Plans.{schedule_of, AreTimely}
use Rattle.srt_poller.proofs.ShownInRound.{no_schedule}
use Rattle.srt_poller.proofs.Replanning.{timely_more}
use Rattle.srt_poller.proofs.changing.Plans.new.Goals as goal

pub loop-route-preserved : goal.loop-route-preserved
loop-route-preserved c =
    let ss = c.args.schedules.now in
    let i = c.loop-route.route in
    let before = c.loop-route.plans.items in
    let pushed = c.push.ensures.items in
    let count : i + 1 ≡ suc i = omega arith in
    let taken : take (i + 1) ss ≡ take i ss ++ schedule_of c.of.result ∷ [] =
    ap (λ (n : ℕ). take n ss) count ∙ take-suc ss i no_schedule (omega (arith, c.loop-route-test.true, c.len-route-end.ensures.count, c.requires))
    ∙ ap (λ (s : Schedule). take i ss ++ s ∷ []) (sym c.of.ensures.same) in (
      omega (arith, ap length pushed, length-append before (c.of.result ∷ []), c.loop-route.invariant.0),
      ap (map schedule_of) pushed ∙ map-append schedule_of before (c.of.result ∷ [])
          ∙ ap (λ (l : List Schedule). l ++ schedule_of c.of.result ∷ []) c.loop-route.invariant.1 ∙ sym taken,
      subst AreTimely (sym taken)
          (timely_more (take i ss) (schedule_of c.of.result) (omega (arith, c.of.ensures.limit)) c.loop-route.invariant.2),
    )

pub returns-clause-plans : goal.returns-clause-plans
returns-clause-plans c =
    c.loop-route.invariant.1
    ∙ take_all c.loop-route.route c.args.schedules.now (omega (arith, c.loop-route-test.false, c.len-route-end.ensures.count, c.requires))

pub returns-clause-timely : goal.returns-clause-timely
returns-clause-timely c =
    subst AreTimely
    (take_all c.loop-route.route c.args.schedules.now (omega (arith, c.loop-route-test.false, c.len-route-end.ensures.count, c.requires)))
    c.loop-route.invariant.2
