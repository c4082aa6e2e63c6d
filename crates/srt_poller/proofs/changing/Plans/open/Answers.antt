use Rattle.std.proofs.Common.{◌≡◌, ◌∙◌, inl, inr, suc, ◌+◌, true, false, Some, List, refl, sym, ap, map, slice_get, arith}
use Rattle.std.proofs.lemmas.List.{length-map}
use Rattle.std.proofs.lemmas.Option.{slice_get-map}
use Rattle.std.specs.Option.{option_map}
use Rattle.srt_lobby.specs.Names.{names_of}
use Rattle.srt_poller.specs.declared.plans.Plan.{Plan}
use Rattle.srt_poller.specs.Plans.{schedule_of, with_open_round, never}
use Rattle.srt_poller.specs.Changes.{plans_in}
use Rattle.srt_poller.proofs.Replanning.{looked_none, looked_all, looked_known, looked_opens, looked_rests, updated_plan}
use Rattle.srt_poller.proofs.changing.Plans.open.Goals.{then-may_open+then-is_unused, then-may_open+else-is_unused, else-may_open}
use Rattle.srt_poller.proofs.changing.Plans.open.Goals as goal

pub loop-route-init : goal.loop-route-init
loop-route-init c = (looked_none c.args.round (plans_in c.args.self.now) (names_of c.args.names.now), refl)

pub plan-plan-requires : goal.plan-plan-requires
plan-plan-requires c =
    omega (arith, c.loop-route-test.true, c.len-route-end.ensures.value, c.loop-route.invariant.0.as_many, length-map c.args.self.now.plans.items schedule_of)

pub show-requires-clause-index : goal.show-requires-clause-index
show-requires-clause-index c =
    omega (
      arith,
      looked_known c.requires.known c.loop-route.invariant.0,
      c.loop-route-test.true,
      c.len-route-end.ensures.value,
      c.loop-route.invariant.0.as_many,
      length-map c.args.self.now.plans.items schedule_of,
    )

pub loop-route-preserved : goal.loop-route-preserved
loop-route-preserved c =
    let k = c.args.round in
    let i = c.loop-route.route in
    let ps = plans_in c.args.self.now in
    let ns = names_of c.args.names.now in
    let items = c.loop-route.self.plans.items in
    let p = c.plan-plan.result in
    let at : slice_get (plans_in c.loop-route.self) i ≡ Some (schedule_of p) =
    slice_get-map schedule_of items i ∙ ap (option_map schedule_of) c.plan-plan.ensures in
    let count : i + 1 ≡ suc i = omega arith in
    elim c.if-may_open.branch [
      | then-may_open+then-is_unused w ↦ (
        rw (count, w.self-is, w.names-is) (looked_opens k i ps (plans_in c.loop-route.self) (plans_in w.set.new.self) ns (names_of c.loop-route.names)
            (names_of w.show.new.self) (schedule_of p) c.requires.fits c.requires.known c.loop-route.invariant.0 at
            (sym c.may_open.ensures ∙ w.if-may_open.true)
            (inl (
              ap (λ (l : List Plan). map schedule_of l) w.set.ensures.plans
                  ∙ updated_plan (with_open_round k) items i p (record { open_round = k; close_round = p.close_round }) c.plan-plan.ensures refl,
              w.show.ensures,
            ))),
        rw w.self-is (w.set.ensures.latest ∙ c.loop-route.invariant.1),
      )
      | then-may_open+else-is_unused w ↦ (
        rw (count, w.self-is, w.names-is) (looked_opens k i ps (plans_in c.loop-route.self) (plans_in w.set-else-is_unused.new.self) ns
            (names_of c.loop-route.names) (names_of c.loop-route.names) (schedule_of p) c.requires.fits c.requires.known c.loop-route.invariant.0 at
            (sym c.may_open.ensures ∙ w.if-may_open.true)
            (inr (
              λ unused. let bad : false ≡ true = sym w.if-is_unused.false ∙ w.is_unused.ensures.1 unused in cc,
              ap (λ (l : List Plan). map schedule_of l) w.set-else-is_unused.ensures.plans
                  ∙ updated_plan (with_open_round never) items i p (record { open_round = never; close_round = p.close_round }) c.plan-plan.ensures refl,
              refl,
            ))),
        rw w.self-is (w.set-else-is_unused.ensures.latest ∙ c.loop-route.invariant.1),
      )
      | else-may_open w ↦ (
        rw (count, w.self-is, w.names-is) (looked_rests k i ps (plans_in c.loop-route.self) ns (names_of c.loop-route.names) (schedule_of p)
            c.requires.known c.loop-route.invariant.0 at (sym c.may_open.ensures ∙ w.if-may_open.false)),
        rw w.self-is c.loop-route.invariant.1,
      )
    ]

pub returns-clause-opens : goal.returns-clause-opens
returns-clause-opens c =
    looked_all c.args.round c.loop-route.route (plans_in c.args.self.now) (plans_in c.loop-route.self) (names_of c.args.names.now)
    (names_of c.loop-route.names)
    (omega (arith, c.loop-route-test.false, c.len-route-end.ensures.value, length-map c.args.self.now.plans.items schedule_of)) c.loop-route.invariant.0
