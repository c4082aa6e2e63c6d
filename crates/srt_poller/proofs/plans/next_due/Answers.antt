use Rattle.std.proofs.Common.{◌≡◌, ◌∙◌, ◌+◌, Bool, Some, List, refl, ap, subst, map, slice_get, get_or, None, arith}
use Rattle.std.specs.Option.{option_map}
use Rattle.std.proofs.lemmas.List.{length-map, take_all}
use Rattle.std.proofs.lemmas.Option.{slice_get-get_or, slice_get-map}
use Rattle.srt_types.specs.declared.shared.Schedule.{Schedule}
use Rattle.srt_poller.specs.declared.plans.Plan.{Plan}
use Rattle.srt_lobby.specs.Names.{names_of}
use Rattle.srt_poller.specs.Plans.{schedule_of}
use Rattle.srt_poller.specs.Beginnings.{RouteRests, RestBetween}
use Rattle.srt_poller.proofs.ShownInRound.{rests_none, rests_more}
use Rattle.srt_poller.proofs.plans.next_due.Goals as goal

abbrev no_plan : Plan
no_plan = record { open_round = 0; close_round = None }

pub loop-plan-init : goal.loop-plan-init
loop-plan-init c = (refl, λ k from until. rests_none k _)

pub loop-plan-preserved : goal.loop-plan-preserved
loop-plan-preserved c =
    let f = schedule_of in
    let plans = c.args.plans.now in
    let item : Plan = get_or plans c.loop-plan.plan-index no_plan in
    let ss : List Schedule = map f plans in
    let s : Schedule = f item in
    let h : slice_get ss c.loop-plan.route ≡ Some s =
    ap (slice_get ss) c.loop-plan.invariant.0 ∙ slice_get-map f plans c.loop-plan.plan-index
    ∙ ap (option_map f) (slice_get-get_or plans c.loop-plan.plan-index no_plan c.loop-plan-test.true) in (
      omega (arith, c.loop-plan.invariant.0),
      λ k from until.
          rests_more k c.loop-plan.route ss s (names_of c.args.names.now) h (length-map plans f ∙ c.requires)
          (c.loop-plan.invariant.1 k from (omega (arith, until, c.min-next.ensures)))
          (subst (λ (b : Bool). RouteRests k s b) c.shows.ensures
          (c.next_of.ensures k (omega (arith, from)) (omega (arith, until, c.min-next.ensures)))),
    )

pub returns : goal.returns
returns c =
    let f = schedule_of in
    let plans = c.args.plans.now in
    subst (λ (ss : List Schedule). RestBetween (c.args.round + 1) c.loop-plan.next ss (names_of c.args.names.now))
    (take_all c.loop-plan.route (map f plans) (omega (arith, length-map plans f, c.loop-plan.invariant.0, c.loop-plan-test.false)))
    c.loop-plan.invariant.1
