use Rattle.std.proofs.Common.{◌≡◌, ◌∙◌, ◌+◌, ◌&&◌, false, Some, None, List, refl, sym, ap, subst, length, map, slice_get, get_or, arith}
use Rattle.std.specs.Option.{option_map}
use Rattle.std.proofs.lemmas.Bool.{and_from, and_left, and_right}
use Rattle.std.proofs.lemmas.List.{length-map, take_all}
use Rattle.std.proofs.lemmas.Option.{slice_get-get_or, slice_get-map}
use Rattle.srt_types.specs.declared.shared.Schedule.{Schedule}
use Rattle.srt_lobby.specs.Names.{RouteName, names_of, is_shown_at}
use Rattle.srt_poller.specs.declared.plans.Plan.{Plan}
use Rattle.srt_poller.specs.Schedules.{offered, is_due}
use Rattle.srt_poller.specs.Beginnings.{all_shown, RestBetween, AreClosed}
use Rattle.srt_poller.specs.Plans.{schedule_of}
use Rattle.srt_poller.proofs.ShownInRound.{closed_none, closed_skip, closed_more, below_both, hidden_stays, texts_closed, as_many}
use Rattle.srt_poller.proofs.Starting.{names_differ}
use Rattle.srt_poller.proofs.changing.Plans.close.Goals.{then-is_over+then-shows, else-is_over}
use Rattle.srt_poller.proofs.changing.Plans.close.Goals.{else-is_over-via-then-is_over+else-shows, else-is_over-via-else-is_over}
use Rattle.srt_poller.proofs.changing.Plans.close.Goals as goal

abbrev no_plan : Plan
no_plan = record { open_round = 0; close_round = None }

pub loop-plan-init : goal.loop-plan-init
loop-plan-init g c = (
  refl,
  closed_none c.args.closes_all c.args.self.now.latest.moment c.args.round (names_of c.args.names.now) c.args.ends.now
      (names_differ c.args.names.now),
  λ k le. refl,
)

pub close_one-requires-clause-known : goal.close_one-requires-clause-known
close_one-requires-clause-known g c =
    below_both (names_of c.loop-plan.names) (names_of c.args.names.now) c.loop-plan.route
    (c.loop-plan.invariant.2 c.loop-plan.route (omega arith))
    (omega (
      arith,
      c.requires.known,
      c.loop-plan.invariant.0,
      c.loop-plan-test.true,
      ap (λ (ps : List Plan). length ps) c.as_slice-plans.ensures.value,
      length-map c.args.self.now.plans.items schedule_of,
    ))

pub loop-plan-preserved : goal.loop-plan-preserved
loop-plan-preserved g c =
    let f = schedule_of in
    let plans = c.as_slice-plans.result.now in
    let item : Plan = get_or plans c.loop-plan.plan-index no_plan in
    let ss : List Schedule = map f plans in
    let s : Schedule = f item in
    let r = c.loop-plan.route in
    let ns = names_of c.args.names.now in
    let now = names_of c.loop-plan.names in
    let h : slice_get ss r ≡ Some s =
    ap (slice_get ss) c.loop-plan.invariant.0 ∙ slice_get-map f plans c.loop-plan.plan-index
    ∙ ap (option_map f) (slice_get-get_or plans c.loop-plan.plan-index no_plan c.loop-plan-test.true) in
    let known : length ss ≡ length ns =
    length-map plans f ∙ ap (λ (ps : List Plan). length ps) c.as_slice-plans.ensures.value ∙ sym (length-map c.args.self.now.plans.items f)
    ∙ c.requires.known in
    let over : is_due c.args.closes_all c.args.round s.close_round ≡ c.is_over.result = sym c.is_over.ensures in
    let here = c.loop-plan.invariant.2 r (omega arith) in
    elim c.if-is_over.branch [
      | then-is_over+then-shows w ↦ (
        omega (arith, c.loop-plan.invariant.0),
        rw (w.names-is, w.ends-is) (closed_more c.args.closes_all c.args.self.now.latest.moment c.args.round r w.close_one.result ss s ns
            now _ _ _ _ h known here
            (and_from _ _ (over ∙ w.if-is_over.true) (sym w.shows.ensures ∙ w.if-shows.true)) c.loop-plan.invariant.1
            w.close_one.ensures.closes),
        λ k le. ap (λ (l : List RouteName). slice_get l k) (ap names_of w.names-is ∙ w.close_one.ensures.closes.0)
            ∙ hidden_stays (offered r w.close_one.result) now k (omega (arith, le)) ∙ c.loop-plan.invariant.2 k (omega (arith, le)),
      )
      | else-is_over w ↦
          let rests : (is_due c.args.closes_all c.args.round s.close_round && is_shown_at now r) ≡ false = elim w.else-is_over.branch [
            | else-is_over-via-then-is_over+else-shows u ↦ and_right _ _ (sym u.shows.ensures ∙ u.if-shows.false)
            | else-is_over-via-else-is_over u ↦ and_left _ _ (over ∙ u.if-is_over.false)
          ] in (
            omega (arith, c.loop-plan.invariant.0),
            rw (w.names-is, w.ends-is)
                (closed_skip c.args.closes_all c.args.self.now.latest.moment c.args.round r ss s ns now _ _ h known here rests
                c.loop-plan.invariant.1),
            λ k le. ap (λ (l : List RouteName). slice_get l k) (ap names_of w.names-is) ∙ c.loop-plan.invariant.2 k (omega (arith, le)),
          )
    ]

pub next_due-self-requires : goal.next_due-self-requires
next_due-self-requires g c =
    ap (λ (ps : List Plan). length ps) c.as_slice-plans.ensures.value
    ∙ sym (length-map c.args.self.now.plans.items schedule_of)
    ∙ c.requires.known
    ∙ as_many (names_of c.args.names.now) (names_of c.loop-plan.names)
    (sym (ap all_shown c.loop-plan.invariant.1.1.names ∙ texts_closed c.loop-plan.invariant.1.0 (names_of c.args.names.now)))

pub returns-clause-closed : goal.returns-clause-closed
returns-clause-closed g c =
    let plans = c.as_slice-plans.result.now in
    let are = λ (ss : List Schedule).
    AreClosed c.args.closes_all c.args.self.now.latest.moment c.args.round ss (names_of c.args.names.now) (names_of c.loop-plan.names) c.args.ends.now
    c.loop-plan.ends in
    subst (λ (ps : List Plan). are (map schedule_of ps)) c.as_slice-plans.ensures.value
    (subst are
    (take_all c.loop-plan.route (map schedule_of plans)
    (omega (arith, length-map plans schedule_of, c.loop-plan.invariant.0, c.loop-plan-test.false)))
    c.loop-plan.invariant.1)

pub returns-clause-rest : goal.returns-clause-rest
returns-clause-rest g c =
    subst (λ (ps : List Plan). RestBetween (c.args.round + 1) c.next_due-self.result (map schedule_of ps) (names_of c.loop-plan.names))
    c.as_slice-plans.ensures.value c.next_due-self.ensures
