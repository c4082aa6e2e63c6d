use Rattle.std.proofs.Common.{◌≡◌, ◌∙◌, inl, length, inr, refl, sym, ap, ℕ, Option, List, [], ◌∷◌, ◌++◌, map, arith}
use Rattle.std.proofs.lemmas.List.{length-append, length-map}
use Rattle.srt_poller.specs.Devices.{joined}
use Rattle.srt_poller.proofs.Joined.{joined_none, joined_twice}
use Rattle.srt_poller.specs.declared.plans.Plan.{Plan}
use Rattle.srt_poller.specs.Plans.{schedule_of, closed_from, update_at}
use Rattle.srt_poller.specs.Changes.{plans_in}
use Rattle.srt_poller.proofs.Additions.{requested_none, requested_one_more}
use Rattle.srt_poller.proofs.Replanning.{updated_plan, many_updated}
use Rattle.srt_poller.proofs.changing.Plans.take_closings.Goals as goal

pub loop-init : goal.loop-init
loop-init g c = (
  requested_none c.args.round (g.O.Openings.requested c.args.openings.now) (plans_in c.args.self.now),
  refl,
  refl,
  refl,
  λ none. none,
  refl,
  ([], sym (joined_none (g.O.Openings.requested c.args.openings.now)), refl),
)

pub loop-preserved : goal.loop-preserved
loop-preserved g c =
    let planned : plans_in c.set.new.self ≡ update_at (closed_from c.args.round) (plans_in c.loop.self) c.in-Some.route =
    ap (λ (ps : List Plan). map schedule_of ps) c.set.ensures.plans
    ∙ updated_plan (closed_from c.args.round) c.loop.self.plans.items c.in-Some.route c.plan.result c.closed_from-plan.result c.plan.ensures
    c.closed_from-plan.ensures in (
      requested_one_more c.args.round (g.O.Openings.requested c.args.openings.now) _ _ (plans_in c.args.self.now) (plans_in c.loop.self) _ c.in-Some.route
          (omega (arith, c.in-Some.ensures.known, c.len.ensures.value, length-map c.loop.self.plans.items schedule_of))
          c.in-Some.ensures.requested
          planned c.loop.invariant.0,
      c.in-Some.ensures.added ∙ c.loop.invariant.1,
      c.set.ensures.latest ∙ c.loop.invariant.2,
      c.in-Some.ensures.answered ∙ c.loop.invariant.3,
      λ none. c.in-Some.ensures.no_more (c.loop.invariant.4 none),
      ap length planned ∙ many_updated (closed_from c.args.round) (plans_in c.loop.self) c.in-Some.route ∙ c.loop.invariant.5,
      (
        c.loop.invariant.6.0 ++ c.in-Some.route ∷ [],
        c.in-Some.ensures.requested ∙ ap (λ (o : Option (List ℕ)). joined o (c.in-Some.route ∷ [])) c.loop.invariant.6.1
            ∙ joined_twice (g.O.Openings.requested c.args.openings.now) c.loop.invariant.6.0 (c.in-Some.route ∷ []),
        omega (arith, length-append c.loop.invariant.6.0 (c.in-Some.route ∷ []), c.loop.invariant.6.2),
      ),
    )

pub returns-clause-all : goal.returns-clause-all
returns-clause-all g c = inr (c.loop.invariant.6.0, c.loop.invariant.6.1, omega (arith, c.loop-test.false, c.loop.invariant.6.2))

pub returns-in_default-clause-all : goal.returns-in_default-clause-all
returns-in_default-clause-all g c =
    let routes : c.len.result ≡ length (plans_in c.args.self.now) =
    c.len.ensures.value ∙ sym (length-map c.loop.self.plans.items schedule_of) ∙ c.loop.invariant.5 in
    inl (rw (sym routes) c.in_default.ensures.all)
