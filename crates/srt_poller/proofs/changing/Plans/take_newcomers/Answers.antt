use Rattle.std.proofs.Common.{◌∙◌, inr, refl, sym, ap, ◌∷◌, [], length, arith}
use Rattle.std.proofs.lemmas.List.{length-append}
use Rattle.srt_lobby.specs.Names.{names_of, new_name}
use Rattle.srt_poller.specs.Openings.{new_route}
use Rattle.srt_poller.specs.Changes.{plans_in}
use Rattle.srt_poller.proofs.Additions.{added_none, added_more}
use Rattle.srt_poller.proofs.changing.Plans.take_newcomers.Goals as goal

pub loop-init : goal.loop-init
loop-init g c = (
  added_none (g.O.Openings.added c.args.openings.now) (plans_in c.args.self.now) (names_of c.args.names.now) c.args.ends.now.items,
  refl,
  refl,
  c.requires.room,
  refl,
  sym c.len-counter.ensures.count,
)

pub append-requires-clause-few : goal.append-requires-clause-few
append-requires-clause-few g c = omega (arith, c.loop.invariant.5, c.loop-test.true)

pub loop-preserved : goal.loop-preserved
loop-preserved g c = (
  added_more (g.O.Openings.added c.args.openings.now) _ _ (plans_in c.args.self.now) _ _ (names_of c.args.names.now) _ _ c.args.ends.now.items _ _
      (new_route c.in-Some.newcomer) refl c.in-Some.ensures.added c.append.ensures.plans c.append.ensures.names c.append.ensures.ends
      c.loop.invariant.0,
  c.in-Some.ensures.requested ∙ c.loop.invariant.1,
  c.in-Some.ensures.answered ∙ c.loop.invariant.2,
  c.append.ensures.room,
  c.append.ensures.latest ∙ c.loop.invariant.4,
  omega (arith, ap length c.append.ensures.names, length-append (names_of c.loop.names) (new_name c.in-Some.newcomer.name ∷ []), c.loop.invariant.5),
)

pub returns-clause-all : goal.returns-clause-all
returns-clause-all g c = inr (omega (arith, c.loop-test.false, c.loop.invariant.5))
