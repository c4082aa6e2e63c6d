use Rattle.std.proofs.Common.{refl, sym, ap, ◌∙◌, Ok, Err}
use Rattle.srt_supervision.specs.Changes.{with_asked}
use Rattle.srt_watch.specs.Following.{Renamed, Asked}
use Rattle.srt_watch.specs.Indexes.{changes_nothing}
use Rattle.srt_watch.specs.Outcomes.{Unchanged, Rejected, Made}
use Rattle.srt_watch.proofs.Asked.{reloaded, closings, openings}
use Rattle.srt_watch.proofs.following.Following.request.Goals as goal

pub returns-then-changes_nothing-clause-requested : goal.returns-then-changes_nothing-clause-requested
returns-then-changes_nothing-clause-requested g c =
    Renamed c.used-first.result (ap changes_nothing (sym c.requires.numbers) ∙ sym c.changes_nothing.ensures ∙ c.if-changes_nothing.true)
    (record { config_is = c.put_in_force.ensures.config; indexes_are = c.put_in_force.ensures.indexes }) refl

pub invariant_of-self : goal.invariant_of-self
invariant_of-self g c = record {
  known = reloaded _ _ _ _ _ c.args.self.now.known c.requires.read
      (record { config_is = c.put_in_force.ensures.config; indexes_are = c.put_in_force.ensures.indexes });
}

pub change-requires-clause-closings : goal.change-requires-clause-closings
change-requires-clause-closings g c =
    closings _ _ _ g.C.ChangeRoutes.requires_of _ c.args.self.now.known c.requires.read c.requires.closes c.requires.closings

pub change-requires-clause-openings : goal.change-requires-clause-openings
change-requires-clause-openings g c =
    openings _ _ _ g.C.ChangeRoutes.requires_of _ c.args.self.now.known c.requires.read c.requires.opens c.requires.openings

pub returns-in-Ok-clause-requested : goal.returns-in-Ok-clause-requested
returns-in-Ok-clause-requested g c =
    Asked (Ok c.in-Ok.first) (ap changes_nothing (sym c.requires.numbers) ∙ sym c.changes_nothing.ensures ∙ c.if-changes_nothing.false)
    (c.in-Ok.ensures.asked ∙ (λ i. with_asked (g.C.ChangeRoutes.asked c.args.run.now)
    (record { closes = c.requires.closes i; opens = c.requires.opens i; outcome = Ok c.in-Ok.first })))
    c.note_made.ensures.taken

pub returns-in-Err-clause-requested : goal.returns-in-Err-clause-requested
returns-in-Err-clause-requested g c =
    Asked (Err c.in-Err.fault) (ap changes_nothing (sym c.requires.numbers) ∙ sym c.changes_nothing.ensures ∙ c.if-changes_nothing.false)
    (c.in-Err.ensures.asked ∙ (λ i. with_asked (g.C.ChangeRoutes.asked c.args.run.now)
    (record { closes = c.requires.closes i; opens = c.requires.opens i; outcome = Err c.in-Err.fault })))
    refl

pub returns-then-changes_nothing-clause-announced : goal.returns-then-changes_nothing-clause-announced
returns-then-changes_nothing-clause-announced g c =
    Unchanged c.used-first.result c.args.requested.change.room.opening.items c.requires.opening
    (ap changes_nothing (sym c.requires.numbers) ∙ sym c.changes_nothing.ensures ∙ c.if-changes_nothing.true)
    (record { config_is = c.put_in_force.ensures.config; indexes_are = c.put_in_force.ensures.indexes }) refl c.put_in_force.ensures.routes refl refl refl

pub returns-in-Ok-clause-announced : goal.returns-in-Ok-clause-announced
returns-in-Ok-clause-announced g c =
    Made c.in-Ok.first c.args.requested.change.room.opening.items c.requires.opening c.note_made.ensures.taken
    (c.in-Ok.ensures.asked ∙ (λ i. with_asked (g.C.ChangeRoutes.asked c.args.run.now)
    (record { closes = c.requires.closes i; opens = c.requires.opens i; outcome = Ok c.in-Ok.first })))
    c.note_made.ensures.routes c.note_made.ensures.logged c.note_made.ensures.counts

pub returns-in-Err-clause-announced : goal.returns-in-Err-clause-announced
returns-in-Err-clause-announced g c =
    Rejected c.in-Err.fault c.args.requested.change.room.opening.items c.requires.opening refl
    (c.in-Err.ensures.asked ∙ (λ i. with_asked (g.C.ChangeRoutes.asked c.args.run.now)
    (record { closes = c.requires.closes i; opens = c.requires.opens i; outcome = Err c.in-Err.fault })))
    refl c.rejected.ensures.logged c.rejected.ensures.counts
