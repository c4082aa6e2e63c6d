use Rattle.std.proofs.Common.{None, sym, subst}
use Rattle.std.specs.Prelude.{slice_set}
use Rattle.std.specs.Vec.Iter.{into_iter_items}
use Rattle.srt_watch.specs.Placing.{status_by, kept_by, IsKnown, AreKnown}
use Rattle.srt_watch.proofs.GrownRoutes.{known_at, known_without}
use Rattle.srt_watch.proofs.watched_routes.WatchedRoutes.next_status.Goals as goal

pub returns-in-Stays-clause-status : goal.returns-in-Stays-clause-status
returns-in-Stays-clause-status c = λ kept k.
    subst (λ ch. IsKnown (status_by ch kept (into_iter_items c.args.opening.now)) c.taken.result) (sym c.in-Stays.is)
    (known_at kept c.args.self.now.shown.items c.in-Stays.place c.taken.result k c.taken.ensures.status)

pub returns-in-Stays-clause-shown : goal.returns-in-Stays-clause-shown
returns-in-Stays-clause-shown c = λ kept k.
    subst (λ ch. AreKnown (kept_by ch kept) c.taken.new.self.shown.items) (sym c.in-Stays.is)
    (subst (λ l. AreKnown (slice_set kept c.in-Stays.place None) l) (sym c.taken.ensures.shown.1)
    (known_without kept c.args.self.now.shown.items c.in-Stays.place c.taken.ensures.shown.0 k))
