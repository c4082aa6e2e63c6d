use Rattle.std.proofs.Common.{sym, ap, ◌∙◌, subst}
use Rattle.srt_watch.specs.Expecting.{AreExpecting}
use Rattle.srt_watch.specs.Placing.{IsRouted}
use Rattle.srt_watch.proofs.prepared_change.PreparedChange.put_in_force.Goals as goal

pub returns-clause-routes : goal.returns-clause-routes
returns-clause-routes c = record {
  middle = c.change.new.self;
  routed =
      subst (λ changes. IsRouted c.args.routes.now c.change.new.self changes c.put.new.self.indexes.items c.args.self.room.opening.items)
      c.as_slice-changes.ensures.value
      (subst (λ indexes. IsRouted c.args.routes.now c.change.new.self c.as_slice-changes.result.now indexes c.args.self.room.opening.items)
      (c.as_slice.ensures.value ∙ sym (ap (λ v. v.items) c.put.ensures.indexes)) c.change.ensures);
  expecting_are = subst (λ expected. AreExpecting c.change.new.self c.expect.new.self expected) c.as_slice-2.ensures.value c.expect.ensures;
}
