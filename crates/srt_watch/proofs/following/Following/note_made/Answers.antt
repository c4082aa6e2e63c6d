use Rattle.srt_watch.specs.ChangeLines.{taken_calls, few_calls}
use Rattle.srt_watch.proofs.Asked.{reloaded}
use Rattle.srt_watch.proofs.Logging.{logged_as, logged_both}
use Rattle.srt_watch.proofs.following.Following.note_made.Goals as goal

pub invariant_of-self : goal.invariant_of-self
invariant_of-self g c = record {
  known = reloaded _ _ _ _ _ c.args.self.now.known c.requires.read
      (record { config_is = c.put_in_force.ensures.config; indexes_are = c.put_in_force.ensures.indexes });
}

pub returns-clause-logged : goal.returns-clause-logged
returns-clause-logged g c =
    logged_both _ _ _ _ _ _ _ _
    (logged_as _ _ _ _ _ _ (λ i. taken_calls c.args.when (c.requires.numbers i) (c.config.ensures i).entries.items c.args.change.wanted c.args.first)
    c.taken.ensures.logged)
    (logged_as _ _ _ _ _ _ (λ i. few_calls c.args.when (c.used-before.ensures i) (c.used.ensures i)) c.few_indexes.ensures.logged)
