use Rattle.srt_watch.proofs.watcher.Watcher.note_refused.Goals as goal

pub returns-clause-logged : goal.returns-clause-logged
returns-clause-logged g c = rw c.requested_name-name.ensures at c.log_refused.ensures.logged
