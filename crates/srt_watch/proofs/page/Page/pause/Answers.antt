use Rattle.srt_watch.proofs.page.Page.pause.Goals as goal

pub returns-clause-shown : goal.returns-clause-shown
returns-clause-shown g c = record { moment = c.moment-moment.result; was_moment = c.moment-moment.ensures.known; shown_is = c.show.ensures.shown }
