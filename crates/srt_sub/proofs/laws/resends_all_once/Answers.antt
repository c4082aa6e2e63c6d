use Rattle.srt_sub.proofs.laws.resends_all_once.Goals as goal

pub returns : goal.returns
returns c terms initial opening caller last m h is = h.history_is.once is
