use Rattle.std.proofs.lemmas.Bool.{ne_eqb}
use Rattle.srt_log.proofs.Puts.{followed}
use Rattle.srt_log.proofs.writing.put_name.Goals as goal

pub returns-else-name-eq0 : goal.returns-else-name-eq0
returns-else-name-eq0 c =
    rw (ne_eqb _ 0 c.if-name-eq0.false)
    (followed _ _ _ _ _ (followed _ _ _ _ _ c.put-else-name-eq0.ensures c.put_escaped.ensures) c.put-else-name-eq0-2.ensures)
