use Rattle.srt_lobby.proofs.Kept.{own, inside, is_for_shown, header}
use Rattle.srt_lobby.proofs.laws.routes.Goals as goal

pub returns-clause-own : goal.returns-clause-own
returns-clause-own c = own

pub returns-clause-named : goal.returns-clause-named
returns-clause-named c = inside

pub returns-clause-shown : goal.returns-clause-shown
returns-clause-shown c = is_for_shown

pub returns-clause-header : goal.returns-clause-header
returns-clause-header c = header
