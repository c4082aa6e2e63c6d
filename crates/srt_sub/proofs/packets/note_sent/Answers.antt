use Rattle.std.proofs.Common.{sym, subst}
use Rattle.srt_sendbuf.specs.Stands.{StandsFor}
use Rattle.srt_sub.specs.inside.Turns.{after_next}
use Rattle.srt_sub.specs.declared.session.Phase.{Phase}
use Rattle.srt_sub.proofs.packets.note_sent.Goals as goal

pub returns-in-Lost : goal.returns-in-Lost
returns-in-Lost c width initial r h =
    subst (λ (f : Phase). StandsFor width initial c.note_sent.new.self (after_next f c.args.window r)) (sym c.in-Lost.is)
    (c.note_sent.ensures width initial r h)

pub returns-in-New : goal.returns-in-New
returns-in-New c width initial r h =
    subst (λ (f : Phase). StandsFor width initial c.note_new_sent.new.self (after_next f c.args.window r)) (sym c.in-New.is)
    (c.note_new_sent.ensures width initial r h)
