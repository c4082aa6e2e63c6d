use Rattle.std.proofs.Common.{ap, sym, subst}
use Rattle.std.specs.Prelude.{is_some}
use Rattle.srt_recvbuf.specs.Receiving.{Receiving, next_due, after_next}
use Rattle.srt_recvbuf.specs.Stands.{StandsFor}
use Rattle.srt_recvbuf.proofs.Passing.{passed_one}
use Rattle.srt_recvbuf.proofs.buffer.RecvBuf.note_delivered.Goals as goal

pub returns-in-Some-clause-stands : goal.returns-in-Some-clause-stands
returns-in-Some-clause-stands c width initial origin time r t h =
    let k = c.in-Some.ensures.first width initial origin time r t h in
    passed_one width initial origin c.in-Some.at c.move_past.new.self r k.0 (next_due time c.args.room r) k.1 k.2
    (c.move_past.ensures width initial origin r h)

pub returns-in-Some-clause-answer : goal.returns-in-Some-clause-answer
returns-in-Some-clause-answer c width initial origin time r t h =
    let k = c.in-Some.ensures.first width initial origin time r t h in
    sym (ap is_some k.1)

pub returns-in-None-clause-stands : goal.returns-in-None-clause-stands
returns-in-None-clause-stands c width initial origin time r t h =
    let P : Receiving → Type 0 = λ x. StandsFor width initial origin c.args.self.now x in
    subst P (sym (ap (λ o. after_next width o r) (c.in-None.ensures.first width initial origin time r t h))) h

pub returns-in-None-clause-answer : goal.returns-in-None-clause-answer
returns-in-None-clause-answer c width initial origin time r t h = sym (ap is_some (c.in-None.ensures.first width initial origin time r t h))
