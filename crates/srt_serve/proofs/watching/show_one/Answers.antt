use Rattle.std.proofs.Common.{inr}
use Rattle.srt_serve.proofs.watching.show_one.Goals as goal

pub returns-in-Ok-clause-shown : goal.returns-in-Ok-clause-shown
returns-in-Ok-clause-shown g c =
    let s = c.in-Ok.ensures.shown in
    inr (s.0, s.1, s.2, s.3.2)

pub returns-in-Ok-clause-quiet : goal.returns-in-Ok-clause-quiet
returns-in-Ok-clause-quiet g c quiet =
    let s = c.in-Ok.ensures.shown in
    (s.0, s.1, s.2, (s.3.3 quiet).0, (s.3.3 quiet).1)

pub returns-in-Ok-clause-busy : goal.returns-in-Ok-clause-busy
returns-in-Ok-clause-busy g c busy =
    let s = c.in-Ok.ensures.shown in
    inr (s.0, s.1, s.2, s.3.4 busy)
