use Rattle.srt_mailbox.proofs.cells.RouteCellServe.show.Goals as goal

pub returns-clause-shown : goal.returns-clause-shown
returns-clause-shown g c =
    let s = c.in-Ok.ensures.shown in
    (s.1.0, s.1.1, (c.in-Ok.field-0.was, s.0, s.1.2), s.1.3)
