use Rattle.std.proofs.Common.{ℕ, List, take, arith, subst, refl, ◌∙◌}
use Rattle.srt_hub.specs.Hubs.{routes_at}
use Rattle.srt_replay.specs.Tape.{lines_of}
use Rattle.srt_replay.specs.Known.{Wrote}
use Rattle.srt_replay.specs.Tries.{sink}
use Rattle.srt_replay.proofs.Numbered.{beyond_at, at_event}
use Rattle.srt_replay.proofs.replaying.answer_next.Goals as goal

pub returns-in-Ok-Beyond-clause-answered : goal.returns-in-Ok-Beyond-clause-answered
returns-in-Ok-Beyond-clause-answered g c secret entries past h =
    let beyond = rw c.in-Ok-Beyond.field-0-is at c.in-Ok-Beyond.ensures.took in (
      refl,
      λ xs e.
          let p = beyond xs e in
          (p.0, p.1, p.2, beyond_at (routes_at (g.L.Lobby.class secret) g.R.RouteStep.reply entries past) c.args.number p.0 p.3),
      refl,
    )

pub returns-in-Ok-None-clause-answered : goal.returns-in-Ok-None-clause-answered
returns-in-Ok-None-clause-answered g c secret entries past h =
    let took = rw c.in-Ok-Line.field-0-is at c.in-Ok-Line.ensures.took in
    let line = take c.in-Ok-Line.len c.next_tape_line.new.line in
    let none = rw c.in-Ok-None.field-0-is at (c.in-Ok-None.ensures.answered secret entries past h) in (
      refl,
      λ xs e.
          let p = took.0 xs e in (
            line,
            lines_of p.0,
            p.2,
            at_event (routes_at (g.L.Lobby.class secret) g.R.RouteStep.reply entries past) c.args.number line took.2 ∙ none,
          ),
      refl,
    )

pub returns-in-Ok-clause-answered : goal.returns-in-Ok-clause-answered
returns-in-Ok-clause-answered g c secret entries past h =
    let took = rw c.in-Ok-Line.field-0-is at c.in-Ok-Line.ensures.took in
    let line = take c.in-Ok-Line.len c.next_tape_line.new.line in
    let p = rw c.in-Ok-Some.field-0-is at (c.in-Ok-Some.ensures.answered secret entries past h) in (
      p.0,
      record {
        line = line;
        took = took.0;
        event_is = at_event (routes_at (g.L.Lobby.class secret) g.R.RouteStep.reply entries past) c.args.number line took.2 ∙ p.1;
      },
      subst (Wrote (g.W.Write.contents (sink c.args.writer.now)) (g.W.Write.contents (sink c.write_bytes.new.self))) p.2.0 c.in-Ok.ensures.ok,
      p.2.1,
    )

pub returns-in-Err-write_bytes-clause-answered : goal.returns-in-Err-write_bytes-clause-answered
returns-in-Err-write_bytes-clause-answered g c secret entries past h =
    let took = rw c.in-Ok-Line.field-0-is at c.in-Ok-Line.ensures.took in
    let line = take c.in-Ok-Line.len c.next_tape_line.new.line in
    let p = rw c.in-Ok-Some.field-0-is at (c.in-Ok-Some.ensures.answered secret entries past h) in
    let w = c.in-Err-write_bytes.ensures.err in (
      p.0,
      record {
        line = line;
        took = took.0;
        event_is = at_event (routes_at (g.L.Lobby.class secret) g.R.RouteStep.reply entries past) c.args.number line took.2 ∙ p.1;
      },
      (
        w.0,
        subst
            (λ (bs : List ℕ).
            Wrote (g.W.Write.contents (sink c.args.writer.now)) (g.W.Write.contents (sink c.write_bytes.new.self)) (take w.0 bs))
            p.2.0 w.1,
      ),
    )

pub returns-in-Err-answer_line-clause-answered : goal.returns-in-Err-answer_line-clause-answered
returns-in-Err-answer_line-clause-answered g c secret entries past h =
    let took = rw c.in-Ok-Line.field-0-is at c.in-Ok-Line.ensures.took in
    let line = take c.in-Ok-Line.len c.next_tape_line.new.line in
    let p = c.in-Err-answer_line.ensures.answered secret entries past h in (
      p.0,
      refl,
      record {
        line = line;
        took = took.0;
        event_is = at_event (routes_at (g.L.Lobby.class secret) g.R.RouteStep.reply entries past) c.args.number line took.2 ∙ p.1;
      },
      p.2,
      p.3,
    )
