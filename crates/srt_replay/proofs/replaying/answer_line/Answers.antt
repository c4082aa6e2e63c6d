use Rattle.std.proofs.Common.{ℕ, sym, ap, ◌∙◌}
use Rattle.srt_replay.specs.Events.{event_of}
use Rattle.srt_replay.specs.EventRead.{event_read}
use Rattle.srt_replay.proofs.replaying.answer_line.Goals as goal

pub returns-in-Ok-clause-answered : goal.returns-in-Ok-clause-answered
returns-in-Ok-clause-answered g c secret entries past h = (
  event_read c.read_event.new.buffer c.in-Some.event,
  sym (c.in-Some.ensures.value ∙ ap (λ (n : ℕ). event_of n c.args.line.now) (c.routes.ensures.number secret entries past h)),
  c.in-Ok.ensures.answered secret entries past h,
)

pub returns-in-Err-clause-answered : goal.returns-in-Err-clause-answered
returns-in-Err-clause-answered g c secret entries past h =
    let wants = c.in-Err.ensures.answered secret entries past h in (
      event_read c.read_event.new.buffer c.in-Some.event,
      sym (c.in-Some.ensures.value ∙ ap (λ (n : ℕ). event_of n c.args.line.now) (c.routes.ensures.number secret entries past h)),
      wants.0,
      wants.1,
    )
