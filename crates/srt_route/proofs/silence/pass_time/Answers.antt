use Rattle.std.proofs.Common.{sym, ◌∙◌}
use Rattle.srt_route.specs.Waits.{replies_of, places_of}
use Rattle.srt_route.proofs.steps.Aging.{kept_stays}
use Rattle.srt_route.proofs.steps.Saying.{nothing_said, same_said}
use Rattle.srt_route.proofs.steps.Telling.{kept_unnotified}
use Rattle.srt_route.proofs.silence.pass_time.Goals as goal

pub returns-then-is_kept_subscriber-clause-session : goal.returns-then-is_kept_subscriber-clause-session
returns-then-is_kept_subscriber-clause-session c =
    kept_stays c.args.clock c.args.seat.now.session (sym c.is_kept_subscriber.ensures ∙ c.if-is_kept_subscriber.true)

pub returns-then-is_kept_subscriber-clause-said : goal.returns-then-is_kept_subscriber-clause-said
returns-then-is_kept_subscriber-clause-said c =
    same_said (sym (kept_unnotified c.args.clock c.args.callers c.args.seat.now.session (sym c.is_kept_subscriber.ensures ∙ c.if-is_kept_subscriber.true)))
    (nothing_said (replies_of c.args.waiting.now) (places_of c.args.waiting.now))
