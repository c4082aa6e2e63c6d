use Rattle.std.proofs.Common.{◌≡◌}
use Rattle.srt_watch.specs.Log.{Logged}
use Rattle.srt_watch.specs.Repeating.{known_by, taken_to, repeat_calls}
use Rattle.srt_watch.proofs.refusals.log_repeats.Given as goal

abbrev pub invariant-loop : goal.invariant-loop
invariant-loop g l = record {
  known : known_by l.repeats ≡ taken_to (known_by l.fn.repeats) l.moment l.counter;
  logged : Logged (g.W.Write.contents l.fn.log.out.out) (g.W.Write.contents l.log.out.out) l.fn.log.pace l.log.pace
      (repeat_calls l.when (known_by l.fn.repeats) l.moment l.counter);
}
