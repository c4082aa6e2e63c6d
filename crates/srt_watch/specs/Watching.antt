-- The lines of a refusal and of a stop.
use Rattle.std.specs.Prelude.{◌≡◌, ℕ, Bool, List, [], ◌∷◌, Option, None, Some, IfSome}
use Rattle.srt_log.specs.declared.events.LogEvent.TheVariants as events
use Rattle.srt_log.specs.declared.events.StopCause.{StopCause}
use Rattle.srt_log.specs.declared.line_limits.LineKind.{LineKind}
use Rattle.srt_supervision.specs.declared.refusal.Refusal.{Refusal}
use Rattle.srt_watch.specs.Course.{stop_of, after_stop}
use Rattle.srt_watch.specs.Log.{LogCall, Always, Offered, Logged, said, lent}
use Rattle.srt_watch.specs.Machines.{MachineState}
use Rattle.srt_watch.specs.declared.course.Course.{Course}
use Rattle.srt_watch.specs.declared.log.LogPace.{LogPace}
use Rattle.srt_watch.specs.declared.log.When.{When}

-- a conclusion that requested this name was refused: its code, its caller and its cause
abbrev pub refused_call : When → (name : List ℕ) → Refusal → LogCall
refused_call when name refusal = Offered when LineKind.Refusal (said (events.Refused refusal.code refusal.peer (lent name) refusal.cause))

-- a stop was requested
abbrev pub stop_calls : When → Option StopCause → List LogCall
stop_calls when None = []
stop_calls when (Some cause) = Always when (said (events.StopRequested cause)) ∷ []

-- It was looked whether the gateway is to stop, and why: a signal has arrived if the machine says so, or its time is over. That is logged once.
pub record CheckedStop (says : Option MachineState) (old new : Course) (before after : Option (List ℕ)) (p q : LogPace) (when : When) : Type 0 where
  pub requested : Bool
  pub said : IfSome says (λ s. requested ≡ s.stops)
  pub course_is : new ≡ after_stop old requested when.moment
  pub logged : Logged before after p q (stop_calls when (stop_of old requested when.moment))
