-- The lines of refused callers: one of each, and how often each was refused again.
use Rattle.std.specs.Prelude.{ℕ, zero, suc, List, [], ◌∷◌, ◌++◌, Option, None, Some}
use Rattle.srt_log.specs.Repeats.{Caller, callers_of, telling_of, due_of, noted, taken}
use Rattle.srt_log.specs.declared.events.LogEvent.TheVariants.{RefusedAgain}
use Rattle.srt_log.specs.declared.line_limits.LineKind.{LineKind}
use Rattle.srt_log.specs.declared.repeats.Refusal.{Refusal as Attempt}
use Rattle.srt_log.specs.declared.repeats.RefusalRepeats.{RefusalRepeats}
use Rattle.srt_log.specs.declared.repeats.Telling.{Telling}
use Rattle.srt_log.specs.declared.repeats.Telling.TheVariants.{Line, Counted}
use Rattle.srt_supervision.specs.declared.refusal.Refusal.{Refusal}
use Rattle.srt_watch.specs.Log.{LogCall, Offered, said, lent}
use Rattle.srt_watch.specs.Watching.{refused_call}
use Rattle.srt_watch.specs.declared.log.When.{When}

-- the callers that are known
abbrev pub known_by : RefusalRepeats → List Caller
known_by repeats = callers_of repeats.callers.items

-- a refused conclusion that requested this name
abbrev pub attempt_of : (name : List ℕ) → Refusal → Attempt
attempt_of name refusal = record { code = refusal.code; peer = refusal.peer; name = lent name; by = refusal.cause }

abbrev pub known_after : List Caller → When → (name : List ℕ) → Refusal → List Caller
known_after callers when name refusal = noted callers (attempt_of name refusal) when.moment

-- its line, unless it is counted in one of its caller's
abbrev pub told_calls : Telling → LogCall → List LogCall
told_calls Line call = call ∷ []
told_calls Counted call = []

abbrev pub refused_calls : List Caller → When → (name : List ℕ) → Refusal → List LogCall
refused_calls callers when name refusal =
    told_calls (telling_of callers (attempt_of name refusal) when.moment) (refused_call when name refusal)

-- how often a caller was refused again, if that is due
abbrev pub again_calls : When → Option Caller → List LogCall
again_calls when None = []
again_calls when (Some c) = Offered when LineKind.Refusal (said (RefusedAgain c.ip c.code (lent c.name) c.by c.count)) ∷ []

-- the first of these that are due at a moment, one after the other, and the callers that are known then
unfoldable pub taken_to : List Caller → (moment steps : ℕ) → List Caller
taken_to callers moment zero = callers
taken_to callers moment (suc step) = taken (taken_to callers moment step) moment

unfoldable pub repeat_calls : When → List Caller → (moment steps : ℕ) → List LogCall
repeat_calls when callers moment zero = []
repeat_calls when callers moment (suc step) =
    repeat_calls when callers moment step ++ again_calls when (due_of (taken_to callers moment step) moment)
