-- What a flood of refused callers costs a log: no line about a session or a route.
use Rattle.std.specs.Prelude.{◌≡◌, Bool, true, false, List, [], ◌∷◌}
use Rattle.srt_log.specs.LineShares.{is_kind}
use Rattle.srt_log.specs.declared.line_limits.LineKind.TheVariants.{Session, Refusal}
use Rattle.srt_watch.specs.declared.log.When.{When}
use Rattle.srt_watch.specs.Log.{LogCall, Offered, Always, Polled, Missed, Looked, Closed, LogState, Said, state_after_all, text_of}

-- a call is about a refused caller
abbrev pub is_refusal : LogCall → Bool
is_refusal (Offered when kind event) = is_kind Refusal kind
is_refusal (Always when event) = false
is_refusal (Polled when) = false
is_refusal (Missed count) = false
is_refusal Looked = false
is_refusal (Closed when) = false

abbrev pub AreRefusals : List LogCall → Type 0
AreRefusals [] = Unit {0}
AreRefusals (call ∷ calls) = (is_refusal call ≡ true) × AreRefusals calls

-- behind any flood of them a line about a session or a route is written, or left out and counted, just as without the flood
abbrev pub RefusalsCostNothing : Type 0
RefusalsCostNothing =
    (s : LogState) (flood : List LogCall) → AreRefusals flood → (when : When) (event : Said) →
    text_of (state_after_all s flood) (Offered when Session event) ≡ text_of s (Offered when Session event)
