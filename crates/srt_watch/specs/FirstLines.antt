-- The first lines of a log.
use Rattle.std.specs.Prelude.{◌≡◌, ℕ, Bool, List, [], ◌∷◌, ◌++◌, map, Option, None, Some, IfSome, if◌then◌else◌}
use Rattle.std.specs.Fmt.Cut.{IsTextOrCut}
use Rattle.std.specs.Fmt.InlineText.{inline_text}
use Rattle.std.specs.declared.fmt.InlineText.{InlineText}
use Rattle.srt_log.specs.declared.events.LogEvent.TheVariants.{Started, Unblocked, Warned}
use Rattle.srt_watch.specs.declared.first_lines.Start.{Start}
use Rattle.srt_watch.specs.declared.log.When.{When}
use Rattle.srt_watch.specs.Log.{LogCall, Always, Said, said, lent}

-- that callers are served, of which address
abbrev pub started_said : Start → (routes memory : ℕ) → Said
started_said start routes memory = said (Started start.ip start.port routes start.workers memory)

-- a line if signals aren't blocked, and one for each warning
abbrev pub unblocked_calls : When → (is_blocked : Bool) → List LogCall
unblocked_calls when is_blocked = if is_blocked then [] else Always when (said Unblocked) ∷ []

abbrev pub warning_call : When → InlineText 512 → LogCall
warning_call when warning = Always when (said (Warned (lent (inline_text warning))))

abbrev pub warning_calls : When → List (InlineText 512) → List LogCall
warning_calls when warnings = map (warning_call when) warnings

-- a warning more, whose text is this; it may be cut
pub record HasWarned (output : Option (List ℕ)) (old new : List (InlineText 512)) : Type 0 where
  pub warning : InlineText 512
  pub text_is : IfSome output (λ text. IsTextOrCut 512 text (inline_text warning))
  pub new_is : new ≡ old ++ warning ∷ []

-- all of them, in their order, once
abbrev pub first_calls : Option Start → List (InlineText 512) → When → (routes memory : ℕ) → List LogCall
first_calls None warnings when routes memory = []
first_calls (Some start) warnings when routes memory =
    Always when (started_said start routes memory) ∷ (unblocked_calls when start.is_blocked ++ warning_calls when warnings)
