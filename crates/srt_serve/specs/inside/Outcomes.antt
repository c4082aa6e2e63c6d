-- What became of the datagrams of a round.
use Rattle.std.specs.Prelude.{◌≡◌, ℕ}
use Rattle.srt_serve.specs.declared.inline_serving.InlineOutcome.{InlineOutcome}
use Rattle.srt_serve.specs.declared.inline_serving.InlineOutcome.TheVariants.{Served, Left}

-- their routes were served, or the workers were told that so many were read
abbrev pub IsInlineOutcome : (datagrams : ℕ) → InlineOutcome → Type 0
IsInlineOutcome datagrams (Served end) = Unit {0}
IsInlineOutcome datagrams (Left told) = told.datagrams ≡ datagrams
