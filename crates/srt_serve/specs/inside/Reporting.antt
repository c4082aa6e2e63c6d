-- The refusals that a watcher was told, as it records them.
use Rattle.std.specs.Prelude.{◌≡◌, ℕ, List, ◌++◌, length, Option, option_map, IfNone}
use Rattle.srt_serve.specs.declared.evidence.NothingWaits.{NothingWaits}
use Rattle.srt_supervision.specs.declared.refusal.Refusal.{Refusal}

-- those that a watcher records, and more
abbrev pub with_refusals : Option (List Refusal) → (more : List Refusal) → Option (List Refusal)
with_refusals recorded more = option_map (λ rs. rs ++ more) recorded

-- that many were reported to it, each once
abbrev pub WereReported : (recorded recorded' : Option (List Refusal)) → (number : ℕ) → Type 0
WereReported recorded recorded' number = (more : List Refusal) × (recorded' ≡ with_refusals recorded more) × (length more ≡ number)

-- some were reported to it, each once: 1024, unless there is evidence that no further one waited
abbrev pub WereRecorded : (recorded recorded' : Option (List Refusal)) → Option NothingWaits → Type 0
WereRecorded recorded recorded' none = (number : ℕ) × WereReported recorded recorded' number × IfNone none (number ≡ 1024)
