-- The refusals that a watcher was told.
use Rattle.std.specs.Prelude.{Option, List, [], ◌∷◌, ◌++◌, option_map}
use Rattle.srt_supervision.specs.declared.refusal.Refusal.{Refusal}

-- the refusals that a watcher records, and one more
abbrev pub with_told : Option (List Refusal) → Refusal → Option (List Refusal)
with_told recorded refusal = option_map (λ rs. rs ++ refusal ∷ []) recorded
