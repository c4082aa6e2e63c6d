-- The changes of a run's routes that were requested.
use Rattle.std.specs.Prelude.{ℕ, Option, Result, List, [], ◌∷◌, ◌++◌, map, option_map}
use Rattle.srt_types.specs.Terms.{Terms, terms_of}
use Rattle.srt_supervision.specs.declared.changes.ChangeFault.{ChangeFault}
use Rattle.srt_supervision.specs.declared.changes.RouteChanges.{RouteChanges}

-- a change that was requested: the indexes of the routes that were to close, the terms of those that were to open, and whether it was made
pub record AskedChange : Type 0 where
  pub closes : List ℕ
  pub opens : List Terms
  pub outcome : Result ℕ ChangeFault

abbrev pub asked_change : RouteChanges → Result ℕ ChangeFault → AskedChange
asked_change changes outcome = record { closes = changes.closes.items; opens = map terms_of changes.opens.items; outcome = outcome }

-- the changes that a run records, and one more
abbrev pub with_asked : Option (List AskedChange) → AskedChange → Option (List AskedChange)
with_asked recorded change = option_map (λ cs. cs ++ change ∷ []) recorded
