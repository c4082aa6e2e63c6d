-- What a watcher answers to a run.
use Rattle.std.specs.Prelude.{ℕ, List}
use Rattle.std.specs.List.{AllByRecursion}
use Rattle.srt_types.specs.Terms.{Terms}
use Rattle.srt_supervision.specs.declared.order.Order.{Order}
use Rattle.srt_supervision.specs.declared.order.Order.TheVariants.{GoOn, CloseAll, End}

-- one answer: that all routes close, that the run ends, that the route with this index closes, or that a route with these terms opens
pub data Answer : Type 0 where
  AllClose : Answer
  RunEnds : Answer
  Closes : (route : ℕ) → Answer
  Opens : (terms : Terms) → Answer

-- what is known of an order, if `answered` is known of each answer
abbrev pub IsOrdered : (answered : Answer → Type 0) → Order → Type 0
IsOrdered answered GoOn = Unit {0}
IsOrdered answered CloseAll = answered AllClose
IsOrdered answered End = answered RunEnds

-- each of these routes was requested to close
abbrev pub AreClosings : (answered : Answer → Type 0) → (closes : List ℕ) → Type 0
AreClosings answered closes = AllByRecursion (λ r. answered (Closes r)) closes

-- a route of each of these terms was requested to open
abbrev pub AreOpenings : (answered : Answer → Type 0) → (opens : List Terms) → Type 0
AreOpenings answered opens = AllByRecursion (λ t. answered (Opens t)) opens
