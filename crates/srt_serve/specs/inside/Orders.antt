-- The order of a watcher, in words that other threads read.
use Rattle.std.specs.Prelude.{◌≡◌, ℕ, ◌==◌, if◌then◌else◌}
use Rattle.srt_supervision.specs.declared.order.Order.{Order}
use Rattle.srt_supervision.specs.declared.order.Order.TheVariants.{GoOn, CloseAll, End}
use Rattle.srt_serve.specs.declared.watcher_channel.OrderSet.{OrderSet}
use Rattle.srt_serve.specs.declared.watcher_channel.OrderSet.TheVariants.{Closes, Ends}

-- the order that the two words state: a word that isn't 0 states its order, and an order to end goes first
abbrev pub order_in : (ends closes : ℕ) → Order
order_in ends closes = if ends == 0 then (if closes == 0 then GoOn else CloseAll) else End

-- it is the order of two words that were read: `had_ends` and `had_closes` are what is known of the numbers that they had
abbrev pub IsRead : {E C : Type 0} → (had_ends : E → ℕ → Type 0) → (had_closes : C → ℕ → Type 0) → E → C → Order → Type 0
IsRead had_ends had_closes ends closes order = (e : ℕ) × (c : ℕ) × had_ends ends e × had_closes closes c × (order ≡ order_in e c)

module _ {A : Type 0} where
  -- the word of this order was written; an order to go on leaves that of an end
  abbrev pub IsSet : Order → OrderSet A → Type 0
  IsSet GoOn (Closes word) = word.number ≡ 0
  IsSet CloseAll (Closes word) = word.number ≡ 1
  IsSet End (Ends word) = word.number ≡ 1
  IsSet GoOn (Ends word) = ⊥
  IsSet CloseAll (Ends word) = ⊥
  IsSet End (Closes word) = ⊥
