-- How a gateway that was asked to stop goes on to its end.
use Rattle.std.specs.Prelude.{ℕ, ◌+◌, Bool, ◌&&◌, ◌||◌, nat_le, Option, None, Some, if◌then◌else◌}
use Rattle.srt_supervision.specs.declared.order.Order.{Order}
use Rattle.srt_supervision.specs.declared.order.Order.TheVariants as orders
use Rattle.srt_watch.specs.declared.stopping.StopStep.{StopStep}
use Rattle.srt_watch.specs.declared.stopping.StopStep.TheVariants.{GoOn, Close, End}

-- a second has passed since the stop was asked for; or nothing is left to send, and a twentieth of a second has passed
abbrev pub is_over : (requested_at now : ℕ) → (is_quiet : Bool) → Bool
is_over requested_at now is_quiet = nat_le (requested_at + 1_000_000) now || (is_quiet && nat_le (requested_at + 50_000) now)

-- what the gateway does at a moment, where a stop was asked for at another one or never
abbrev pub stop_step : (requested_at : Option ℕ) → (now : ℕ) → (is_quiet : Bool) → StopStep
stop_step None now is_quiet = GoOn
stop_step (Some requested_at) now is_quiet = if is_over requested_at now is_quiet then End else Close

-- the order of the poller then
abbrev pub order_of : StopStep → Order
order_of GoOn = orders.GoOn
order_of Close = orders.CloseAll
order_of End = orders.End
