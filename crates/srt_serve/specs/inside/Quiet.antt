-- When nothing is left to send.
use Rattle.std.specs.Prelude.{ℕ, ◌<◌, List, Option, None, Some, Bool, false, not, ◌&&◌}
use Rattle.srt_types.specs.Items.{Item}
use Rattle.srt_types.specs.Terms.{Terms}
use Rattle.srt_route.specs.declared.route.Route.{Route}
use Rattle.srt_route.specs.declared.view.SessionView.{SessionView}
use Rattle.srt_route.specs.Route.{after}
use Rattle.srt_route.specs.Stands.{stands}
use Rattle.srt_route.specs.Viewing.{ShowsSession}
use Rattle.srt_supervision.specs.declared.order.Order.{Order}
use Rattle.srt_supervision.specs.declared.order.Order.TheVariants.{GoOn, CloseAll, End}

-- this is what a slot of the route shows, whatever it stands for
abbrev pub ShowsIn : Route → (slot : ℕ) → Option SessionView → Type 0
ShowsIn route slot shown = (e : Terms) (index : ℕ) (items : List Item) → stands route e index items
    → ShowsSession e index slot (after e index items).sessions shown

-- no session is open in the first slots of the route
abbrev pub HasNoneBelow : Route → (slots : ℕ) → Type 0
HasNoneBelow route slots = (slot : ℕ) → slot < slots → ShowsIn route slot None

-- none is open in any of its 17
abbrev pub HasNoSession : Route → Type 0
HasNoSession route = HasNoneBelow route 17

-- one is open
abbrev pub HasSession : Route → Type 0
HasSession route = (slot : ℕ) × (shown : SessionView) × ShowsIn route slot (Some shown)

-- a check counts as quiet while the order is to close all or to end, if all routes were quiet, and no outbox has the hint of a reply
abbrev pub is_check_quiet : Order → (all_quiet is_outbox_ready : Bool) → Bool
is_check_quiet GoOn all_quiet is_outbox_ready = false
is_check_quiet CloseAll all_quiet is_outbox_ready = all_quiet && not is_outbox_ready
is_check_quiet End all_quiet is_outbox_ready = all_quiet && not is_outbox_ready
