-- Items with other sequence numbers, other timestamps, or later times: the replies differ only in the numbers.
use Rattle.std.specs.Prelude.{◌≡◌, ℕ, false, List}
use Rattle.srt_types.specs.Terms.{Terms}
use Rattle.srt_types.specs.Items.{Item}
use Rattle.srt_route.specs.RouteKeys.{has_secured_role}
use Rattle.srt_route.specs.Route.{solo}
use Rattle.srt_route.specs.Shifted.{renumbered_items, restamped_items, moved_items, renumbered_datagrams}

-- if the sequence numbers of all items are shifted, the replies are the same with their numbers shifted, also across
-- 2^31; on a route without a secured role
abbrev pub Renumbers : Type 0
Renumbers =
    (e : Terms) (index by : ℕ) (items : List Item) → has_secured_role e ≡ false →
    solo e index (renumbered_items by items) ≡ renumbered_datagrams by (solo e index items)

-- if the timestamps of all items are shifted, the replies are the same, also across 2^32
abbrev pub Restamps : Type 0
Restamps = (e : Terms) (index by : ℕ) (items : List Item) → solo e index (restamped_items by items) ≡ solo e index items

-- if all items are later by the same time, the replies are the same
abbrev pub Moves : Type 0
Moves = (e : Terms) (index by : ℕ) (items : List Item) → solo e index (moved_items by items) ≡ solo e index items
