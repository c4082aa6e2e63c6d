-- The lane of the model that a lane's fields represent.
use Rattle.std.specs.Prelude.{◌≡◌, ℕ, List}
use Rattle.srt_types.specs.Items.{Datagram, Item}
use Rattle.srt_types.specs.Terms.{Terms}
use Rattle.srt_hub.specs.World.{Lane}

-- the queues and the waiting replies are these, the capacities are the entry's, and the route's state is that after the
-- applied items
pub record IsLane (e : Terms) (Stands : List Item → Type 0) (waiting : List Datagram) (inbox : List Item) (outbox : List Datagram)
    (inbox_room outbox_room : ℕ) (m : Lane) : Type 0 where
  pub inbox_is : m.inbox ≡ inbox
  pub waiting_is : m.waiting ≡ waiting
  pub outbox_is : m.outbox ≡ outbox
  pub inbox_room_is : inbox_room ≡ e.inbox
  pub outbox_room_is : outbox_room ≡ e.outbox
  pub route_stands : Stands m.applied
