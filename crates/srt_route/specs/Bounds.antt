-- Bounds on the open sessions of a route, whatever its terms are and whatever it receives.
use Rattle.std.specs.Prelude.{◌≡◌, ℕ, ◌≤◌, List, length, filter}
use Rattle.srt_types.specs.declared.shared.Peer.{Peer}
use Rattle.srt_types.specs.Terms.{Terms}
use Rattle.srt_types.specs.Items.{Item}
use Rattle.srt_route.specs.Sessions.{Session, open_publishers, is_open_in}
use Rattle.srt_route.specs.Route.{after, is_of}

-- at most two open sessions publish
abbrev pub TwoPublish : Type 0
TwoPublish = (e : Terms) (index : ℕ) (items : List Item) → open_publishers (after e index items).sessions ≤ 2

-- no more sessions are open than the route has slots
abbrev pub NoMoreThanSlots : Type 0
NoMoreThanSlots = (e : Terms) (index : ℕ) (items : List Item) → length (filter (λ (s : Session). s.is_open) (after e index items).sessions) ≤ e.sessions

-- a slot has at most one open session
abbrev pub OneInASlot : Type 0
OneInASlot = (e : Terms) (index : ℕ) (items : List Item) (slot : ℕ) → length (filter (is_open_in slot) (after e index items).sessions) ≤ 1

-- no session is open outside the slots 0, 1, .., whose number is in the route's terms
abbrev pub NoneElsewhere : Type 0
NoneElsewhere =
    (e : Terms) (index : ℕ) (items : List Item) (slot : ℕ)
    → e.sessions ≤ slot → length (filter (is_open_in slot) (after e index items).sessions) ≡ 0

-- a caller (a peer and its socket ID) has at most one open session that doesn't drain
abbrev pub OneOfACaller : Type 0
OneOfACaller = (e : Terms) (index : ℕ) (items : List Item) (peer : Peer) (caller : ℕ) → length (filter (is_of peer caller) (after e index items).sessions) ≤ 1
