-- Snapshots of a route.
use Rattle.std.specs.Prelude.{◌≡◌, ℕ, length}
use Rattle.srt_route.specs.declared.route.Route.{Route as TheRoute}
use Rattle.srt_route.specs.Stands.{stands}
use Rattle.srt_mailbox.specs.Inbox.{applied}
use Rattle.srt_mailbox.specs.Runs.{Run, Replays}
use Rattle.srt_mailbox.specs.Cells.{CellIdentity, Bears}

-- this is the route of a run that replays, in the state to which the messages received lead, with the number of waiting replies
abbrev pub IsRouteOf : Run → TheRoute → (waiting : ℕ) → Type 0
IsRouteOf r route waiting = stands route r.terms r.index (applied r.inbox.taken) × Replays r × (waiting ≡ length r.waiting)

-- the route of this run was shown once: `noted` is what an observer notes of a route that it was shown
abbrev pub WasShown : Run → (noted : TheRoute → (waiting : ℕ) → Type 0) → Type 0
WasShown r noted = (route : TheRoute) × (waiting : ℕ) × IsRouteOf r route waiting × noted route waiting

-- the route of some run with this identity
abbrev pub IsRouteWith : CellIdentity → TheRoute → (waiting : ℕ) → Type 0
IsRouteWith n route waiting = (r : Run) × Bears n r × IsRouteOf r route waiting
