-- Whose datagrams stand in a route's inbox in a run.
use Rattle.std.specs.Prelude.{◌≡◌, ℕ, ◌<◌, List, length, slice_index_or}
use Rattle.std.specs.List.{AllByRecursion}
use Rattle.srt_types.specs.Access.{AccessTerms}
use Rattle.srt_types.specs.Items.{Item, Received, Tick, Close}
use Rattle.srt_types.specs.Terms.{Terms}
use Rattle.srt_lobby.specs.Laws.{MayCall}
use Rattle.srt_lobby.specs.Lobby.{class_of}
use Rattle.srt_poller.specs.History.{Sorting, Event, accepted}

-- an item of a route with these lists and keys is a tick or a Close, or a datagram whose sender the route admits
abbrev pub IsOfCaller : AccessTerms → Item → Type 0
IsOfCaller access (Received datagram moment) = MayCall access datagram
IsOfCaller access (Tick moment) = Unit {0}
IsOfCaller access (Close moment) = Unit {0}

-- so is each item that the inbox of a route accepted from the poller
abbrev pub AreOfCallers : List Terms → List Event → Type 0
AreOfCallers entries events =
    (r : ℕ) (terms : Terms) → r < length entries → AllByRecursion (IsOfCaller (slice_index_or entries r terms).access) (accepted r events)

-- whatever arrives, if the poller sorts as the lobby does
abbrev pub CallersMayCall : Sorting → List Terms → List Event → Type 0
CallersMayCall class entries events = (secret : List ℕ) → class ≡ class_of secret → AreOfCallers entries events
