-- Snapshots of a route: its sessions by their slots.
use Rattle.std.specs.Prelude.{◌≡◌, ℕ, ◌<◌, false, List, Option, None, replicate, slice_index_or}
use Rattle.srt_types.specs.Terms.{Terms}
use Rattle.srt_types.specs.Items.{Item as TheItem}
use Rattle.srt_route.specs.declared.route.Route.{Route}
use Rattle.srt_route.specs.declared.totals.Totals.{Totals}
use Rattle.srt_route.specs.Route.{after}
use Rattle.srt_route.specs.Stands.{stands}
use Rattle.srt_route.specs.Totals.{AddUp, totals_of_ended}
use Rattle.srt_route.specs.declared.ledger.EndedSession.{EndedSession}
use Rattle.srt_route.specs.declared.view.SessionView.{SessionView}
use Rattle.srt_route.specs.Ledgers.{ended_in}
use Rattle.srt_route.specs.ShownKeys.{ShowsKeys}
use Rattle.srt_route.specs.Viewing.{ShowsSession}
use Rattle.srt_log.specs.Snapshots.{slot_of}
use Rattle.srt_log.specs.declared.snapshots.SlotSession.{SlotSession}
use Rattle.srt_log.specs.declared.snapshots.RouteSnapshot.{RouteSnapshot}

-- each of the first slots has the session that is open there, with the length of its keys, whatever the route stands for
abbrev pub IsShown : (slot : ℕ) → Route → Option SessionView → Type 0
IsShown slot route shown =
    (e : Terms) (index : ℕ) (items : List TheItem) → stands route e index items
    → ShowsSession e index slot (after e index items).sessions shown × ShowsKeys e slot (after e index items).keys shown

unfoldable pub AreShown : (slots : ℕ) → Route → List (Option SessionView) → Type 0
AreShown slots route sessions = (slot : ℕ) → slot < slots → IsShown slot route (slice_index_or sessions slot None)

-- each of the first slots has its open session, and otherwise the one that ended there last
abbrev pub slot_in : Route → List (Option SessionView) → (slot : ℕ) → Option SlotSession
slot_in route sessions slot = slot_of (slice_index_or sessions slot None) (ended_in slot route)

unfoldable pub AreSlots : (slots : ℕ) → Route → List (Option SessionView) → List (Option SlotSession) → Type 0
AreSlots slots route sessions shown = (slot : ℕ) → slot < slots → slice_index_or shown slot None ≡ slot_in route sessions slot

-- each of the first slots has the session that ended there last
unfoldable pub AreEnds : (slots : ℕ) → Route → List (Option EndedSession) → Type 0
AreEnds slots route ends = (slot : ℕ) → slot < slots → slice_index_or ends slot None ≡ ended_in slot route

-- the counts of all sessions of a route, ended and open
abbrev pub AreTotals : Route → Totals → Type 0
AreTotals route totals =
    (e : Terms) (index : ℕ) (items : List TheItem) → stands route e index items →
    AddUp e index (after e index items).sessions e.sessions (totals_of_ended route) totals

-- before the first event
abbrev pub first_snapshot : RouteSnapshot
first_snapshot = record { moment = 0; stops = false; slots = replicate 17 None; ended = replicate 17 None; opened = 0 }
