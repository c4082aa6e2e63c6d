-- The routes that open by a change, before they are open.
use Rattle.std.specs.Prelude.{◌≡◌, ℕ, List, [], ◌∷◌, replicate, Option, None, Some, string_bytes}
use Rattle.srt_types.specs.declared.shared.Mode.{Mode}
use Rattle.srt_types.specs.Terms.{Terms}
use Rattle.srt_route.specs.Totals.{no_totals}
use Rattle.srt_status.specs.declared.route_status.EndCounts.{EndCounts}
use Rattle.srt_status.specs.declared.route_status.RouteStatus.{RouteStatus}
use Rattle.srt_status.specs.History.{no_history}
use Rattle.srt_watch.specs.Overview.{no_refusals}
use Rattle.srt_watch.specs.declared.watched_routes.OpeningRoute.{OpeningRoute}

-- its name; empty if there is none
abbrev pub opening_name : Option OpeningRoute → List ℕ
opening_name None = []
opening_name (Some route) = string_bytes route.name

-- none has ended
abbrev pub no_ends : EndCounts
no_ends = record { shutdown = 0; drained_too_long = 0; silence = 0; window_lost = 0; stream_end = 0; route_closed = 0; unknown = 0 }

-- the status of a route before its first snapshot, with its name
abbrev pub fresh_status : RouteStatus → Mode → (sessions : ℕ) → RouteStatus
fresh_status named mode sessions = record named {
  mode = mode;
  sessions_allowed = sessions;
  sessions = replicate 17 None;
  totals = no_totals;
  opened = 0;
  refused = no_refusals;
  limits = None;
  take_overs = Some 0;
  ends = Some no_ends;
  expectation = None;
  history = no_history;
}

-- of a route with these terms
pub record IsFresh (terms : Terms) (status : RouteStatus) : Type 0 where
  pub name_is : string_bytes status.name ≡ terms.name
  pub status_is : status ≡ fresh_status status terms.mode terms.sessions

-- a route with these terms that is to open
pub record IsOpening (terms : Terms) (route : OpeningRoute) : Type 0 where
  pub name_is : string_bytes route.name ≡ terms.name
  pub status_is : IsFresh terms route.status

-- routes with these terms that are to open, in their order
abbrev pub AreOpening : List Terms → List OpeningRoute → Type 0
AreOpening [] [] = Unit {0}
AreOpening [] (route ∷ routes) = ⊥
AreOpening (terms ∷ more) [] = ⊥
AreOpening (terms ∷ more) (route ∷ routes) = IsOpening terms route × AreOpening more routes
