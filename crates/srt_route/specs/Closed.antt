-- A route after it was closed.
use Rattle.std.specs.Prelude.{◌≡◌, ℕ, true, false, List, [], ◌∷◌}
use Rattle.std.specs.List.{list_any}
use Rattle.srt_types.specs.Terms.{Terms}
use Rattle.srt_types.specs.Items.{Item}
use Rattle.srt_route.specs.Sessions.{Session}
use Rattle.srt_route.specs.Route.{after, closes, reply}

-- a route is closed if one of its items was a Close
abbrev pub ClosesOnce : Type 0
ClosesOnce = (e : Terms) (index : ℕ) (items : List Item) → (after e index items).is_closed ≡ list_any closes items

-- a closed route has no open session
abbrev pub ClosedHasNoSession : Type 0
ClosedHasNoSession =
    (e : Terms) (index : ℕ) (items : List Item)
    → (after e index items).is_closed ≡ true → list_any (λ (s : Session). s.is_open) (after e index items).sessions ≡ false

-- a closed route replies to no item, and no item changes its sessions
abbrev pub ClosedIsQuiet : Type 0
ClosedIsQuiet =
    (e : Terms) (index : ℕ) (items : List Item) → (after e index items).is_closed ≡ true →
    (item : Item) → (reply e index (item ∷ items) ≡ []) × ((after e index (item ∷ items)).sessions ≡ (after e index items).sessions)
