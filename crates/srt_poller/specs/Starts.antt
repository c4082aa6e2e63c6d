-- The starts of a poller's rounds, and which routes can't become visible in them.
use Rattle.std.specs.Prelude.{◌≡◌, ◌≢◌, ◌⊎◌, ℕ, Bool, true, Option, Some, List, [], ◌∷◌, ◌++◌, slice_get}
use Rattle.std.specs.Option.{option_map}
use Rattle.srt_types.specs.declared.shared.Schedule.{Schedule}
use Rattle.srt_lobby.specs.Names.{RouteName, has_name_at}
use Rattle.srt_poller.specs.Schedules.{opened_if}
use Rattle.srt_poller.specs.History.{Event, Begins, State, state_by}

-- the start of a round: its number, whether the round closes all, and the names once the routes that open in it are visible
pub record RoundStart : Type 0 where
  pub round : ℕ
  pub closes_all : Bool
  pub names : List RouteName

abbrev pub round_start : (round : ℕ) → (closes_all : Bool) → List RouteName → RoundStart
round_start round closes_all names = record { round = round; closes_all = closes_all; names = names }

-- the start of a round, if this event is one
abbrev pub starts_by : List Schedule → State → Event → List RoundStart
starts_by schedules s (Begins closes_all moment offers) =
    round_start s.round closes_all (opened_if closes_all s.round schedules s.names) ∷ []
starts_by schedules s _ = []

-- the starts of all rounds, the first round first
abbrev pub starts_in : List Schedule → State → List Event → List RoundStart
starts_in schedules s [] = []
starts_in schedules s (event ∷ events) = starts_by schedules s event ++ starts_in schedules (state_by schedules s event) events

-- the name of the route with this index, visible or not
abbrev pub text_at : List RouteName → (r : ℕ) → Option (List ℕ)
text_at names r = option_map (λ (name : RouteName). name.text) (slice_get names r)

-- another visible route has the name of this one
abbrev pub IsNameUsed : List RouteName → (r : ℕ) → Type 0
IsNameUsed names r = (i : ℕ) × (text : List ℕ) × (i ≢ r) × (text_at names r ≡ Some text) × (has_name_at names i text ≡ true)

-- in the round of this number, which is one of these, another visible route has the name of this one
abbrev pub IsUsedIn : List RoundStart → (r k : ℕ) → Type 0
IsUsedIn [] r k = ⊥
IsUsedIn (start ∷ starts) r k = ((start.round ≡ k) × IsNameUsed start.names r) ⊎ IsUsedIn starts r k

-- the round of this number, which is one of these, closes all
abbrev pub ClosesAllIn : List RoundStart → (k : ℕ) → Type 0
ClosesAllIn [] k = ⊥
ClosesAllIn (start ∷ starts) k = ((start.round ≡ k) × (start.closes_all ≡ true)) ⊎ ClosesAllIn starts k

-- why a route doesn't open in the round of this number: it closes all, or another visible route has the route's name
abbrev pub IsKeptIn : List RoundStart → (r k : ℕ) → Type 0
IsKeptIn starts r k = ClosesAllIn starts k ⊎ IsUsedIn starts r k
