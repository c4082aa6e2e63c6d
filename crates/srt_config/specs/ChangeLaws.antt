-- What the comparison of two configurations means.
use Rattle.std.specs.Prelude.{◌≡◌, ℕ, suc, Bool, true, false, List, [], ◌∷◌, map, length, Option, Some, slice_get}
use Rattle.std.specs.Bool.{Decides}
use Rattle.srt_types.specs.declared.shared.Schedule.{Schedule}
use Rattle.srt_types.specs.Terms.{Terms}
use Rattle.srt_lobby.specs.Opening.{are_names}
use Rattle.srt_config.specs.declared.changes.FixedKeys.{FixedKeys}
use Rattle.srt_config.specs.declared.changes.RouteChange.{RouteChange}
use Rattle.srt_config.specs.declared.changes.RouteChange.TheVariants.{Stays, Reopens, Opens}
use Rattle.srt_config.specs.Config.{Settings}
use Rattle.srt_config.specs.Changes.{change_of, Requested, requested}
use Rattle.srt_config.specs.SameKeys.{same_terms, same_schedule}

-- the test of two routes decides exactly whether all their keys are the same
abbrev pub SameKeysDecide : Type 0
SameKeysDecide = ((a b : Terms) → Decides (same_terms a b) (a ≡ b)) × ((a b : Schedule) → Decides (same_schedule a b) (a ≡ b))

-- as many routes as these stay, each at its place, the first of which has this number
abbrev pub all_stay : (first : ℕ) → List Terms → List RouteChange
all_stay first [] = []
all_stay first (e ∷ routes) = Stays first ∷ all_stay (suc first) routes

abbrev pub none_fixed : FixedKeys
none_fixed = record { secret = false; bind = false; workers = false; status = false }

-- each of these routes stays, and nothing else is requested
abbrev pub nothing_requested : List Terms → Requested
nothing_requested routes = record { fixed = none_fixed; routes = all_stay 0 routes; gone = [] }

-- a configuration that is the same as the one before requests nothing
abbrev pub SameRequestsNothing : Type 0
SameRequestsNothing = (s : Settings) → are_names s.routes ≡ true → length s.schedules ≡ length s.routes → requested s s ≡ nothing_requested s.routes

-- nor does one in which other routes are expected to be on air, and that is the same otherwise
abbrev pub ExpectationsRequestNothing : Type 0
ExpectationsRequestNothing =
    (s : Settings) (expected : List Bool) → are_names s.routes ≡ true → length s.schedules ≡ length s.routes →
    requested s (record s { expected = expected }) ≡ nothing_requested s.routes

-- what a change of a route means. It stays: the one at that place before has all of its keys, lists, keys of roles and rules included.
-- It opens again: the one at that place has its name, and another value at some key. It opens: no route before has its name
abbrev pub IsChange : (before : Settings) → Terms → Schedule → RouteChange → Type 0
IsChange before terms schedule (Stays place) =
    (slice_get before.routes place ≡ Some terms) × (slice_get before.schedules place ≡ Some schedule)
IsChange before terms schedule (Reopens place) =
    (old : Terms) × (slice_get before.routes place ≡ Some old) × (old.name ≡ terms.name) ×
    (old ≡ terms → slice_get before.schedules place ≡ Some schedule → ⊥)
IsChange before terms schedule Opens = (place : ℕ) (old : Terms) → slice_get before.routes place ≡ Some old → old.name ≡ terms.name → ⊥

-- each change that a configuration requests has that meaning
abbrev pub ChangesAreMeant : Type 0
ChangesAreMeant = (before : Settings) (terms : Terms) (schedule : Schedule) → IsChange before terms schedule (change_of before terms schedule)

-- the route that runs once a change is made: the one from before, if it stays, or else the entry of the file
abbrev pub running_after : (before : Settings) → (entry : Terms) → RouteChange → Option Terms
running_after before entry (Stays place) = slice_get before.routes place
running_after before entry (Reopens place) = Some entry
running_after before entry Opens = Some entry

abbrev pub all_running : (before : Settings) → List Terms → List RouteChange → List (Option Terms)
all_running before [] changes = []
all_running before (entry ∷ routes) [] = []
all_running before (entry ∷ routes) (change ∷ changes) = running_after before entry change ∷ all_running before routes changes

-- once all changes are made, the routes that run are those of the file: names, numbers, lists, keys of roles and rules
abbrev pub RunsTheFile : Type 0
RunsTheFile = (before after : Settings) → length after.schedules ≡ length after.routes →
    all_running before after.routes ((requested before after).routes) ≡ map Some after.routes
