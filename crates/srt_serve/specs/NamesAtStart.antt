-- The names that a run begins with.
use Rattle.std.specs.Prelude.{ℕ, ◌==◌, false, List, [], ◌∷◌, map, if◌then◌else◌}
use Rattle.srt_types.specs.declared.shared.Schedule.{Schedule}
use Rattle.srt_types.specs.Terms.{Terms}
use Rattle.srt_lobby.specs.Names.{RouteName, name_of}

-- the name of a route that opens in this round: it is hidden at first, unless that is the first round
abbrev pub until : (open_round : ℕ) → RouteName → RouteName
until open_round name = if open_round == 0 then name else record name { is_shown = false }

-- the names, with those of the routes that open in a later round hidden; there is a schedule for each name
abbrev pub later_hidden : List Schedule → List RouteName → List RouteName
later_hidden [] names = names
later_hidden (s ∷ schedules) [] = []
later_hidden (s ∷ schedules) (name ∷ names) = until s.open_round name ∷ later_hidden schedules names

-- the names of the routes before the first round
abbrev pub first_names : List Schedule → List Terms → List RouteName
first_names schedules entries = later_hidden schedules (map name_of entries)
