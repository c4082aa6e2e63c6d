-- Which routes open and close at the beginning of a poller's round.
use Rattle.std.specs.Prelude.{ℕ, suc, Bool, false, Option, None, Some, List, [], ◌∷◌, nat_le, ◌==◌, ◌&&◌, ◌||◌, if◌then◌else◌, map}
use Rattle.std.specs.List.{fold}
use Rattle.srt_types.specs.declared.shared.Schedule.{Schedule}
use Rattle.srt_lobby.specs.Names.{RouteName, AreDistinct, as_shown}
use Rattle.srt_lobby.specs.Changing.{hidden_at}

-- the names, with those of the routes that open in this round shown; there is a schedule for each name
abbrev pub opened : (round : ℕ) → List Schedule → List RouteName → List RouteName
opened round [] names = names
opened round (s ∷ schedules) [] = []
opened round (s ∷ schedules) (name ∷ names) = (if s.open_round == round then as_shown name else name) ∷ opened round schedules names

-- the names after those that open in a round are visible: none, in a round that closes all
abbrev pub opened_if : (closes_all : Bool) (round : ℕ) → List Schedule → List RouteName → List RouteName
opened_if closes_all round schedules names = if closes_all then names else opened round schedules names

-- whether a route's closing round is this one or an earlier one
abbrev pub has_come : (round : ℕ) → Option ℕ → Bool
has_come round (Some close_round) = nat_le close_round round
has_come round None = false

-- whether a route is closed in this round, if it is visible: the round closes all, or the route's closing round is this one or an earlier one
abbrev pub is_due : (closes_all : Bool) (round : ℕ) → Option ℕ → Bool
is_due closes_all round close_round = closes_all || has_come round close_round

-- the indexes of the visible routes that are closed in this round; the first name has this index, and there is a schedule for each name
abbrev pub due_from : (index : ℕ) (closes_all : Bool) (round : ℕ) → List Schedule → List RouteName → List ℕ
due_from index closes_all round [] names = []
due_from index closes_all round (s ∷ schedules) [] = []
due_from index closes_all round (s ∷ schedules) (name ∷ names) =
    if is_due closes_all round s.close_round && name.is_shown
    then index ∷ due_from (suc index) closes_all round schedules names else due_from (suc index) closes_all round schedules names

-- the routes that are offered Close in this round: the visible ones whose closing round is this one or an earlier one, or all visible ones
abbrev pub due : (closes_all : Bool) (round : ℕ) → List Schedule → List RouteName → List ℕ
due closes_all round schedules names = due_from 0 closes_all round schedules names

-- a route that was offered Close, and whether its inbox accepted it
pub record CloseOffer : Type 0 where
  pub route : ℕ
  pub is_accepted : Bool

abbrev pub offered : (route : ℕ) → (is_accepted : Bool) → CloseOffer
offered route is_accepted = record { route = route; is_accepted = is_accepted }

abbrev pub offered_routes : List CloseOffer → List ℕ
offered_routes offers = map (λ o. o.route) offers

-- the names, with those of the routes whose inbox accepted Close hidden
abbrev pub hidden_by : List RouteName → CloseOffer → List RouteName
hidden_by names o = if o.is_accepted then hidden_at o.route names else names

abbrev pub closed : List CloseOffer → List RouteName → List RouteName
closed offers names = fold hidden_by names offers

-- the names as they are after the beginning of a round
abbrev pub begun : (closes_all : Bool) (round : ℕ) → List Schedule → List CloseOffer → List RouteName → List RouteName
begun closes_all round schedules offers names = closed offers (opened_if closes_all round schedules names)

-- no two routes have the same name, whether they are visible or not
abbrev pub AllDiffer : List RouteName → Type 0
AllDiffer names = AreDistinct (map (λ name. as_shown name) names)
