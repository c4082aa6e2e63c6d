-- When the routes of a run open and close if routes are added and removed while it runs.
use Rattle.std.specs.Prelude.{◌≡◌, ◌⊎◌, ℕ, zero, suc, ◌<◌, ◌≤◌, ◌-◌, ◌^◌, ◌==◌, ◌&&◌, ◌||◌, if◌then◌else◌, nat_lt, min, not}
use Rattle.std.specs.Prelude.{Bool, true, false, Option, None, Some, List, [], ◌∷◌, ◌++◌, length, map, slice_get}
use Rattle.std.specs.List.{list_any}
use Rattle.srt_types.specs.declared.shared.Schedule.{Schedule}
use Rattle.srt_lobby.specs.Names.{RouteName}
use Rattle.srt_poller.specs.declared.plans.Plan.{Plan}
use Rattle.srt_poller.specs.Schedules.{has_come}
use Rattle.srt_poller.specs.Starts.{RoundStart, IsUsedIn, IsKeptIn}

-- the number of no round: a route with this opening round opens in none
abbrev pub never : ℕ
never = 2 ^ 64 - 1

-- a plan, as a schedule
abbrev pub schedule_of : Plan → Schedule
schedule_of p = record { open_round = p.open_round; close_round = p.close_round }

abbrev pub texts_of : List RouteName → List (List ℕ)
texts_of names = map (λ name. name.text) names

-- no other route has the name of this one, whether they are visible or not
abbrev pub IsAlone : (texts : List (List ℕ)) → (r : ℕ) → Type 0
IsAlone texts r = (i : ℕ) (text : List ℕ) → slice_get texts r ≡ Some text → slice_get texts i ≡ Some text → i ≡ r

-- whether a route was requested to close
abbrev pub is_requested : (requested : List ℕ) → (r : ℕ) → Bool
is_requested requested r = list_any (λ route. route == r) requested

-- there is a closing round, and it is before this one
abbrev pub IsBefore : (round : ℕ) → Option ℕ → Type 0
IsBefore round (Some close_round) = close_round < round
IsBefore round None = ⊥

-- From the round `came` on, the route opens in the first round that comes before its closing round and in which nothing keeps it from that: no
-- other visible route has its name, and not all are closed. `waits` is another reason not to have opened in the round that ended last
abbrev pub OpensInTime : (round came : ℕ) → (waits : Type 0) → List RoundStart → (r : ℕ) → Schedule → Type 0
OpensInTime round came waits starts r t =
    (k : ℕ) → came ≤ k → k < round → k < t.open_round → has_come k t.close_round ≡ false → IsKeptIn starts r k ⊎ ((suc k ≡ round) × waits)

-- What the schedule of a route has become before this round. Unless another visible route has its name then, the route opens in the round of its
-- schedule, or, if it was requested to close before that, never. It opens in no earlier round, and in none at all only if its round has passed or it
-- was requested to close. If its name is in use in its round, it opens in the first round in which it isn't.
-- If it wasn't requested to close, it closes as its schedule states; if it was, it closes no later, and in a round before this one
pub record Became (round : ℕ) (waits : Type 0) (starts : List RoundStart) (r : ℕ) (requested : Bool) (s t : Schedule) : Type 0 where
  pub same : (IsUsedIn starts r s.open_round → ⊥) → (t.open_round ≡ s.open_round) ⊎ ((requested ≡ true) × (t.open_round ≡ never))
  pub in_time : OpensInTime round s.open_round waits starts r t
  pub opened : (t.open_round ≡ s.open_round) ⊎ ((t.open_round < round) ⊎ (t.open_round ≡ never))
  pub later : s.open_round ≤ t.open_round
  pub missed : t.open_round ≡ never → (s.open_round < round) ⊎ (requested ≡ true)
  pub kept : requested ≡ false → t.close_round ≡ s.close_round
  pub sooner : (k : ℕ) → has_come k s.close_round ≡ true → has_come k t.close_round ≡ true
  pub closes : requested ≡ true → IsBefore round t.close_round

-- The schedule of a route that was added before one of the rounds before this one. From then on it opens in the first round in which no other visible
-- route has its name, unless that closes all, and in no earlier one. It closes only if it was requested to, and then in a round before this one
pub record IsNewPlan (round : ℕ) (waits : Type 0) (starts : List RoundStart) (r : ℕ) (requested : Bool) (t : Schedule) : Type 0 where
  pub came : ℕ
  pub is_early : came ≤ round - 1
  pub in_time : OpensInTime round came waits starts r t
  pub opened : (t.open_round < round) ⊎ (t.open_round ≡ never)
  pub later : came ≤ t.open_round
  pub kept : requested ≡ false → t.close_round ≡ None
  pub closes : requested ≡ true → IsBefore round t.close_round

-- the same of a route that was there from the beginning on, or wasn't
abbrev pub IsPlanOf : (round : ℕ) → (waits : Type 0) → List RoundStart → (r : ℕ) → (requested : Bool) → Option Schedule → Schedule → Type 0
IsPlanOf round waits starts r requested (Some s) t = Became round waits starts r requested s t
IsPlanOf round waits starts r requested None t = IsNewPlan round waits starts r requested t

-- What the schedules of all routes are before this round, in the order of their indexes: of those that were there from the beginning on, which had
-- these schedules then, and after them of the added ones. The rounds before it started so. `waits` has for each route another reason why it may not
-- have been opened in the round before
pub record ArePlans (round : ℕ) (waits : ℕ → Type 0) (starts : List RoundStart) (schedules : List Schedule) (texts : List (List ℕ))
    (requested : List ℕ) (later : List Schedule) : Type 0 where
  pub as_many : length later ≡ length texts
  pub fewer : length schedules ≤ length later
  pub known : (r : ℕ) → is_requested requested r ≡ true → r < length later
  pub each : (r : ℕ) (t : Schedule) → slice_get later r ≡ Some t →
      IsPlanOf round (waits r) starts r (is_requested requested r) (slice_get schedules r) t

-- each of these routes opens in some round
abbrev pub AreTimely : List Schedule → Type 0
AreTimely schedules = (r : ℕ) (s : Schedule) → slice_get schedules r ≡ Some s → s.open_round < never

-- What plans have become once the changes before this round were made, by what was requested then: which routes open in it isn't decided yet
abbrev pub Replanned : (round : ℕ) → (requested : List ℕ) → (texts texts' : List (List ℕ)) → (plans plans' : List Schedule) → Type 0
Replanned round requested texts texts' plans plans' =
    (starts : List RoundStart) (schedules : List Schedule) (before : List ℕ) → AreTimely schedules
    → ArePlans round (λ r. ⊥) starts schedules texts before plans
    → ArePlans (suc round) (λ r. Unit {0}) starts schedules texts' (before ++ requested) plans'

-- what plans have become at the start of this round, which is the last one of these
abbrev pub Settled : (start : RoundStart) → (texts : List (List ℕ)) → (plans plans' : List Schedule) → Type 0
Settled start texts plans plans' =
    (starts : List RoundStart) (schedules : List Schedule) (requested : List ℕ) → AreTimely schedules
    → ArePlans (suc start.round) (λ r. Unit {0}) starts schedules texts requested plans
    → ArePlans (suc start.round) (λ r. ⊥) (starts ++ start ∷ []) schedules texts requested plans'

-- the plan of an added route: it waits until no visible route has its name
abbrev pub waiting : Schedule
waiting = record { open_round = never; close_round = None }

-- the earlier one of the closing round, if there is one, and this one
abbrev pub sooner : (round : ℕ) → Option ℕ → ℕ
sooner round (Some close_round) = min close_round round
sooner round None = round

-- the plan of a route that is requested to close before this round begins: if it hasn't opened yet, it never does
abbrev pub closed_from : (round : ℕ) → Schedule → Schedule
closed_from round s =
    record { open_round = if nat_lt s.open_round round then s.open_round else never; close_round = Some (sooner round s.close_round) }

-- whether a route may become visible in this round: it is that of its opening, or the route waits, and its closing round is later
abbrev pub may_open : (round : ℕ) → Schedule → Bool
may_open round s = (s.open_round == round) || ((s.open_round == never) && not (has_come round s.close_round))

-- the plans, with that of this route changed so
abbrev pub update_at : (Schedule → Schedule) → List Schedule → (r : ℕ) → List Schedule
update_at change [] r = []
update_at change (s ∷ plans) zero = change s ∷ plans
update_at change (s ∷ plans) (suc r) = s ∷ update_at change plans r

abbrev pub with_open_round : (open_round : ℕ) → Schedule → Schedule
with_open_round open_round s = record { open_round = open_round; close_round = s.close_round }
