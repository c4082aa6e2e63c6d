-- What a look at the routes showed of each.
use Rattle.std.specs.Prelude.{◌≡◌, ◌≢◌, ◌⊎◌, ℕ, Bool, true, false, List, Some, length, slice_get, IsOk, IsErr}
use Rattle.std.specs.List.{AllByRecursion}
use Rattle.srt_route.specs.declared.route.Route.{Route}
use Rattle.srt_supervision.specs.declared.order.Order.{Order}
use Rattle.srt_supervision.specs.declared.order.Order.TheVariants.{GoOn}
use Rattle.srt_supervision.specs.declared.refusal.Refusal.{Refusal}
use Rattle.srt_serve.specs.declared.watching.Check.{Check}
use Rattle.srt_serve.specs.inside.Quiet.{HasNoSession, HasSession}
use Rattle.srt_serve.specs.inside.UpTo.{UpTo}

-- what is known of a route that a cell holds, with the number of waiting replies; of a cell that showed none; and of a route once it was shown
-- under an index
module _ {Cell : Type 0} (holds : Cell → Route → (waiting : ℕ) → Type 0) (shows_none : Cell → Type 0) (shown : (index : ℕ) → Route → Type 0) where
  -- the route of this cell was shown under this index, if routes are shown at all, or the cell showed none
  abbrev pub IsShown : (looks : Bool) → (index : ℕ) → Cell → Type 0
  IsShown looks index cell = shows_none cell ⊎ ((route : Route) × (waiting : ℕ) × holds cell route waiting × (looks ≡ true → shown index route))

  -- so it is of the cell at this index
  abbrev pub IsShownAt : (looks : Bool) → List Cell → (index : ℕ) → Type 0
  IsShownAt looks cells index = (cell : Cell) → slice_get cells index ≡ Some cell → IsShown looks index cell

module _ {Cell : Type 0} (holds : Cell → Route → (waiting : ℕ) → Type 0) where
  -- the cell holds a route of which no reply waits, and no session is open
  abbrev pub IsQuiet : Cell → Type 0
  IsQuiet cell = (route : Route) × (waiting : ℕ) × holds cell route waiting × (waiting ≡ 0) × HasNoSession route

  abbrev pub IsQuietAt : List Cell → (index : ℕ) → Type 0
  IsQuietAt cells index = (cell : Cell) → slice_get cells index ≡ Some cell → IsQuiet cell

module _ {Cell : Type 0} (holds : Cell → Route → (waiting : ℕ) → Type 0) (shows_none : Cell → Type 0) where
  -- the cell showed no route, or one of which a reply waits, or a session is open
  abbrev pub IsBusy : Cell → Type 0
  IsBusy cell = shows_none cell ⊎ ((route : Route) × (waiting : ℕ) × holds cell route waiting × ((waiting ≢ 0) ⊎ HasSession route))

  -- so it is of some cell
  abbrev pub IsOneBusy : List Cell → Type 0
  IsOneBusy cells = (index : ℕ) × (cell : Cell) × (slice_get cells index ≡ Some cell) × IsBusy cell

  -- a check counts as quiet only while the order is to close all or to end, if all routes are quiet, with evidence that no outbox has the hint of a
  -- reply; and otherwise it doesn't, if a route is busy, or with evidence that an outbox has one. What was found of the routes was known before the look
  -- at the outboxes
  pub record IsCheckOf (order : Order) (cells : List Cell) (check : Check) : Type 0 where
    pub quiet : check.is_quiet ≡ true → (order ≢ GoOn) × UpTo (IsQuietAt holds cells) (length cells) × IsOk check.seen.outboxes
    pub busy : check.is_quiet ≡ false → (order ≡ GoOn) ⊎ (IsOneBusy cells ⊎ IsErr check.seen.outboxes)
    pub seen_quiet : check.seen.routes.all_quiet ≡ true → UpTo (IsQuietAt holds cells) (length cells)
    pub seen_busy : check.seen.routes.all_quiet ≡ false → (order ≡ GoOn) ⊎ IsOneBusy cells

-- this many refusals were reported to the watcher: `told` is what is known of one then
abbrev pub AreReported : (told : Refusal → Type 0) → (number : ℕ) → Type 0
AreReported told number = (refusals : List Refusal) × (length refusals ≡ number) × AllByRecursion told refusals
