-- The shares of a second's lines: those about sessions have one, refusals another. By all calls so far, the newest first.
use Rattle.std.specs.Prelude.{◌≡◌, ℕ, ◌+◌, ◌-◌, ◌^◌, ◌≤◌, Bool, true, false, List, [], ◌∷◌, ◌++◌, min, if◌then◌else◌}
use Rattle.srt_log.specs.declared.line_limits.LineKind.{LineKind}
use Rattle.srt_log.specs.declared.line_limits.LineKind.TheVariants.{Session, Refusal}
use Rattle.srt_log.specs.declared.line_limits.LineShares.{LineShares}
use Rattle.srt_log.specs.LineLimit.{LimitCall, lines_in, is_within, omitted_within, written_within, StandsFor, all_lines, all_written, all_omitted}

-- how many lines of a second are of a kind at most
abbrev pub share_of : LineKind → ℕ
share_of Session = 40
share_of Refusal = 10

-- a line of a kind
pub record SharedCall : Type 0 where
  pub kind : LineKind
  pub call : LimitCall

abbrev pub line_of : LineKind → (moment : ℕ) → SharedCall
line_of kind moment = record { kind = kind; call = record { is_line = true; moment = moment } }

-- a look whether a new second has begun, at both kinds
abbrev pub poll_of : LineKind → (moment : ℕ) → SharedCall
poll_of kind moment = record { kind = kind; call = record { is_line = false; moment = moment } }

abbrev pub polled : (moment : ℕ) → List SharedCall → List SharedCall
polled moment calls = poll_of Session moment ∷ poll_of Refusal moment ∷ calls

abbrev pub is_kind : LineKind → LineKind → Bool
is_kind Session Session = true
is_kind Session Refusal = false
is_kind Refusal Session = false
is_kind Refusal Refusal = true

-- what there was of a kind
abbrev pub calls_of : LineKind → List SharedCall → List LimitCall
calls_of kind [] = []
calls_of kind (a ∷ calls) = if is_kind kind a.kind then a.call ∷ calls_of kind calls else calls_of kind calls

-- a line of a kind at this moment is within its kind's share of the second
abbrev pub is_shared : List SharedCall → LineKind → (moment : ℕ) → Bool
is_shared calls kind moment = is_within (share_of kind) (calls_of kind calls) moment

-- what the latest second of a kind left out, where a new one begins at this moment
abbrev pub omitted_of : List SharedCall → LineKind → (moment : ℕ) → ℕ
omitted_of calls kind moment = omitted_within (share_of kind) (calls_of kind calls) moment

-- the same of both kinds together, up to 2^64 - 1
abbrev pub omitted_in : List SharedCall → (moment : ℕ) → ℕ
omitted_in calls moment = min (omitted_of calls Session moment + omitted_of calls Refusal moment) (2 ^ 64 - 1)

-- what the latest second of a kind has left out so far, and of both kinds
abbrev pub beyond_of : List SharedCall → LineKind → ℕ
beyond_of calls kind = lines_in (calls_of kind calls) - share_of kind

abbrev pub beyond_in : List SharedCall → ℕ
beyond_in calls = min (beyond_of calls Session + beyond_of calls Refusal) (2 ^ 64 - 1)

-- each kind has a limit of its own
pub record AreShares (shares : LineShares) (calls : List SharedCall) : Type 0 where
  pub sessions : StandsFor shares.sessions (calls_of Session calls)
  pub refusals : StandsFor shares.refusals (calls_of Refusal calls)

-- none of these calls is about a line of this kind
abbrev pub AreOthers : LineKind → List SharedCall → Type 0
AreOthers kind [] = Unit {0}
AreOthers kind (a ∷ flood) = (is_kind kind a.kind ≡ false) × AreOthers kind flood

-- a flood of other lines never costs a line of this kind, nor adds one to those left out
pub record KeepsApart (kind : LineKind) (flood calls : List SharedCall) (moment : ℕ) : Type 0 where
  pub written : is_shared (flood ++ calls) kind moment ≡ is_shared calls kind moment
  pub omitted : omitted_of (flood ++ calls) kind moment ≡ omitted_of calls kind moment

-- the lines of a kind that were written in its latest second
abbrev pub written_of : LineKind → List SharedCall → ℕ
written_of kind calls = written_within (share_of kind) (calls_of kind calls)

-- of each kind the first lines of a second are written, as many as its share has, and of both together no more than fifty
pub record KeepsShares (calls : List SharedCall) : Type 0 where
  pub first_ones : (kind : LineKind) → written_of kind calls ≡ min (lines_in (calls_of kind calls)) (share_of kind)
  pub most : written_of Session calls + written_of Refusal calls ≤ 50

-- each line of a kind is written, was counted as left out, or is left out in the latest second
abbrev pub CountsEachLine : LineKind → Type 0
CountsEachLine kind = (calls : List SharedCall) → all_lines (calls_of kind calls) ≤ 2 ^ 64 - 1
    → all_lines (calls_of kind calls)
    ≡ all_written (share_of kind) (calls_of kind calls) + all_omitted (share_of kind) (calls_of kind calls) + beyond_of calls kind
