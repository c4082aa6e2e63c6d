-- Repeated refusals of one caller (our choice): the first one has its line, and the others are counted; each ten seconds a line tells the count.
use Rattle.std.specs.Prelude.{◌≡◌, ℕ, ◌+◌, ◌-◌, ◌^◌, ◌==◌, ◌<◌, min, nat_le, nat_lt, Bool, true, false, not, ◌&&◌, if◌then◌else◌}
use Rattle.std.specs.Prelude.{List, [], ◌∷◌, ◌++◌, length, map, take, Option, None, Some, option_map, slice_get}
use Rattle.std.specs.List.{remove, position, sum_by}
use Rattle.std.specs.Str.{bytes_eq}
use Rattle.srt_types.specs.declared.shared.NotAdmitted.{NotAdmitted}
use Rattle.srt_types.specs.declared.shared.NotAdmitted.TheVariants as obstacles
use Rattle.srt_types.specs.declared.shared.Role.TheVariants.{Publish, Request}
use Rattle.srt_log.specs.declared.repeats.Refusal.{Refusal}
use Rattle.srt_log.specs.declared.repeats.Repeat.{Repeat}
use Rattle.srt_log.specs.declared.repeats.RefusalRepeats.{RefusalRepeats}
use Rattle.srt_log.specs.declared.repeats.Telling.{Telling}
use Rattle.srt_log.specs.declared.repeats.Telling.TheVariants.{Line, Counted}

-- a caller that was refused: its address, the front of the name that it requested, and why; when its last line was written, and how many
-- refusals were counted since
pub record Caller : Type 0 where
  pub ip : List ℕ
  pub code : ℕ
  pub by : Option NotAdmitted
  pub name : List ℕ
  pub since : ℕ
  pub count : ℕ

abbrev pub caller_of : Repeat → Caller
caller_of r = record { ip = r.ip; code = r.code; by = r.by; name = r.name.items; since = r.since; count = r.count }

abbrev pub callers_of : List Repeat → List Caller
callers_of = map caller_of

-- the first 64 bytes of a name
abbrev pub front : (name : List ℕ) → List ℕ
front name = if nat_le (length name) 64 then name else take 64 name

-- the caller of a refusal that has its line at this time
abbrev pub begun : Refusal → (moment : ℕ) → Caller
begun refusal moment =
    record { ip = refusal.peer.ip; code = refusal.code; by = refusal.by; name = front refusal.name.now; since = moment; count = 0 }

-- each cause has a number of its own
abbrev pub cause_number : Option NotAdmitted → ℕ
cause_number None = 0
cause_number (Some obstacles.NoName) = 1
cause_number (Some obstacles.UnknownName) = 2
cause_number (Some (obstacles.Address Publish)) = 3
cause_number (Some (obstacles.Address Request)) = 4
cause_number (Some (obstacles.Key Publish)) = 5
cause_number (Some (obstacles.Key Request)) = 6

-- a refusal of this caller, whatever its port, for the same name and reason; of a name the first 64 bytes count
abbrev pub is_of : Refusal → Caller → Bool
is_of refusal c =
    bytes_eq c.ip refusal.peer.ip && c.code == refusal.code && cause_number c.by == cause_number refusal.by
    && bytes_eq c.name (front refusal.name.now)

-- ten seconds have passed since its line
abbrev pub is_over : (moment : ℕ) → Caller → Bool
is_over moment c = nat_le 10_000_000 (moment - c.since)

-- and none was counted in them, or some were
abbrev pub is_lapsed : (moment : ℕ) → Caller → Bool
is_lapsed moment c = is_over moment c && c.count == 0

abbrev pub is_due : (moment : ℕ) → Caller → Bool
is_due moment c = is_over moment c && not (c.count == 0)

abbrev pub one_more : Caller → Caller
one_more c = record c { count = min (c.count + 1) (2 ^ 64 - 1) }

-- these callers without the one at this place, and another one behind them
abbrev pub behind : List Caller → (at : ℕ) → Caller → List Caller
behind callers at c = remove callers at ++ c ∷ []

-- a refusal of the caller at this place
abbrev pub told_again : Refusal → (moment : ℕ) → Caller → Caller
told_again refusal moment c = if is_lapsed moment c then begun refusal moment else one_more c

abbrev pub noted_again : List Caller → Refusal → (moment at : ℕ) → Option Caller → List Caller
noted_again callers refusal moment at None = callers
noted_again callers refusal moment at (Some c) = behind callers at (told_again refusal moment c)

-- a refusal of another caller: 32 callers are known at most, and one of which none was counted for ten seconds makes room
abbrev pub noted_instead : List Caller → Refusal → (moment at : ℕ) → Option Caller → List Caller
noted_instead callers refusal moment at None = callers
noted_instead callers refusal moment at (Some c) = behind callers at (begun refusal moment)

abbrev pub noted_full : List Caller → Refusal → (moment : ℕ) → (lapsed : Option ℕ) → List Caller
noted_full callers refusal moment None = callers
noted_full callers refusal moment (Some at) = noted_instead callers refusal moment at (slice_get callers at)

abbrev pub noted_first : List Caller → Refusal → (moment : ℕ) → List Caller
noted_first callers refusal moment =
    if nat_lt (length callers) 32 then callers ++ begun refusal moment ∷ []
    else noted_full callers refusal moment (position (is_lapsed moment) callers)

abbrev pub noted_at : List Caller → Refusal → (moment : ℕ) → Option ℕ → List Caller
noted_at callers refusal moment None = noted_first callers refusal moment
noted_at callers refusal moment (Some at) = noted_again callers refusal moment at (slice_get callers at)

-- the callers after a refusal at this time
abbrev pub noted : List Caller → Refusal → (moment : ℕ) → List Caller
noted callers refusal moment = noted_at callers refusal moment (position (is_of refusal) callers)

-- it has its own line, unless its caller has one that isn't ten seconds old, or some were counted since
abbrev pub telling_again : (moment : ℕ) → Option Caller → Telling
telling_again moment None = Line
telling_again moment (Some c) = if is_lapsed moment c then Line else Counted

abbrev pub telling_at : List Caller → (moment : ℕ) → Option ℕ → Telling
telling_at callers moment None = Line
telling_at callers moment (Some at) = telling_again moment (slice_get callers at)

abbrev pub telling_of : List Caller → Refusal → (moment : ℕ) → Telling
telling_of callers refusal moment = telling_at callers moment (position (is_of refusal) callers)

-- a count that is told at this time: that of the first caller of which some were counted for ten seconds; the next ten begin
abbrev pub begun_again : (moment : ℕ) → Caller → Caller
begun_again moment c = record c { since = moment; count = 0 }

abbrev pub due_at : List Caller → Option ℕ → Option Caller
due_at callers None = None
due_at callers (Some at) = slice_get callers at

abbrev pub taken_from : List Caller → (moment at : ℕ) → Option Caller → List Caller
taken_from callers moment at None = callers
taken_from callers moment at (Some c) = behind callers at (begun_again moment c)

abbrev pub taken_at : List Caller → (moment : ℕ) → Option ℕ → List Caller
taken_at callers moment None = callers
taken_at callers moment (Some at) = taken_from callers moment at (slice_get callers at)

abbrev pub due_of : List Caller → (moment : ℕ) → Option Caller
due_of callers moment = due_at callers (position (is_due moment) callers)

abbrev pub taken : List Caller → (moment : ℕ) → List Caller
taken callers moment = taken_at callers moment (position (is_due moment) callers)

-- the refusals that were counted and aren't told yet
abbrev pub waiting : List Caller → ℕ
waiting callers = sum_by (λ (c : Caller). c.count) callers

abbrev pub lines_of : Telling → ℕ
lines_of Line = 1
lines_of Counted = 0

-- each refusal has its own line or is counted
abbrev pub EachIsToldOrCounted : Type 0
EachIsToldOrCounted =
    (callers : List Caller) (refusal : Refusal) (moment : ℕ) → waiting callers < 2 ^ 64 - 1 →
    waiting (noted callers refusal moment) + lines_of (telling_of callers refusal moment) ≡ waiting callers + 1

abbrev pub count_if : Option Caller → ℕ
count_if None = 0
count_if (Some c) = c.count

-- what is counted is told once
abbrev pub CountsAreToldOnce : Type 0
CountsAreToldOnce =
    (callers : List Caller) (moment : ℕ) → waiting (taken callers moment) + count_if (due_of callers moment) ≡ waiting callers
