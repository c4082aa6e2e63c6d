-- What is expected of a route: that it is on air (our choice).
use Rattle.std.specs.Prelude.{◌≡◌, ℕ, ◌+◌, ◌-◌, ◌*◌, ◌/◌, ◌≤◌, nat_le, Bool, true, false, List, Option, None, Some, if◌then◌else◌}
use Rattle.std.specs.List.{list_any}
use Rattle.srt_route.specs.declared.view.SessionView.{SessionView}
use Rattle.srt_status.specs.declared.expectation.Expectation.{Expectation}

-- a slot has the active publisher
abbrev pub has_active : Option SessionView → Bool
has_active None = false
has_active (Some session) = session.is_active

-- a route with these open sessions is on air: one of them is the active publisher
abbrev pub is_on_air : List (Option SessionView) → Bool
is_on_air slots = list_any has_active slots

-- the one of a route that is on air, or wasn't looked at
abbrev pub met : Expectation
met = record { absent_since = None; absent_for = 0; told = 0 }

-- since when a route has no active publisher that has none at this time
abbrev pub begun : (since : Option ℕ) → (moment : ℕ) → ℕ
begun None moment = moment
begun (Some since) moment = since

-- the lines that are due at this time: one as it begins, and one more for each ten minutes
abbrev pub lines_due : (since moment : ℕ) → ℕ
lines_due since moment = (moment - since) / 600_000_000 + 1

-- the number of lines that there are, once those that are due are written
abbrev pub told_by : (told due : ℕ) → ℕ
told_by told due = if nat_le due told then told else due

abbrev pub unmet : Expectation → (since moment : ℕ) → Expectation
unmet e since moment = record { absent_since = Some since; absent_for = moment - since; told = told_by e.told (lines_due since moment) }

-- after a look at this time, at which the route is on air or isn't
abbrev pub looked : Expectation → (on_air : Bool) → (moment : ℕ) → Expectation
looked e on_air moment = if on_air then met else unmet e (begun e.absent_since moment) moment

-- the line that is due, by the tens of minutes that it has lasted
abbrev pub line_if : (told due : ℕ) → Option ℕ
line_if told due = if nat_le due told then None else Some ((due - 1) * 10)

-- the minutes that a line at this look tells of, if there is to be one
abbrev pub line_at : Expectation → (on_air : Bool) → (moment : ℕ) → Option ℕ
line_at e on_air moment = if on_air then None else line_if e.told (lines_due (begun e.absent_since moment) moment)

-- a route that isn't expected to be on air has none; one that is keeps the one that it had
abbrev pub met_if_new : Option Expectation → Option Expectation
met_if_new None = Some met
met_if_new (Some e) = Some e

abbrev pub expected_if : Bool → Option Expectation → Option Expectation
expected_if expected before = if expected then met_if_new before else None

-- whole seconds
abbrev pub seconds_absent : Expectation → ℕ
seconds_absent e = e.absent_for / 1_000_000

-- a route that was on air and isn't has a line at once
abbrev pub TellsAtOnce : Type 0
TellsAtOnce = (e : Expectation) (before moment : ℕ) → line_at (looked e true before) false moment ≡ Some 0

-- after a line there is none until ten minutes more of the absence are over
abbrev pub TellsEachTenMinutes : Type 0
TellsEachTenMinutes =
    (e : Expectation) (since before moment : ℕ) → e.absent_since ≡ Some since → (moment - since) / 600_000_000 ≤ (before - since) / 600_000_000 →
    line_at (looked e false before) false moment ≡ None
