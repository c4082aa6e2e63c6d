-- When the log tells that an expected route has no active publisher.
use Rattle.std.proofs.Common.{◌≡◌, ℕ, ◌+◌, ◌-◌, ◌/◌, ◌≤◌, nat_le, Bool, true, false, None, Some, refl, if◌then◌else◌, arith}
use Rattle.std.proofs.lemmas.Bool.Decides.{nat_tests}
use Rattle.srt_status.specs.Expectations.{told_by, line_if, lines_due, TellsAtOnce, TellsEachTenMinutes}

first_line : (moment : ℕ) → line_if 0 ((moment - moment) / 600_000_000 + 1) ≡ Some 0
first_line moment = let none : moment - moment ≡ 0 = omega arith in rw none refl

pub tells_at_once : TellsAtOnce
tells_at_once e before moment = first_line moment

at_least : (told a b : ℕ) (t : Bool) → nat_le a told ≡ t → b ≤ a → nat_le b (if t then told else a) ≡ true
at_least told a b true is le = grind (arith, nat_tests, is, le)
at_least told a b false is le = grind (arith, nat_tests, le)

no_more : (told a b : ℕ) → b ≤ a → line_if (told_by told a) b ≡ None
no_more told a b le = rw (at_least told a b (nat_le a told) refl le) refl

pub tells_each_ten_minutes : TellsEachTenMinutes
tells_each_ten_minutes e since before moment is le =
    let later : lines_due since moment ≤ lines_due since before = omega (arith, le) in
    rw is (no_more e.told (lines_due since before) (lines_due since moment) later)
