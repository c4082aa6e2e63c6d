-- Durations, computed.
use Rattle.std.proofs.Common.{◌≡◌, None, Some, codes, refl}
use Rattle.srt_command_line.specs.Durations.{duration_in}

seconds_alone : duration_in (codes "90") ≡ Some 90_000_000
seconds_alone = refl

parts : duration_in (codes "1h30m") ≡ Some 5_400_000_000
parts = refl

all_units : duration_in (codes "1d2h3m4s") ≡ Some 93_784_000_000
all_units = refl

number_behind_a_part : duration_in (codes "1h30") ≡ None
number_behind_a_part = refl

smaller_unit_first : duration_in (codes "30m1h") ≡ None
smaller_unit_first = refl

unit_twice : duration_in (codes "1h1h") ≡ None
unit_twice = refl

unit_without_a_number : duration_in (codes "h") ≡ None
unit_without_a_number = refl
