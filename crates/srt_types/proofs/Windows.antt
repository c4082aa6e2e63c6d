-- The value of in_window is the only number of the window, and numbers may be relative to an initial one.
use Rattle.std.proofs.Common.{arith}
use Rattle.std.proofs.lemmas.Bool.Decides.{nat_tests}
use Rattle.srt_types.specs.Window.{in_window, InWindowIsTheNumber, NumbersFromInitial}

pub in_window_is : InWindowIsTheNumber
unfolding in_window
in_window_is word front width w = grind (arith, nat_tests)

pub numbers_from_initial : NumbersFromInitial
unfolding in_window
numbers_from_initial initial word front width = grind (arith, nat_tests)
