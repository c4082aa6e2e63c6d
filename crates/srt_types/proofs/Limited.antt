-- Numbers that are within their limits.
use Rattle.std.proofs.Common.{◌≡◌, ℕ, ◌≤◌, true, arith}
use Rattle.std.proofs.lemmas.Bool.{and_parts}
use Rattle.std.proofs.lemmas.Bool.Decides.{nat_tests}
use Rattle.srt_types.specs.Entries.{is_between}

pub few_routes : (n : ℕ) → is_between 1 511 n ≡ true → n ≤ 511
few_routes n h = grind (arith, nat_tests, and_parts)
