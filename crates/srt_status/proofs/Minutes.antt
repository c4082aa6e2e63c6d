-- A minute put behind the others.
use Rattle.std.proofs.Common.{◌≡◌, ℕ, List, [], ◌∷◌, ◌++◌, length, take, drop, subst, arith, Option, Some}
use Rattle.std.specs.Prelude.{slice_set}
use Rattle.std.proofs.Math.Seq.{set-append_seam}
use Rattle.srt_status.specs.declared.history.Minute.{Minute}
use Rattle.srt_status.specs.History.{with_minute}

-- the first one goes to the end, and the new one takes its place
pub put_last : (xs : List (Option Minute)) (minute : Minute) → length xs ≡ 60 → slice_set (drop 1 xs ++ take 1 xs) 59 (Some minute) ≡ with_minute xs minute
put_last [] minute e = absurd (omega (arith, e))
put_last (x ∷ xs) minute e =
    let many : length xs ≡ 59 = omega (arith, e) in
    subst (λ (n : ℕ). slice_set (xs ++ x ∷ []) n (Some minute) ≡ xs ++ Some minute ∷ []) many (set-append_seam xs x [] (Some minute))
