-- Pieces of a list.
use Rattle.std.proofs.Common.{◌≡◌, ℕ, ◌+◌, ◌≤◌, List, ◌++◌, length, take, drop, sym, subst, arith, length-append}
use Rattle.std.proofs.Math.Seq.{take-append-add}
use Rattle.std.proofs.lemmas.List.{take_all, drop-drop}

-- bytes that fit are taken whole
pub taken_whole : (x a : List ℕ) → length x + length a ≤ 4096 → x ++ a ≡ take 4096 (x ++ a)
taken_whole x a within =
    let fits : length (x ++ a) ≤ 4096 = omega (arith, length-append x a) in
    sym (take_all 4096 (x ++ a) fits)

-- of others their front is taken
pub taken_front : (x a : List ℕ) (room : ℕ) → room + length x ≡ 4096 → x ++ take room a ≡ take 4096 (x ++ a)
taken_front x a room e =
    let full : length x + room ≡ 4096 = omega (arith, e) in
    sym (subst (λ (n : ℕ). take n (x ++ a) ≡ x ++ take room a) full (take-append-add x a room))

-- what is left of what is left
pub dropped_twice : (n m : ℕ) (x : List ℕ) → drop m (drop n x) ≡ drop (n + m) x
dropped_twice n m x = drop-drop m n x
