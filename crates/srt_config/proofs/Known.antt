-- Bytes that are known, or not.
use Rattle.std.proofs.Common.{ℕ, List, [], ◌++◌, ◌+◌, ◌≤◌, ◌≡◌, length, take, Option, None, Some, IfSome, ap, ◌∙◌, arith, min}
use Rattle.std.specs.Prelude.{option_map}
use Rattle.std.proofs.lemmas.List.{length-take, take_all}

-- what holds of all bytes holds of known ones
pub of_known : (known : Option (List ℕ)) (P : List ℕ → Type 0) → ((xs : List ℕ) → P xs) → IfSome known P
of_known None P h = tt
of_known (Some xs) P h = h xs

-- a piece that was cut off behind one more than the limit, and is no longer than the limit, is all of the bytes
pub all_read : (limit bound : ℕ) (known : Option (List ℕ)) (front items : List ℕ) → bound ≡ limit + 1 → front ≡ []
    → IfSome (option_map (take bound) known) (λ xs. items ≡ front ++ xs) → length items ≤ limit
    → IfSome known (λ xs. items ≡ xs)
all_read limit bound None front items b f read within = tt
all_read limit bound (Some xs) front items b f read within =
    let begun : items ≡ take bound xs = read ∙ ap (λ ys. ys ++ take bound xs) f in
    let long : length items ≡ min bound (length xs) = ap length begun ∙ length-take bound xs in
    begun ∙ take_all bound xs (omega (arith, long, within, b))
