-- Text of the log that waits behind what was written.
use Rattle.std.proofs.Common.{arith, ◌≡◌, ℕ, zero, suc, ◌+◌, ◌-◌, ◌≤◌, true, nat_eq, List, [], ◌∷◌, ◌++◌, append_assoc, length, drop, min, take}
use Rattle.std.proofs.Common.{refl, sym, ap, ◌∙◌}
use Rattle.std.proofs.lemmas.Bool.Decides.{nat_tests}
use Rattle.std.proofs.lemmas.List.{length-drop, length-take, drop_all, take_min, take-append-drop}
use Rattle.srt_host.specs.Held.{IsRest}

pub all_written : (n len : ℕ) (xs : List ℕ) → n ≤ length xs → len ≡ length xs → nat_eq n len ≡ true → drop n xs ≡ []
all_written n len xs within whole all =
    let same : n ≡ len = grind (arith, nat_tests) in
    drop_all n xs (omega (arith, same, whole))

pub none_waits : (n len : ℕ) (xs : List ℕ) → n ≤ length xs → len ≡ length xs → drop n xs ≡ [] → nat_eq n len ≡ true
none_waits n len xs within whole none =
    let left : length xs - n ≡ 0 = sym (length-drop n xs) ∙ ap length none in
    let same : n ≡ len = omega (arith, left, whole, within) in
    grind (arith, nat_tests)

-- the oldest bytes that wait, by the place of the last of them
pub piece : (n most count len : ℕ) (ys xs : List ℕ) → count ≡ min most (len - n) → len ≡ length xs → ys ≡ xs →
    take (count + n - n) (drop n ys) ≡ take most (drop n xs)
piece n most count len ys xs is whole same =
    let few : count + n - n ≡ count = omega arith in
    (λ i. take (few i) (drop n (same i)))
    ∙ ap (λ k. take k (drop n xs)) (is ∙ ap (λ k. min most (k - n)) whole ∙ ap (min most) (sym (length-drop n xs)))
    ∙ take_min most (drop n xs)

-- no more bytes are taken away than wait
pub within : (n count : ℕ) (xs : List ℕ) → n ≤ length xs → count ≤ length (drop n xs) → n + count ≤ length xs
within n count xs few fits = let e : length (drop n xs) ≡ length xs - n = length-drop n xs in omega (arith, e, fits, few)

pub few_taken : (most : ℕ) (xs : List ℕ) → length (take most xs) ≤ length xs
few_taken most xs = let e : length (take most xs) ≡ min most (length xs) = length-take most xs in omega (arith, e)

pub drop_taken : (n : ℕ) (xs : List ℕ) → drop (length (take n xs)) xs ≡ drop n xs
drop_taken zero [] = refl
drop_taken zero (x ∷ xs) = refl
drop_taken (suc n) [] = refl
drop_taken (suc n) (x ∷ xs) = drop_taken n xs

-- what is left of a rest is one
pub rest_of_rest : (n : ℕ) (xs ys zs : List ℕ) → IsRest xs ys → zs ≡ drop n ys → IsRest xs zs
rest_of_rest n xs ys zs h same = (
  h.0 ++ take n ys,
  h.1 ∙ ap (λ l. h.0 ++ l) (sym (take-append-drop n ys)) ∙ sym (append_assoc h.0 (take n ys) (drop n ys))
      ∙ ap (λ l. (h.0 ++ take n ys) ++ l) (sym same),
)
