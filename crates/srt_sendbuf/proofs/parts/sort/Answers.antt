use Rattle.std.proofs.Common.{◌≡◌, ℕ, List, ◌++◌, length, refl, sym, ap, subst, ◌∙◌, rules, arith}
use Rattle.std.specs.Prelude.{take}
use Rattle.std.specs.List.{refill}
use Rattle.std.specs.List.Sorted.{IsPermutation, IsNonDecreasingBy}
use Rattle.std.proofs.lemmas.List.{drop_all, take_all, append-nil}
use Rattle.std.proofs.lemmas.List.Sorted.{IsNonDecreasingBy-from_sort_by_key}
use Rattle.srt_sendbuf.proofs.parts.sort.Goals as goal

refilled : {X : Type 0} (n : ℕ) (xs ws : List X) → length xs ≡ n → length ws ≡ n → refill n xs ws ≡ ws
refilled n xs ws e f =
    ap (λ ys. take n (ws ++ ys)) (drop_all (length ws) xs (omega (arith, e, f))) ∙ ap (λ ys. take n ys) (append-nil ws)
    ∙ take_all n ws (omega (arith, f))

pub returns-clause-same : goal.returns-clause-same
returns-clause-same c =
    let old = c.args.parts.now.items in
    let new = c.sort_unstable_by_key.new.self in
    let among : IsPermutation old new = subst (λ xs. IsPermutation xs new) c.as_mut_slice.ensures.value c.sort_unstable_by_key.ensures.permutation in
    subst (λ xs. IsPermutation old xs)
    (sym (refilled (length old) old new refl (c.sort_unstable_by_key.ensures.len ∙ ap length c.as_mut_slice.ensures.value))) among

pub returns-clause-ascending : goal.returns-clause-ascending
returns-clause-ascending c =
    let old = c.args.parts.now.items in
    let new = c.sort_unstable_by_key.new.self in
    subst (λ xs. IsNonDecreasingBy (λ part. part.0) xs)
    (sym (refilled (length old) old new refl (c.sort_unstable_by_key.ensures.len ∙ ap length c.as_mut_slice.ensures.value)))
    (IsNonDecreasingBy-from_sort_by_key (λ part. part.0) _ c.sort_unstable_by_key.ensures.sorted (λ a r q k. search rules))
