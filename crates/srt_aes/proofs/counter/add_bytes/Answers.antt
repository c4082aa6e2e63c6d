use Rattle.std.proofs.Common.{◌≡◌, ℕ, zero, suc, List, [], ◌∷◌, ◌++◌, ◌+◌, ◌-◌, ◌*◌, ◌/◌, ◌%◌, ◌<◌, ◌≤◌, ◌⊎◌, refl, sym, ap, ◌∙◌, subst, inl, inr}
use Rattle.std.proofs.Common.{arith, rules, slice_index, bit_xor, length, take, map}
use Rattle.std.proofs.lemmas.List.{get_or-set_same, get_or-set_other, length-set}
use Rattle.std.proofs.lemmas.List.FromFn.{fill_by_all}
use Rattle.std.proofs.lemmas.Simd.{get_or-zip2}
use Rattle.std.proofs.lemmas.Bool.{cases_lt}
use Rattle.std.proofs.Math.ListN.{set}
use lib.Lanes.{zip2}
use Rattle.srt_aes.proofs.Counting.{length-zip2}
use Rattle.srt_aes.proofs.counter.add_bytes.Goals as goal

pub loop-i-preserved : goal.loop-i-preserved
loop-i-preserved c =
    let i = c.loop-i.i in
    let now = c.loop-i.bytes in
    let old = c.args.bytes.now in
    let stream = c.args.other.now in
    let sum : ℕ = bit_xor (slice_index now i) (slice_index stream i) in (
      λ k below.
          elim (cases_lt k i) [
            | inl less ↦ get_or-set_other now i k sum 0 (λ e. omega arith) ∙ c.loop-i.invariant.0 k less
            | inr more ↦
                let here : k ≡ i = omega arith in
                subst (λ (n : ℕ). slice_index (set now i sum) n ≡ bit_xor (slice_index old n) (slice_index stream n)) (sym here)
                (get_or-set_same now i sum 0 (omega arith) ∙
                ap (λ (n : ℕ). bit_xor n (slice_index stream i)) (c.loop-i.invariant.1 i (omega arith)))
          ],
      λ k later. get_or-set_other now i k sum 0 (λ e. omega arith) ∙ c.loop-i.invariant.1 k (omega arith),
    )

pub returns : goal.returns
returns c =
    let old = c.args.bytes.now in
    let stream = c.args.other.now in
    let g = λ (k : ℕ). bit_xor (slice_index old k) (slice_index stream k) in
    fill_by_all g c.loop-i.bytes (length old) 0 c.loop-i.auto.bytes (λ k below. c.loop-i.invariant.0 k (omega arith)) ∙
    sym (fill_by_all g (zip2 bit_xor old stream) (length old) 0 (length-zip2 old stream (omega arith))
    (λ k below. get_or-zip2 bit_xor old stream k 0 0 0 below (omega arith)))
