use Rattle.std.proofs.Common.{◌≡◌, ℕ, List, ◌+◌, ◌-◌, ◌<◌, ◌≤◌, ◌⊎◌, refl, sym, ap, ◌∙◌, subst, inl, inr, arith, rules, slice_index, bit_xor, length, map}
use Rattle.std.proofs.lemmas.List.{get_or-set_same, get_or-set_other, length-set, get_or-map, length-map}
use Rattle.std.proofs.lemmas.List.FromFn.{fill_by_all}
use Rattle.std.proofs.lemmas.Bool.{cases_lt}
use Rattle.std.proofs.Math.ListN.{set}
use Rattle.srt_keys.proofs.hmac.xored.Goals as goal

pub loop-i-preserved : goal.loop-i-preserved
loop-i-preserved c =
    let i = c.loop-i.i in
    let sums = c.loop-i.sums in
    let bytes = c.args.bytes.now in
    let sum : ℕ = bit_xor (slice_index bytes i) c.args.byte in
    let full = c.loop-i.invariant.0 in (
      length-set sums i sum ∙ full,
      λ k below.
          elim (cases_lt k i) [
            | inl less ↦ get_or-set_other sums i k sum 0 (λ e. omega arith) ∙ c.loop-i.invariant.1 k less
            | inr more ↦
                let here : k ≡ i = omega arith in
                subst (λ (n : ℕ). slice_index (set sums i sum) n ≡ bit_xor (slice_index bytes n) c.args.byte) (sym here)
                (get_or-set_same sums i sum 0 (omega arith))
          ],
    )

pub returns : goal.returns
returns c =
    let bytes = c.args.bytes.now in
    let f = λ (b : ℕ). bit_xor b c.args.byte in
    let g = λ (k : ℕ). f (slice_index bytes k) in
    let long = c.told-bytes in
    fill_by_all g c.loop-i.sums 64 0 c.loop-i.invariant.0 (λ k below. c.loop-i.invariant.1 k (omega arith)) ∙
    sym (fill_by_all g (map f bytes) 64 0 (length-map bytes f ∙ long) (λ k below. get_or-map f bytes k 0 0 (omega arith)))
