use Rattle.std.proofs.Common.{◌≡◌, ℕ, List, Bool, true, ◌+◌, ◌-◌, ◌*◌, ◌/◌, ◌%◌, ◌<◌, ◌≤◌, ◌⊎◌, [], ◌∷◌, ◌++◌, suc, refl, sym, ap, ◌∙◌, subst, inl}
use Rattle.std.proofs.Common.{inr, arith, rules, slice_index, length, take, map}
use Rattle.srt_aes.specs.Aes.{inv_cipher, inv_state_after, inv_sub_bytes, inv_shift_rows, inv_mix_columns, add_round_key, round_key}
use Rattle.srt_aes.proofs.inverse.open.Goals as goal

one_more : (words : List ℕ) (last : ℕ) (block : List ℕ) (count : ℕ) → 1 ≤ count →
    inv_state_after words last block (count + 1 - 1) ≡
    inv_mix_columns (add_round_key (inv_sub_bytes (inv_shift_rows (inv_state_after words last block (count - 1))))
    (round_key words (last - count)))
unfolding inv_state_after
one_more words last block count some =
    let next : count + 1 - 1 ≡ suc (count - 1) = omega arith in
    let same : count - 1 + 1 ≡ count = omega arith in
    rw (next, same) refl

pub loop-count-init : goal.loop-count-init
unfolding inv_state_after
loop-count-init c = c.add_round_key-state.ensures ∙ ap (add_round_key c.args.block) c.round_key.ensures

pub loop-count-preserved : goal.loop-count-preserved
loop-count-preserved c =
    let words = c.args.words.now in
    let last = c.args.last in
    let count = c.loop-count.count in
    let before = inv_state_after words last c.args.block (count - 1) in
    let bytes = c.inverse_bytes.ensures ∙ ap (λ (v : List ℕ). inv_sub_bytes (inv_shift_rows v)) c.loop-count.invariant in
    let keyed = c.add_round_key.ensures ∙ ap (λ (v : List ℕ). add_round_key v c.round_key-in-loop-count.result) bytes ∙
    ap (add_round_key (inv_sub_bytes (inv_shift_rows before))) c.round_key-in-loop-count.ensures in
    c.unmix-state.ensures ∙ ap inv_mix_columns keyed ∙ sym (one_more words last c.args.block count (omega arith))

pub returns : goal.returns
returns c =
    let words = c.args.words.now in
    let last = c.args.last in
    let same : c.loop-count.count ≡ last = omega arith in
    let before = inv_state_after words last c.args.block (last - 1) in
    let held = c.loop-count.invariant ∙ ap (λ (n : ℕ). inv_state_after words last c.args.block (n - 1)) same in
    let bytes = c.inverse_bytes-2.ensures ∙ ap (λ (v : List ℕ). inv_sub_bytes (inv_shift_rows v)) held in
    c.add_round_key-2.ensures ∙ ap (λ (v : List ℕ). add_round_key v c.round_key-2.result) bytes ∙
    ap (add_round_key (inv_sub_bytes (inv_shift_rows before))) c.round_key-2.ensures
