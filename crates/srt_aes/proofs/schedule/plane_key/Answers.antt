use Rattle.std.proofs.Common.{◌≡◌, ℕ, List, Bool, true, ◌+◌, ◌-◌, ◌*◌, ◌/◌, ◌%◌, ◌<◌, ◌≤◌, ◌⊎◌, [], ◌∷◌, ◌++◌, suc, refl, sym, ap, ◌∙◌, subst, inl}
use Rattle.std.proofs.Common.{inr, arith, rules, slice_index, length, take, map}
use Rattle.std.proofs.lemmas.List.FromFn.{get_or-map-range_with_len}
use Rattle.srt_aes.specs.Aes.{round_key}
use Rattle.srt_aes.specs.inside.Planes.{spread_words, HoldsKey}
use Rattle.srt_aes.proofs.Spreading.{AreBytes, holds-spread}
use Rattle.srt_aes.proofs.schedule.plane_key.Goals as goal

bytes_of_key : (words : List ℕ) (round : ℕ) → ((i : ℕ) → slice_index words i < 256) → AreBytes (round_key words round)
unfolding round_key
bytes_of_key words round small i low =
    subst (λ (n : ℕ). n < 256)
    (sym (get_or-map-range_with_len (λ k. slice_index words (16 * round + k)) 0 16 i i 0 low (omega arith)))
    (small (16 * round + i))

pub full_key : (words : List ℕ) (round : ℕ) → length (round_key words round) ≡ 16
unfolding round_key
full_key words round = refl

pub returns : goal.returns
returns c =
    let words = c.args.words.now in
    let round = c.args.round in
    let turn : ℕ = round % 4 in
    let made = c.spread.ensures ∙ ap (λ (v : List ℕ). spread_words turn v 16) c.round_key.ensures in
    subst (λ (p : List ℕ). HoldsKey p turn (round_key words round)) (sym made)
    (holds-spread turn (round_key words round) (bytes_of_key words round (λ i. (c.type_inv.words i).fits)) (full_key words round) (omega arith))
