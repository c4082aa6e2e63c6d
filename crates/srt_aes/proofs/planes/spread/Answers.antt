use Rattle.std.proofs.Common.{◌≡◌, ℕ, List, ◌+◌, ◌-◌, ◌*◌, ◌<◌, ◌≤◌, ◌⊎◌, suc, refl, sym, ap, ◌∙◌, subst, inl, inr, arith, rules, slice_index, length, take}
use Rattle.srt_aes.specs.inside.Planes.{spread_words, sums, nibbles, slot}
use Rattle.srt_aes.proofs.planes.spread.Goals as goal

pub loop-index-init : goal.loop-index-init
unfolding spread_words
loop-index-init c = refl

pub loop-index-preserved : goal.loop-index-preserved
unfolding spread_words
loop-index-preserved c =
    let index = c.loop-index.index in
    let byte = slice_index c.args.bytes.now index in
    let next : index + 1 ≡ suc index = omega arith in
    rw next (c.put.ensures ∙ ap (λ (w : List ℕ). sums w (nibbles byte c.slot.result)) c.loop-index.invariant ∙
    ap (λ (s : ℕ). sums (spread_words c.args.turn c.args.bytes.now index) (nibbles byte s)) c.slot.ensures.value)
