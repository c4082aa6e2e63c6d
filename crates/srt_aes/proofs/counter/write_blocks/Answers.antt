use Rattle.std.proofs.Common.{◌≡◌, ℕ, zero, suc, List, [], ◌∷◌, ◌++◌, ◌+◌, ◌-◌, ◌*◌, ◌/◌, ◌%◌, ◌<◌, ◌≤◌, ◌⊎◌, refl, sym, ap, ◌∙◌, subst, inl, inr}
use Rattle.std.proofs.Common.{arith, rules, slice_index, bit_xor, length, take, map}
use Rattle.srt_aes.specs.inside.Planes.{block_in}
use Rattle.srt_aes.proofs.counter.write_blocks.Goals as goal

-- four blocks, one behind the other
chain : (at : ℕ) (s0 s1 s2 s3 s4 a b c d e f g h : List ℕ) → a ≡ e → b ≡ f → c ≡ g → d ≡ h →
    take (at + 16) s1 ≡ take at s0 ++ a → take (at + 16 + 16) s2 ≡ take (at + 16) s1 ++ b →
    take (at + 32 + 16) s3 ≡ take (at + 32) s2 ++ c → take (at + 48 + 16) s4 ≡ take (at + 48) s3 ++ d →
    take (at + 64) s4 ≡ take at s0 ++ e ++ f ++ g ++ h
chain at s0 s1 s2 s3 s4 a b c d e f g h p q r t w1 w2 w3 w4 =
    let i2 : at + 32 ≡ at + 16 + 16 = omega arith in
    let i3 : at + 48 ≡ at + 32 + 16 = omega arith in
    let i4 : at + 64 ≡ at + 48 + 16 = omega arith in
    let e1 = w1 ∙ ap (λ (v : List ℕ). take at s0 ++ v) p in
    let e2 = ap (λ (n : ℕ). take n s2) i2 ∙ w2 ∙ ap (λ (v : List ℕ). v ++ b) e1 ∙ ap (λ (v : List ℕ). take at s0 ++ e ++ v) q in
    let e3 = ap (λ (n : ℕ). take n s3) i3 ∙ w3 ∙ ap (λ (v : List ℕ). v ++ c) e2 ∙
    ap (λ (v : List ℕ). take at s0 ++ e ++ f ++ v) r in
    ap (λ (n : ℕ). take n s4) i4 ∙ w4 ∙ ap (λ (v : List ℕ). v ++ d) e3 ∙
    ap (λ (v : List ℕ). take at s0 ++ e ++ f ++ g ++ v) t

pub returns : goal.returns
returns c planes is =
    chain c.args.at c.args.stream.now c.write_block.new.stream c.write_block-2.new.stream c.write_block-3.new.stream
    c.write_block-4.new.stream _ _ _ _ _ _ _ _ (c.gather-block.ensures planes is) (c.gather-block-2.ensures planes is)
    (c.gather-block-3.ensures planes is) (c.gather-block-4.ensures planes is) c.write_block.ensures c.write_block-2.ensures
    c.write_block-3.ensures c.write_block-4.ensures
