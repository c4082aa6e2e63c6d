use Rattle.std.proofs.Common.{◌≡◌, ℕ, List, Bool, true, ◌+◌, ◌-◌, ◌*◌, ◌/◌, ◌%◌, ◌<◌, ◌≤◌, ◌⊎◌, [], ◌∷◌, ◌++◌, suc, refl, sym, ap, ◌∙◌, subst, inl}
use Rattle.std.proofs.Common.{inr, arith, rules, slice_index, length, take, map}
use Rattle.srt_aes.specs.Aes.{aes, cipher, schedule_of, rounds_of}
use Rattle.srt_aes.specs.inside.Planes.{block_in, byte_at, closed_words}
use Rattle.srt_aes.specs.Keys.{key_of}
use Rattle.srt_aes.specs.inside.Transposing.{transposed_words}
use Rattle.srt_aes.proofs.Blocks.{held-closed}
use Rattle.srt_aes.proofs.Swapping.{transposed-items}
use Rattle.srt_aes.proofs.Spreading.{block-spread, narrow-spread, AreBytes, narrow-words}
use Rattle.srt_aes.proofs.keys.RoundKeys.encrypt.Goals as goal

pub returns : goal.returns
unfolding aes
returns c =
    let keys = c.args.self.now in
    let block = c.args.block.now in
    let last : ℕ = keys.size / 4 + 6 in
    let schedule = schedule_of (key_of keys) in
    let planes = c.spread-planes.result in
    let words = closed_words keys.planes last planes in
    let closed = c.transposed.ensures words words (c.close-closed.ensures planes planes c.doubled.ensures) in
    let bytes = c.first.ensures (transposed_words words) (transposed_words words) closed ∙ transposed-items words in
    let small : AreBytes block = λ i low. c.fits-block i in
    let held = ap (block_in 0 0) c.spread-planes.ensures ∙
    block-spread 0 block 0 small c.told-block (omega arith) (omega arith) in
    let rounds : last ≡ rounds_of (key_of keys) = ap (λ (n : ℕ). n / 4 + 6) (sym keys.sized) in
    c.gather.ensures words bytes ∙
    held-closed keys.planes schedule last (keys.held c.requires) (omega arith) planes
    (narrow-words planes 0 block c.spread-planes.ensures) 0 (omega arith) ∙
    ap (cipher schedule last) held ∙ ap (λ (n : ℕ). cipher schedule n block) rounds
