use Rattle.std.proofs.Common.{◌≡◌, ℕ, List, Bool, true, ◌+◌, ◌-◌, ◌*◌, ◌/◌, ◌%◌, ◌<◌, ◌≤◌, ◌⊎◌, [], ◌∷◌, ◌++◌, suc, refl, sym, ap, ◌∙◌, subst, inl}
use Rattle.std.proofs.Common.{inr, arith, rules, slice_index, length, take, map}
use Rattle.srt_aes.specs.Aes.{sub_word}
use Rattle.srt_aes.specs.inside.Circuit.{on_words, substituted}
use Rattle.srt_aes.proofs.Spreading.{four_bytes, sub_word-at}
use Rattle.srt_aes.proofs.schedule.substitute_word.Goals as goal

pub returns : goal.returns
returns c =
    let w = λ (k : ℕ). slice_index c.args.word.now k in
    let planes = c.spread-planes.result in
    let s = substituted on_words planes in
    let closed = c.first-closed.ensures s s (c.substitute.ensures planes planes c.doubled.ensures) in
    let small = four_bytes (w 0) (w 1) (w 2) (w 3) (c.fits-word 0) (c.fits-word 1) (c.fits-word 2) (c.fits-word 3) in
    let at = λ (k : ℕ) (few : k < 4). sub_word-at (w 0 ∷ w 1 ∷ w 2 ∷ w 3 ∷ 0 ∷ 0 ∷ 0 ∷ 0 ∷ 0 ∷ 0 ∷ 0 ∷ 0 ∷ 0 ∷ 0 ∷ 0 ∷ 0 ∷ [])
    planes c.first-closed.result k c.spread-planes.ensures closed small few in
    let e0 = c.byte.ensures ∙ at 0 (omega arith) in
    let e1 = c.byte-2.ensures ∙ at 1 (omega arith) in
    let e2 = c.byte-3.ensures ∙ at 2 (omega arith) in
    let e3 = c.byte-4.ensures ∙ at 3 (omega arith) in
    cc
