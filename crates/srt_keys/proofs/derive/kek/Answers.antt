use Rattle.std.proofs.Common.{◌≡◌, ◌∙◌, ℕ, List, [], ◌∷◌, ◌++◌, ◌≤◌, refl, sym, ap, arith, length, take, drop, slice_index, replicate}
use Rattle.std.proofs.lemmas.List.{take-append-le}
use Rattle.std.proofs.lemmas.List.FromFn.{fill_by_all}
use Rattle.srt_keys.specs.Pbkdf2.{block_of, blocks_of}
use Rattle.srt_keys.proofs.derive.kek.Goals as goal

-- the low 64 bits of a salt
low_half : (salt : List ℕ) → length salt ≡ 16 →
    (slice_index salt 8 ∷ slice_index salt 9 ∷ slice_index salt 10 ∷ slice_index salt 11 ∷ slice_index salt 12 ∷
    slice_index salt 13 ∷ slice_index salt 14 ∷ slice_index salt 15 ∷ []) ≡ drop 8 salt
low_half salt long = sym (ap (λ (v : List ℕ). drop 8 v) (fill_by_all (λ k. slice_index salt k) salt 16 0 long (λ k below. refl)))

pub returns-then-length-gt20 : goal.returns-then-length-gt20
unfolding blocks_of
returns-then-length-gt20 c =
    let password = c.args.passphrase.now in
    let low = low_half c.args.salt.now c.told-salt in
    let first = c.derived-first.ensures password c.new-key.ensures ∙
    ap (λ (v : List ℕ). block_of password v 1 2047) low in
    let second = c.derived-second.ensures password c.new-key.ensures ∙
    ap (λ (v : List ℕ). block_of password v 2 2047) low in
    ap (λ (v : List ℕ). take c.args.length v) (c.joined.ensures.value ∙ ap (λ (v : List ℕ). v ++ c.derived-second.result) first ∙
    ap (λ (v : List ℕ). block_of password (drop 8 c.args.salt.now) 1 2047 ++ v) second)

pub returns-else-length-gt20 : goal.returns-else-length-gt20
unfolding blocks_of
returns-else-length-gt20 c =
    let password = c.args.passphrase.now in
    let low = low_half c.args.salt.now c.told-salt in
    let first = c.derived-first.ensures password c.new-key.ensures ∙
    ap (λ (v : List ℕ). block_of password v 1 2047) low in
    let one = block_of password (drop 8 c.args.salt.now) 1 2047 in
    let two = block_of password (drop 8 c.args.salt.now) 2 2047 in
    let zeros : List ℕ = replicate 20 0 in
    let got = c.derived-first.result in
    let n = c.args.length in
    let small : n ≤ 20 = c.if-length-gt20.false in
    let long : length got ≡ 20 = c.joined-else-length-gt20.ensures.long in
    let same : length got ≡ length one = ap (length {A = ℕ}) first in
    ap (λ (v : List ℕ). take n v) c.joined-else-length-gt20.ensures.value ∙ take-append-le n got zeros (omega arith) ∙
    ap (λ (v : List ℕ). take n v) first ∙ sym (take-append-le n one two (omega arith))
