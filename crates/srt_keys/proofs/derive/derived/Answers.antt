use Rattle.std.proofs.Common.{◌≡◌, ℕ, List, [], ◌∷◌, suc, ◌+◌, ◌-◌, ◌++◌, ◌≤◌, refl, sym, ap, ◌∙◌, arith, bit_xor, slice_index, length, map}
use Rattle.std.specs.Int.{w32, to_be_bytes}
use Rattle.std.specs.List.{range_with_len}
use Rattle.std.proofs.lemmas.List.FromFn.{fill_by_all}
use lib.Lanes.{zip2}
use Rattle.srt_keys.specs.Hmac.{hmac_sha1}
use Rattle.srt_keys.specs.Pbkdf2.{round_of, block_of}
use Rattle.srt_keys.proofs.derive.derived.Goals as goal

-- the salt, and the index behind it
joined : (salt at : List ℕ) (index : ℕ) → length salt ≡ 8 → at ≡ to_be_bytes w32 index →
    (slice_index salt 0 ∷ slice_index salt 1 ∷ slice_index salt 2 ∷ slice_index salt 3 ∷ slice_index salt 4 ∷
    slice_index salt 5 ∷ slice_index salt 6 ∷ slice_index salt 7 ∷ slice_index at 0 ∷ slice_index at 1 ∷
    slice_index at 2 ∷ slice_index at 3 ∷ []) ≡ salt ++ to_be_bytes w32 index
joined salt at index long made =
    let all = fill_by_all (λ k. slice_index salt k) salt 8 0 long (λ k below. refl) in
    ap (λ (v : List ℕ). map (λ k. slice_index salt k) (range_with_len 0 8) ++
    (slice_index v 0 ∷ slice_index v 1 ∷ slice_index v 2 ∷ slice_index v 3 ∷ [])) made ∙
    ap (λ (v : List ℕ). v ++ to_be_bytes w32 index) (sym all)

pub loop-round-init : goal.loop-round-init
unfolding round_of block_of
loop-round-init c password is =
    let text = joined c.args.salt.now c.to_be_bytes-at.result c.args.index c.told-salt c.to_be_bytes-at.ensures in
    let first = c.hmac-last.ensures password is ∙ ap (λ (v : List ℕ). hmac_sha1 password v) text in
    (first, first)

pub loop-round-preserved : goal.loop-round-preserved
unfolding round_of block_of
loop-round-preserved c password is =
    let salt = c.args.salt.now in
    let index = c.args.index in
    let n : ℕ = c.loop-round.round - 1 in
    let before = c.loop-round.invariant password is in
    let next : suc n ≡ c.loop-round.round + 1 - 1 = omega arith in
    let last = c.step.ensures.round password is ∙ ap (λ (v : List ℕ). hmac_sha1 password v) before.0 in
    let sum = c.step.ensures.added ∙ ap (λ (v : List ℕ). zip2 bit_xor v c.step.new.last) before.1 ∙
    ap (λ (v : List ℕ). zip2 bit_xor (block_of password salt index n) v) last in
    (last ∙ ap (λ (k : ℕ). round_of password salt index k) next, sum ∙ ap (λ (k : ℕ). block_of password salt index k) next)

pub returns : goal.returns
returns c password is =
    let same : c.loop-round.round - 1 ≡ 2047 = omega arith in
    (c.loop-round.invariant password is).1 ∙ ap (λ (k : ℕ). block_of password c.args.salt.now c.args.index k) same
