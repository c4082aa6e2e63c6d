use Rattle.std.proofs.Common.{◌≡◌, ◌∙◌, ℕ, List, ◌++◌, ◌+◌, ◌-◌, ◌*◌, ap, arith, take, drop, bit_xor}
use Rattle.std.specs.Int.{w64, to_be_bytes}
use lib.Lanes.{zip2}
use Rattle.srt_aes.specs.Aes.{inv_aes}
use Rattle.srt_aes.specs.Keys.{key_of}
use Rattle.srt_keys.proofs.Stepping.{replaced}
use Rattle.srt_keys.proofs.wrapping.open_block.Goals as goal

pub returns-clause-step : goal.returns-clause-step
returns-clause-step c =
    let key = key_of c.args.key.now in
    let state = c.args.state.now in
    let index = c.args.index in
    let block = take 8 (drop (8 * index) state) in
    let opened = c.decrypt-opened.result in
    let b = inv_aes key (zip2 bit_xor (take 8 state) (to_be_bytes w64 c.args.count) ++ block) in
    let eight : 8 * index + 8 - 8 * index ≡ 8 = omega arith in
    let made : opened ≡ b =
    c.decrypt-opened.ensures ∙ ap (inv_aes key) (c.paired-pair.ensures ∙
    ap (λ (m : ℕ). c.counted-check.result ++ take m (drop (8 * index) state)) eight ∙
    ap (λ (v : List ℕ). v ++ block) c.counted-check.ensures) in
    c.put-2.ensures ∙ ap (λ (v : List ℕ). take 8 opened ++ drop 8 v) (c.put.ensures ∙
    ap (λ (v : List ℕ). take (8 * index) state ++ v ++ drop (8 * index + 8) state) c.second_half.ensures.half) ∙
    replaced state (drop 8 opened) (take 8 opened) index c.requires.some c.requires.within ∙
    ap (λ (v : List ℕ). take 8 v ++ take (8 * index - 8) (drop 8 state) ++ drop 8 v ++ drop (8 * index + 8) state) made
