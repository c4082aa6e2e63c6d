use Rattle.std.proofs.Common.{◌≡◌, ◌∙◌, ℕ, suc, List, ◌+◌, ◌-◌, ◌*◌, ◌%◌, refl, ap, arith}
use Rattle.srt_aes.specs.Keys.{key_of}
use Rattle.srt_keys.specs.Wrap.{unwrap_step, unwrap_after}
use Rattle.srt_keys.proofs.wrapping.open_blocks.Goals as goal

pub loop-step-init : goal.loop-step-init
unfolding unwrap_after
loop-step-init c = (refl, c.requires.whole)

pub loop-step-preserved : goal.loop-step-preserved
unfolding unwrap_after
loop-step-preserved c =
    let key = key_of c.args.key.now in
    let n = c.args.blocks in
    let all : ℕ = 6 * n in
    let i = c.loop-step.step in
    let next : suc i ≡ i + 1 = omega arith in (
      c.open_block.ensures.step ∙
          ap (λ (v : List ℕ). unwrap_step key v ((all - i - 1) % n + 1) (all - i)) c.loop-step.invariant.0 ∙
          ap (λ (k : ℕ). unwrap_after key c.args.state.now n all k) next,
      c.open_block.ensures.long ∙ c.loop-step.invariant.1,
    )
