use Rattle.std.proofs.Common.{◌≡◌, ◌∙◌, ℕ, suc, List, ◌+◌, ◌%◌, refl, ap, arith}
use Rattle.srt_aes.specs.Keys.{key_of}
use Rattle.srt_keys.specs.Wrap.{wrap_step, wrap_after}
use Rattle.srt_keys.proofs.wrapping.close_blocks.Goals as goal

pub loop-step-init : goal.loop-step-init
unfolding wrap_after
loop-step-init c = (refl, c.requires.whole)

pub loop-step-preserved : goal.loop-step-preserved
unfolding wrap_after
loop-step-preserved c =
    let key = key_of c.args.key.now in
    let n = c.args.blocks in
    let i = c.loop-step.step in
    let next : suc i ≡ i + 1 = omega arith in (
      c.close_block.ensures.step ∙ ap (λ (v : List ℕ). wrap_step key v (i % n + 1) (i + 1)) c.loop-step.invariant.0 ∙
          ap (λ (k : ℕ). wrap_after key c.args.state.now n k) next,
      c.close_block.ensures.long ∙ c.loop-step.invariant.1,
    )
