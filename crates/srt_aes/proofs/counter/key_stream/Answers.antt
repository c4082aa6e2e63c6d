use Rattle.std.proofs.Common.{◌≡◌, ℕ, zero, suc, List, [], ◌∷◌, ◌++◌, ◌+◌, ◌-◌, ◌*◌, ◌/◌, ◌%◌, ◌<◌, ◌≤◌, ◌⊎◌, refl, sym, ap, ◌∙◌, subst, inl, inr}
use Rattle.std.proofs.Common.{arith, rules, slice_index, bit_xor, length, take, map}
use Rattle.srt_aes.specs.inside.Planes.{numbered_stream, HoldsKey}
use Rattle.srt_aes.specs.Keys.{key_of}
use Rattle.srt_aes.proofs.Spreading.{holds-spread, AreBytes}
use Rattle.srt_aes.proofs.counter.key_stream.Goals as goal

pub loop-batch-init : goal.loop-batch-init
unfolding numbered_stream
loop-batch-init c = refl

pub loop-batch-preserved : goal.loop-batch-preserved
loop-batch-preserved c =
    let block = c.args.block.now in
    let small : AreBytes block = λ i low. c.fits-block i in
    let holds = subst (λ (p : List ℕ). HoldsKey p 0 block) (sym c.spread-base.ensures)
    (holds-spread 0 block small c.told-block (omega arith)) in
    c.write_batch.ensures block holds c.loop-batch.invariant

pub returns : goal.returns
returns c =
    let same : c.loop-batch.batch ≡ c.args.batches = omega arith in
    subst (λ (n : ℕ). take (128 * n) c.loop-batch.stream ≡ numbered_stream (key_of c.args.keys.now) c.args.block.now (8 * n)) same
    c.loop-batch.invariant
