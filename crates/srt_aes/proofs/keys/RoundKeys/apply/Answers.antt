use Rattle.std.proofs.Common.{◌≡◌, ℕ, List, [], ◌∷◌, ◌++◌, ◌+◌, ◌*◌, ◌/◌, refl, ap, ◌∙◌, sym, arith, length}
use Rattle.srt_aes.specs.Counter.{nonce}
use Rattle.srt_aes.specs.Keys.{key_of}
use Rattle.srt_aes.specs.inside.Planes.{numbered_stream}
use Rattle.srt_aes.proofs.Counting.{applied, stream-numbered}
use Rattle.srt_aes.proofs.keys.RoundKeys.apply.Goals as goal

pub returns : goal.returns
returns c =
    let key = key_of c.args.self.now in
    let salt = c.args.salt.now in
    let number = c.args.number in
    let payload = c.args.payload.now in
    let batches : ℕ = length payload / 128 + 1 in
    let few = stream-numbered key salt number (8 * batches) (omega arith) in
    c.add_bytes.ensures ∙ applied key salt number payload c.key_stream-stream.result batches
    (c.key_stream-stream.ensures ∙
    ap (λ (v : List ℕ). numbered_stream key v (8 * batches)) c.first_block-block.ensures ∙ few) refl
