use Rattle.std.proofs.Common.{◌≡◌, ◌+◌, length, arith}
use Rattle.std.proofs.lemmas.List.{take_rest}
use Rattle.srt_hs.specs.KeyMessage.{wrapped_length}
use Rattle.srt_hs.proofs.Keys.{read_whole}
use Rattle.srt_hs.proofs.key_reading.parse.Goals as goal

pub returns : goal.returns
returns c =
    let bytes = c.args.bytes.now in
    let keys = c.in_ok-keys.keys in
    let n = c.in_ok-key_length.key_length in
    let len : length bytes ≡ 32 + wrapped_length keys n = omega (arith, c.wrapped_len-len.ensures) in
    read_whole bytes keys n c.salt_of.result _ (omega arith) c.in_ok-keys.ensures c.in_ok-key_length.ensures.value len
    c.salt_of.ensures (take_rest bytes 32)
