use Rattle.std.proofs.Common.{◌≡◌, ◌*◌, take}
use Rattle.srt_aes.specs.Keys.{key_of}
use Rattle.srt_aes.specs.inside.Planes.{numbered_stream}
use Rattle.srt_aes.proofs.counter.key_stream.Given as goal

abbrev pub invariant-loop-batch : goal.invariant-loop-batch
invariant-loop-batch l = take (128 * l.batch) l.stream ≡ numbered_stream (key_of l.keys) l.block (8 * l.batch)
