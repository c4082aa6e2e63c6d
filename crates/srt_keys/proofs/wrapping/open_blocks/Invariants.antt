use Rattle.std.proofs.Common.{◌≡◌, ◌+◌, ◌*◌, length}
use Rattle.srt_aes.specs.Keys.{key_of}
use Rattle.srt_keys.specs.Wrap.{unwrap_after}
use Rattle.srt_keys.proofs.wrapping.open_blocks.Given as goal

abbrev pub invariant-loop-step : goal.invariant-loop-step
invariant-loop-step l =
    (l.state ≡ unwrap_after (key_of l.fn.key) l.fn.state l.fn.blocks (6 * l.fn.blocks) l.step) ×
    (length l.state ≡ 8 * l.fn.blocks + 8)
