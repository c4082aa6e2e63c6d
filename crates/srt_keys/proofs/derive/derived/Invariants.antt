use Rattle.std.proofs.Common.{◌≡◌, ℕ, List, ◌-◌}
use Rattle.srt_keys.specs.Held.{IsHmacKey}
use Rattle.srt_keys.specs.Pbkdf2.{round_of, block_of}
use Rattle.srt_keys.proofs.derive.derived.Given as goal

abbrev pub invariant-loop-round : goal.invariant-loop-round
invariant-loop-round l =
    (password : List ℕ) → IsHmacKey l.key password →
    (l.last ≡ round_of password l.salt l.index (l.round - 1)) × (l.sum ≡ block_of password l.salt l.index (l.round - 1))
