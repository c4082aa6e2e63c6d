-- What round keys are made of.
use Rattle.std.specs.Prelude.{◌≡◌, ℕ, List, [], take, replicate}
use Rattle.srt_aes.specs.declared.keys.RoundKeys.{RoundKeys}

-- the key; there may be none
abbrev pub key_of : RoundKeys → List ℕ
key_of keys = take keys.size keys.words

-- there is no key, and all bytes and words of a schedule are zeros, in both of the forms that are stored
pub record IsErased (keys : RoundKeys) : Type 0 where
  pub key : key_of keys ≡ []
  pub words : keys.words ≡ replicate 240 0
  pub planes : keys.planes ≡ replicate 15 (replicate 8 0)
