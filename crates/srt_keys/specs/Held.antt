-- What a prepared key of HMAC-SHA1 stands for.
use Rattle.std.specs.Prelude.{ℕ, List}
use Rattle.sha1.specs.Sha1.{Holds, sha1}
use Rattle.srt_keys.specs.Hmac.{inner_key, outer_key}
use Rattle.srt_keys.specs.declared.hmac.HmacKey.{HmacKey}

-- it is made of this key
abbrev pub IsHmacKey : HmacKey → (key : List ℕ) → Type 0
IsHmacKey prepared key = Holds prepared.inner (inner_key sha1 key) × Holds prepared.outer (outer_key sha1 key)
