use Rattle.std.proofs.Common.{◌≡◌, ◌∙◌, ℕ, List, ◌<◌, ◌^◌, ap, sym, take, drop}
use Rattle.std.specs.Int.{w32, w64, to_be_bytes, from_be_bytes}
use Rattle.std.proofs.lemmas.Nat.{from_be_bytes-to_be_bytes_4, from_be_bytes-to_be_bytes_8}
use Rattle.srt_session_keys.proofs.laws.own_keys.Goals as goal

same_4 : (n m : ℕ) → n < 2 ^ 32 → m < 2 ^ 32 → to_be_bytes w32 n ≡ to_be_bytes w32 m → n ≡ m
same_4 n m h k e = sym (from_be_bytes-to_be_bytes_4 n h) ∙ ap (from_be_bytes w32) e ∙ from_be_bytes-to_be_bytes_4 m k

same_8 : (n m : ℕ) → n < 2 ^ 64 → m < 2 ^ 64 → to_be_bytes w64 n ≡ to_be_bytes w64 m → n ≡ m
same_8 n m h k e = sym (from_be_bytes-to_be_bytes_8 n h) ∙ ap (from_be_bytes w64) e ∙ from_be_bytes-to_be_bytes_8 m k

pub returns : goal.returns
returns c one other i k h1 h2 h3 h4 h5 h6 e = (
  same_4 one.session other.session h1 h2 (ap (λ (v : List ℕ). take 4 v) e),
  same_8 one.count other.count h3 h4 (ap (λ (v : List ℕ). take 8 (drop 4 v)) e),
  same_8 i k h5 h6 (ap (λ (v : List ℕ). take 8 (drop 12 v)) e),
  ap (λ (v : List ℕ). drop 20 v) e,
)
