-- The keys of a subscriber's session are as long as the key that wraps them.
use Rattle.std.proofs.Common.{◌≡◌, ℕ, List, length, arith, subst, sym}
use Rattle.std.proofs.lemmas.List.{length-take-le}
use Rattle.sha2.proofs.Facts256.{length-sha256}
use Rattle.srt_aes.specs.Aes.{IsKeyLength}
use Rattle.srt_aes.proofs.Lengths.{key_bounds}
use Rattle.srt_keys.specs.Hmac.{hmac_sha256}
use Rattle.srt_session_keys.specs.Source.{Source, own, own_text}

own-length : (s : Source) (index : ℕ) → IsKeyLength (length s.kek) → length (own s index) ≡ length s.kek
unfolding own
own-length s index whole =
    let bounds = key_bounds (length s.kek) whole in
    let full : length (hmac_sha256 s.kek (own_text s index)) ≡ 32 = length-sha256 _ in
    length-take-le (length s.kek) _ (omega (arith, full, bounds))

pub own-whole : (s : Source) (index : ℕ) (key : List ℕ) → IsKeyLength (length s.kek) → key ≡ own s index → IsKeyLength (length key)
own-whole s index key whole is =
    let long = own-length s index whole in
    subst (λ (v : List ℕ). IsKeyLength (length v)) (sym is) (subst (λ (n : ℕ). IsKeyLength n) (sym long) whole)
