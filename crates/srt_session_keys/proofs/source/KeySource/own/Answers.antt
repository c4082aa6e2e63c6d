use Rattle.std.proofs.Common.{◌∙◌, ℕ, List, ap, length, take}
use Rattle.srt_keys.specs.Hmac.{hmac_sha256}
use Rattle.srt_session_keys.specs.Wrapping.{kek_of}
use Rattle.srt_session_keys.specs.Source.{own}
use Rattle.srt_session_keys.proofs.source.KeySource.own.Goals as goal

pub returns : goal.returns
unfolding own
returns c =
    let kek = kek_of c.args.self.now.kek in
    ap (λ (v : List ℕ). take (length kek) v)
    (c.hmac_sha256.ensures ∙ ap (λ (v : List ℕ). hmac_sha256 v c.own_text.result) c.bytes.ensures ∙
    ap (λ (v : List ℕ). hmac_sha256 kek v) c.own_text.ensures)
