use Rattle.std.proofs.Common.{◌≡◌, ◌∙◌, ℕ, List, ◌++◌, ap, length, drop, replicate}
use Rattle.std.proofs.lemmas.List.{drop-replicate}
use Rattle.srt_keys.proofs.hmac.extended.Goals as goal

pub returns : goal.returns
returns c =
    let bytes = c.args.bytes.now in
    ap (λ (v : List ℕ). v ++ drop (length bytes) (replicate 64 0)) c.copy_from_slice.ensures.after ∙
    ap (λ (v : List ℕ). bytes ++ v) (drop-replicate (length bytes) 64 0)
