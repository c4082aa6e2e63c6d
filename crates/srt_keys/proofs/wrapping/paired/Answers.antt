use Rattle.std.proofs.Common.{◌≡◌, ◌∙◌, ℕ, List, ◌++◌, ap, take, drop}
use Rattle.srt_keys.proofs.Stepping.{zeros, both_halves}
use Rattle.srt_keys.proofs.wrapping.paired.Goals as goal

pub returns : goal.returns
returns c =
    let first = c.args.first.now in
    ap (λ (v : List ℕ). take 8 (v ++ zeros) ++ (c.copy_from_slice-2.new.self ++ drop 8 (drop 8 (v ++ zeros)))) c.copy_from_slice.ensures.after ∙
    ap (λ (v : List ℕ). take 8 (first ++ zeros) ++ (v ++ drop 8 (drop 8 (first ++ zeros)))) c.copy_from_slice-2.ensures.after ∙
    both_halves first c.args.second.now c.requires.first
