use Rattle.std.proofs.Common.{◌≡◌, sym, ap, subst, ◌∙◌, ◌-◌, ◌*◌, ◌%◌, ◌^◌, ◌<◌, bit_and, arith}
use Rattle.std.specs.Int.Count.{count_trailing_zeros}
use Rattle.std.proofs.lemmas.Nat.Bits.{ones_shl}
use Rattle.srt_wakeups.specs.inside.Words.{IsFirstFrom}
use Rattle.srt_wakeups.proofs.FirstBits.{first_from}
use Rattle.srt_wakeups.proofs.bit_set.first_in.Goals as goal

pub returns : goal.returns
returns c =
    let from = c.args.from in
    let within : from % 64 ≡ from = omega (arith, c.requires) in
    let inside : from < 64 = c.requires in
    let mask = c.wrapping_shl.ensures ∙ ap (λ k. (2 ^ 64 - 1) * 2 ^ k % 2 ^ 64) within ∙ ones_shl 64 from (omega (arith, inside)) in
    subst
    (λ x. IsFirstFrom c.args.word from (count_trailing_zeros 64 (bit_and c.args.word x)))
    (sym mask)
    (first_from c.args.word from (omega (arith, c.ranges.word)) inside)
