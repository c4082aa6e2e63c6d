use Rattle.std.proofs.Common.{ap, ◌∙◌, bit_and}
use Rattle.std.specs.Prelude.{nat_eq, not}
use Rattle.std.proofs.lemmas.Nat.{pow_pos}
use Rattle.std.proofs.lemmas.Nat.Bits.{and_pow, bit_at-lt}
use Rattle.srt_wakeups.specs.inside.Words.{place_of}
use Rattle.srt_wakeups.proofs.FirstBits.{is_one}
use Rattle.srt_wakeups.proofs.bit_set.is_in.Goals as goal

pub returns : goal.returns
returns c =
    let place = place_of c.args.route in
    ap (λ x. not (nat_eq x 0)) (ap (bit_and c.args.word) c.bit_of.ensures ∙ and_pow c.args.word place)
    ∙ is_one _ _ (bit_at-lt c.args.word place) (pow_pos place)
