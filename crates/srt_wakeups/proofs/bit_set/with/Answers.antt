use Rattle.std.proofs.Common.{ap, ◌∙◌, ◌^◌, bit_or, arith}
use Rattle.std.specs.Int.{bit_at}
use Rattle.std.proofs.lemmas.Nat.Bits.{bit_at_or, bit_at-lt, bit_at-pow_same, bit_at-pow_other}
use Rattle.srt_wakeups.specs.inside.Words.{place_of}
use Rattle.srt_wakeups.proofs.bit_set.with.Goals as goal

pub returns-clause-set : goal.returns-clause-set
returns-clause-set c =
    let place = place_of c.args.route in
    let one = bit_at-pow_same place in
    let small = bit_at-lt c.args.word place in
    ap (λ bit. bit_at (bit_or c.args.word bit) place) c.bit_of.ensures ∙ bit_at_or c.args.word (2 ^ place) place
    ∙ omega (arith, one, small)

pub returns-clause-others : goal.returns-clause-others
returns-clause-others c = λ other differs.
    let place = place_of c.args.route in
    let none = bit_at-pow_other place other differs in
    ap (λ bit. bit_at (bit_or c.args.word bit) other) c.bit_of.ensures ∙ bit_at_or c.args.word (2 ^ place) other
    ∙ omega (arith, none)
