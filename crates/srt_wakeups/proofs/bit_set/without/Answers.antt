use Rattle.std.proofs.Common.{sym, ap, ◌∙◌, ◌-◌, ◌^◌, ◌<◌, bit_and, arith}
use Rattle.std.specs.Int.{bit_at, w64}
use Rattle.std.proofs.lemmas.Nat.{one_shl}
use Rattle.std.proofs.lemmas.Nat.Bits.{bit_at_clear_same, bit_at_clear_other}
use Rattle.srt_wakeups.specs.inside.Words.{place_of}
use Rattle.srt_wakeups.proofs.bit_set.without.Goals as goal

pub returns-clause-clear : goal.returns-clause-clear
returns-clause-clear c =
    let place = place_of c.args.route in
    let inside : place < 64 = omega arith in
    let mask = c.others_of.ensures ∙ ap (λ bit. 2 ^ 64 - 1 - bit) (sym (one_shl place 64 inside)) in
    ap (λ x. bit_at (bit_and c.args.word x) place) mask ∙ bit_at_clear_same w64 c.args.word place inside

pub returns-clause-others : goal.returns-clause-others
returns-clause-others c = λ other below differs.
    let place = place_of c.args.route in
    let inside : place < 64 = omega arith in
    let mask = c.others_of.ensures ∙ ap (λ bit. 2 ^ 64 - 1 - bit) (sym (one_shl place 64 inside)) in
    ap (λ x. bit_at (bit_and c.args.word x) other) mask ∙ bit_at_clear_other w64 c.args.word place inside other below differs
