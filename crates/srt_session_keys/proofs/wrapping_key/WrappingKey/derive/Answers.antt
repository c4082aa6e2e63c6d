use Rattle.std.proofs.Common.{◌≡◌, ◌∙◌, ℕ, List, ◌≤◌, ◌==◌, ◌||◌, true, ap, arith, take}
use Rattle.std.proofs.lemmas.Bool.Decides.{nat_tests}
use Rattle.std.proofs.lemmas.Grind.{common_steps}
use Rattle.srt_session_keys.proofs.wrapping_key.WrappingKey.derive.Goals as goal

front : (n m : ℕ) (xs : List ℕ) → n ≤ m → take n (take m xs) ≡ take n xs
front n m xs less = grind (arith, common_steps)

short : (n : ℕ) → ((n == 16) || ((n == 24) || (n == 32))) ≡ true → n ≤ 32
short n e = grind (arith, nat_tests, e)

pub returns-clause-kek : goal.returns-clause-kek
returns-clause-kek c =
    let n : ℕ = c.args.message.now.key_length in
    ap (λ (v : List ℕ). take n v) c.front.ensures ∙
    front n 32 c.kek-derived.result (short n c.args.message.now.whole) ∙ c.kek-derived.ensures
