-- Bytes in which two texts agree.
use Rattle.std.proofs.Common.{◌≡◌, ℕ, suc, ◌+◌, ◌-◌, ◌<◌, Bool, true, false, ap, ◌∙◌, arith}
use Rattle.srt_explain.specs.Resemblance.{counted, passing}

-- before the first
pub begun : (test : ℕ → Bool) (most : ℕ) → passing test 0 most ≡ 0 + passing test 0 (most - 0)
begun test most =
    let all : most - 0 ≡ most = omega arith in
    let same : passing test 0 (most - 0) ≡ passing test 0 most = ap (passing test 0) all in
    omega (arith, same)

-- one more passes, or doesn't
passing_one : (test : ℕ → Bool) (at count rest : ℕ) → count ≡ suc rest → passing test at count ≡ counted (test at) (passing test (at + 1) rest)
passing_one test at count rest e = ap (passing test at) e

pub one_more : (test : ℕ → Bool) (total at most : ℕ) → at < most → test at ≡ true → total ≡ at + passing test at (most - at)
    → total ≡ (at + 1) + passing test (at + 1) (most - (at + 1))
one_more test total at most within passes h =
    let left : most - at ≡ suc (most - (at + 1)) = omega (arith, within) in
    let now : passing test at (most - at) ≡ suc (passing test (at + 1) (most - (at + 1))) =
    passing_one test at (most - at) (most - (at + 1)) left ∙ ap (λ b. counted b (passing test (at + 1) (most - (at + 1)))) passes in
    omega (arith, h, now)

pub no_more : (test : ℕ → Bool) (total at most : ℕ) → at < most → test at ≡ false → total ≡ at + passing test at (most - at) → at ≡ total
no_more test total at most within fails h =
    let left : most - at ≡ suc (most - (at + 1)) = omega (arith, within) in
    let now : passing test at (most - at) ≡ 0 =
    passing_one test at (most - at) (most - (at + 1)) left ∙ ap (λ b. counted b (passing test (at + 1) (most - (at + 1)))) fails in
    omega (arith, h, now)

pub all_pass : (test : ℕ → Bool) (total at most : ℕ) → at ≡ most → total ≡ at + passing test at (most - at) → most ≡ total
all_pass test total at most e h =
    let none : most - at ≡ 0 = omega (arith, e) in
    let now : passing test at (most - at) ≡ 0 = ap (passing test at) none in
    omega (arith, h, now, e)
