-- The intervals that are shorter than a time, and the median, place by place.
use Rattle.std.proofs.Common.{◌≡◌, ℕ, suc, ◌+◌, List, max, refl, ap, sym, ◌∙◌, arith}
use Rattle.std.specs.Prelude.{nat_lt}
use Rattle.srt_types.specs.Capped.{one_if}
use Rattle.srt_pub.specs.Publishing.{interval, shorter, up_to_median, longest_up_to_median}

pub none_shorter : (times : List ℕ) (time : ℕ) → 0 ≡ shorter times time 0
unfolding shorter
none_shorter times time = refl

-- one more interval is counted
counts_one : (times : List ℕ) (time place : ℕ) → shorter times time (suc place) ≡ shorter times time place + one_if (nat_lt (interval times place) time)
unfolding shorter
counts_one times time place = refl

pub next_shorter : (times : List ℕ) (time place count here more : ℕ) → count ≡ shorter times time place → here ≡ interval times place
    → more ≡ one_if (nat_lt here time) → count + more ≡ shorter times time (place + 1)
next_shorter times time place count here more before is one =
    (λ i. before i + (one ∙ ap (λ (t : ℕ). one_if (nat_lt t time)) is) i)
    ∙ sym (counts_one times time place)
    ∙ ap (shorter times time) (omega arith)

pub none_longest : (times : List ℕ) → 0 ≡ longest_up_to_median times 0
unfolding longest_up_to_median
none_longest times = refl

-- the maximum with one more interval
looks_at_one : (times : List ℕ) (place : ℕ) → longest_up_to_median times (suc place) ≡ max (longest_up_to_median times place) (up_to_median times place)
unfolding longest_up_to_median
looks_at_one times place = refl

pub next_longest : (times : List ℕ) (place before here greatest : ℕ) → before ≡ longest_up_to_median times place → here ≡ up_to_median times place
    → greatest ≡ max here before → greatest ≡ longest_up_to_median times (place + 1)
next_longest times place before here greatest earlier is both =
    (let turned : greatest ≡ max before here = omega (arith, both) in turned)
    ∙ (λ i. max (earlier i) (is i))
    ∙ sym (looks_at_one times place)
    ∙ ap (longest_up_to_median times) (omega arith)
