use Rattle.std.proofs.Common.{ℕ, ◌+◌, ◌-◌, ◌*◌, ◌/◌, ◌≤◌, arith}
use Rattle.srt_sub.specs.Counting.{resent_in, fresh_in, renewals_in}
use Rattle.srt_sub.specs.Subscribing.{credit}
use Rattle.srt_sub.proofs.laws.resends.Goals as goal

within : (a c x r time : ℕ) → 100 * a + c ≤ 6_400 + x + 100 * r → r * 20_000 ≤ time → 100 * a ≤ 6_400 + x + 100 * (time / 20_000)
within a c x r time sum rare = omega (arith, sum, rare)

pub returns : goal.returns
returns c terms initial opening caller last m h percent e =
    within (resent_in m.notes) (credit percent m.notes) (percent * fresh_in m.notes) (renewals_in m.notes) (last - opening)
    (h.credited.bounded percent e) h.credited.rare
