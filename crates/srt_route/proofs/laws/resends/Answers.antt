use Rattle.std.proofs.Common.{ℕ, ◌+◌, ◌-◌, ◌*◌, ◌/◌, ◌≤◌, subst, arith}
use Rattle.srt_sub.specs.Counting.{resent_in, fresh_in, renewals_in}
use Rattle.srt_sub.specs.Subscribing.{credit}
use Rattle.srt_route.specs.Past.{Past}
use Rattle.srt_route.specs.Buffers.{IsPast}
use Rattle.srt_route.proofs.steps.Closing.{seat_in}
use Rattle.srt_route.proofs.laws.resends.Goals as goal

few : (a c x r time : ℕ) → 100 * a + c ≤ 6_400 + x + 100 * r → r * 20_000 ≤ time → 100 * a ≤ 6_400 + x + 100 * (time / 20_000)
few a c x r time sum rare = omega (arith, sum, rare)

pub returns : goal.returns
returns c e index slot percent items s m h limit found past =
    let route = c.args.route.now in
    let seat = seat_in e index items route h slot s found in
    let stands = subst (λ (p : Past). IsPast e route.clock seat.0 seat.1 s p) past seat.2.past_is in
    subst (λ (n : ℕ). 100 * resent_in m.notes ≤ 6_400 + percent * fresh_in m.notes + 100 * ((n - s.opening) / 20_000)) h.clock_is
    (few (resent_in m.notes) (credit percent m.notes) (percent * fresh_in m.notes) (renewals_in m.notes) (route.clock - s.opening)
    (stands.1.credited.bounded percent limit) stands.1.credited.rare)
