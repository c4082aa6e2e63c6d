use Rattle.std.proofs.Common.{◌≡◌, ℕ, zero, suc, ◌+◌, ◌<◌, ◌≤◌, List, length, get_or, set, replicate, refl, ap, subst, ◌∙◌, inl, inr, arith}
use Rattle.std.proofs.lemmas.Bool.{cases_lt}
use Rattle.std.proofs.lemmas.List.{get_or-set_other, get_or-set_same, get_or_default, length-set}
use Rattle.srt_route.specs.declared.seat.Seat.{Seat}
use Rattle.srt_route.proofs.stage.generations_of.Invariants.{AreRead}
use Rattle.srt_route.proofs.stage.generations_of.Goals as goal

zeros : (n slot : ℕ) → get_or {A = ℕ} (replicate n 0) slot 0 ≡ 0
zeros zero slot = refl
zeros (suc n) zero = refl
zeros (suc n) (suc slot) = zeros n slot

-- one more generation
one_read : (seats : List Seat) (at : ℕ) (generations : List ℕ) (x : Seat) → AreRead seats at generations → at < length seats → length seats ≤ 17
    → AreRead seats (at + 1) (set generations at (get_or seats at x).generation)
one_read seats at generations x h there few =
    let n : ℕ = (get_or seats at x).generation in
    let inside : at < length generations = omega (arith, there, few, h.size) in
    record {
      size = length-set generations at n ∙ h.size;
      counts = λ slot d below. elim (cases_lt slot at) [
        | inl before ↦
            get_or-set_other generations at slot n 0 (λ (same : slot ≡ at). omega (arith, before, same)) ∙ h.counts slot d before
        | inr past ↦
            let same : at ≡ slot = omega (arith, past, below) in
            subst (λ (k : ℕ). get_or (set generations at n) k 0 ≡ (get_or seats k d).generation) same
            (get_or-set_same generations at n 0 inside ∙ ap (λ (z : Seat). z.generation) (get_or_default seats at x d there))
      ];
      none = λ slot past.
          get_or-set_other generations at slot n 0 (λ (same : slot ≡ at). omega (arith, past, same)) ∙ h.none slot (omega (arith, past));
    }

pub loop-at-init : goal.loop-at-init
loop-at-init c = record { size = refl; counts = λ slot d below. absurd (omega (arith, below)); none = λ slot past. zeros 17 slot }

pub loop-at-preserved : goal.loop-at-preserved
loop-at-preserved c =
    one_read c.args.seats.now c.loop-at.at c.loop-at.generations c.index-seats-at.result c.loop-at.invariant c.loop-at-test.true c.requires

pub returns-clause-counts : goal.returns-clause-counts
returns-clause-counts c slot d below = c.loop-at.invariant.counts slot d (omega (arith, below, c.loop-at-test.false))

pub returns-clause-none : goal.returns-clause-none
returns-clause-none c slot past = c.loop-at.invariant.none slot (omega (arith, past, c.loop-at.auto.at-end))
