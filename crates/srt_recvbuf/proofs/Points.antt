-- The least number that passes a test.
use Rattle.std.proofs.Common.{◌≡◌, ◌≢◌, ℕ, zero, suc, ◌+◌, ◌-◌, ◌<◌, ◌≤◌, Bool, true, false, not, [], refl, sym, ap, subst, ◌∙◌, ◌⊎◌, inl, inr, arith}
use Rattle.std.proofs.lemmas.Bool.{not-false, not-true, cases_eq, cases_lt}
use Rattle.std.specs.Prelude.{filter}
use Rattle.srt_types.specs.Runs.{least_from, numbers_from}
use Rattle.srt_recvbuf.specs.Receiving.{Receiving, is_missing, is_dropped, end_of, ack_point, gaps_from}
use Rattle.srt_recvbuf.specs.Points.{AckPoints, SettlesAtTheLeast}
use Rattle.srt_recvbuf.proofs.OneByOne.{found}
use Rattle.srt_recvbuf.proofs.Runs.{passed_over}

record IsLeastOf (test : ℕ → Bool) (from places least : ℕ) : Type 0 where
  low : from ≤ least
  high : least ≤ from + places
  before : (n : ℕ) → from ≤ n → n < least → test n ≡ false
  here : least < from + places → test least ≡ true

-- the least number, under an equation
is_least : (test : ℕ → Bool) (from places a b : ℕ) → a ≡ b → IsLeastOf test from places b → IsLeastOf test from places a
is_least test from places a b same h = let P : ℕ → Type 0 = λ x. IsLeastOf test from places x in subst P (sym same) h

least_of : (test : ℕ → Bool) (from places : ℕ) → IsLeastOf test from places (least_from test from places)
least_of test from zero =
    record {
      low = omega arith;
      high = omega arith;
      before = λ n low high. absurd (omega (arith, low, high));
      here = λ lt. absurd (omega (arith, lt));
    }
least_of test from (suc places) = by (test from) refl (least_of test (from + 1) places)
  where
    by : (b : Bool) → test from ≡ b → IsLeastOf test (from + 1) places (least_from test (from + 1) places)
        → IsLeastOf test from (suc places) (least_from test from (suc places))
    by true is h = is_least test from (suc places) _ from (found test from places true is)
        (record { low = omega arith; high = omega arith; before = λ n low high. absurd (omega (arith, low, high)); here = λ lt. is })
    by false is h = is_least test from (suc places) _ _ (found test from places false is)
        (record {
          low = omega (arith, h.low);
          high = omega (arith, h.high);
          before = λ n low high. at n (cases_eq n from) low high;
          here = λ lt. h.here (omega (arith, lt));
        })
      where
        at : (n : ℕ) → (n ≡ from) ⊎ (n ≢ from) → from ≤ n → n < least_from test (from + 1) places → test n ≡ false
        at n (inl same) low high = rw same is
        at n (inr other) low high = h.before n (omega (arith, low, other)) high

pub ack_points : AckPoints
ack_points width r = let h = least_of (is_missing width r) r.front width in record { low = h.low; high = h.high; before = h.before; here = h.here }

pub settles : SettlesAtTheLeast
settles width r beyond =
    let test : ℕ → Bool = λ n. not (is_dropped width r n) in
    let h = least_of test r.front width in
    let point = least_from test r.front width in
    record {
      low = h.low;
      before = λ n low high. not-false (is_dropped width r n) (h.before n low high);
      here = elim (cases_lt point (r.front + width)) [ inl inside ↦ not-true (is_dropped width r point) (h.here inside) | inr past ↦ beyond point past ];
    }

-- if nothing is missing below the highest received number, there are no gaps
pub no_gaps : (width from : ℕ) (r : Receiving) → r.front ≤ from → end_of r.arrivals ≤ ack_point width r → gaps_from width from r ≡ []
no_gaps width from r above full =
    let count = end_of r.arrivals - from in
    let all : count ≡ count + 0 = omega arith in
    ap (λ (k : ℕ). filter (is_missing width r) (numbers_from from k)) all
    ∙ passed_over (is_missing width r) from count 0 (λ i lt. (ack_points width r).before (from + i) (omega (arith, above)) (omega (arith, full, lt)))
