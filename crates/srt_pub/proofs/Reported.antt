-- The number of numbers that a NAK reports as lost.
use Rattle.std.proofs.Common.{◌≡◌, ℕ, zero, suc, ◌+◌, ◌-◌, ◌^◌, ◌<◌, ◌≤◌, max, Bool, true, false, cond, List, [], ◌∷◌, map, take, refl, sym}
use Rattle.std.proofs.Common.{ap, ◌∙◌, inl, inr, arith}
use Rattle.std.specs.Prelude.{filter}
use Rattle.std.specs.List.{sum_by}
use Rattle.std.proofs.lemmas.Bool.{cases_eq, eq-eqb, ne_eqb}
use Rattle.std.proofs.lemmas.List.Sums.{sum_by-cons}
use Rattle.srt_types.specs.Window.{word_of, number_word, offset_of}
use Rattle.srt_types.specs.Runs.{Run, run_before, runs, numbers_from}
use Rattle.srt_types.specs.declared.numbers.Seq31.{Seq31}
use Rattle.srt_recvbuf.specs.Receiving.{Receiving, is_missing, end_of}
use Rattle.srt_recvbuf.specs.Stands.{words_of, run_words}
use Rattle.srt_pub.specs.Publishing.{gaps_reported, runs_said}
use Rattle.srt_pub.specs.Stands.{Each}
use Rattle.srt_pub.specs.Counting.{numbers_between, numbers_in_pairs, numbers_in}

-- a number at or above `low` and below `high`, and a run of such numbers
record IsBetween (low high n : ℕ) : Type 0 where
  from : low ≤ n
  below : n < high

record IsWithin (low high : ℕ) (r : Run) : Type 0 where
  from : low ≤ r.low
  order : r.low ≤ r.high
  below : r.high < high

consecutive : (low high from count : ℕ) → low ≤ from → from + count ≤ max high from → Each (IsBetween low high) (numbers_from from count)
consecutive low high from zero a b = tt
consecutive low high from (suc count) a b =
    (record { from = a; below = omega (arith, b) }, consecutive low high (from + 1) count (omega (arith, a)) (omega (arith, b)))

kept : {X : Type 0} (P : X → Type 0) (test : X → Bool) (xs : List X) → Each P xs → Each P (filter test xs)
kept P test [] h = tt
kept P test (x ∷ xs) h = by (test x) (kept P test xs h.1)
  where
    by : (b : Bool) → Each P (filter test xs) → Each P (cond b (x ∷ filter test xs) (filter test xs))
    by true more = (h.0, more)
    by false more = more

taken : {X : Type 0} (P : X → Type 0) (n : ℕ) (xs : List X) → Each P xs → Each P (take n xs)
taken P zero xs h = tt
taken P (suc n) [] h = tt
taken P (suc n) (x ∷ xs) h = (h.0, taken P n xs h.1)

before : (low high n : ℕ) (rs : List Run) → IsBetween low high n → Each (IsWithin low high) rs → Each (IsWithin low high) (run_before n rs)
before low high n [] k h = (record { from = k.from; order = omega arith; below = k.below }, tt)
before low high n (r ∷ rs) k h = elim (cases_eq r.low (n + 1)) [
  | inl same ↦ rw (eq-eqb _ _ same) (record { from = k.from; order = omega (arith, same, h.0.order); below = h.0.below }, h.1)
  | inr other ↦ rw (ne_eqb _ _ other) (record { from = k.from; order = omega arith; below = k.below }, h)
]

grouped : (low high : ℕ) (ns : List ℕ) → Each (IsBetween low high) ns → Each (IsWithin low high) (runs ns)
grouped low high [] h = tt
grouped low high (n ∷ ns) h = before low high n (runs ns) h.0 (grouped low high ns h.1)

-- the length of a run, from its sequence numbers
span_is : (initial low high : ℕ) → low ≤ high → high < low + 2 ^ 31 → offset_of (number_word initial high) (number_word initial low) + 1 ≡ high - low + 1
span_is initial low high a b = omega (arith, a, b)

abbrev of_words : ℕ × ℕ → ℕ
of_words p = offset_of p.1 p.0 + 1

abbrev of_run : Run → ℕ
of_run r = r.high - r.low + 1

all_spans : (initial low high : ℕ) (rs : List Run)
    → high ≤ low + 2 ^ 31 → Each (IsWithin low high) rs → sum_by of_words (map (run_words initial) rs) ≡ sum_by of_run rs
all_spans initial low high [] narrow h = refl
all_spans initial low high (r ∷ rs) narrow h =
    let w = h.0 in
    sum_by-cons of_words (run_words initial r) (map (run_words initial) rs)
    ∙ ap (λ n. n + sum_by of_words (map (run_words initial) rs)) (span_is initial r.low r.high w.order (omega (arith, narrow, w.from, w.below)))
    ∙ ap (λ n. of_run r + n) (all_spans initial low high rs narrow h.1)
    ∙ sym (sum_by-cons of_run r rs)

same_pairs : (pairs : List (Seq31 × Seq31)) → numbers_in_pairs pairs ≡ sum_by of_words (words_of pairs)
same_pairs [] = refl
same_pairs (p ∷ pairs) =
    sum_by-cons (λ (q : Seq31 × Seq31). numbers_between q.0 q.1) p pairs
    ∙ ap (λ n. numbers_between p.0 p.1 + n) (same_pairs pairs)
    ∙ sym (sum_by-cons of_words (word_of p.0, word_of p.1) (words_of pairs))

gaps_between : (all : Bool) (width seen : ℕ) (r : Receiving)
    → end_of r.arrivals ≤ r.front + width → Each (IsBetween r.front (r.front + width)) (gaps_reported all width seen r)
gaps_between true width seen r ends =
    kept _ (is_missing width r) _
    (consecutive r.front (r.front + width) r.front (end_of r.arrivals - r.front) (omega arith) (omega (arith, ends)))
gaps_between false width seen r ends =
    kept _ (is_missing width r) _
    (consecutive r.front (r.front + width) (max seen r.front) (end_of r.arrivals - max seen r.front) (omega arith) (omega (arith, ends)))

-- the length of the runs that a NAK reports
pub numbers_reported : (all : Bool) (width seen initial : ℕ) (r : Receiving) (pairs : List (Seq31 × Seq31))
    → end_of r.arrivals ≤ r.front + width → width ≤ 8192 → words_of pairs ≡ map (run_words initial) (runs_said (gaps_reported all width seen r))
    → numbers_in_pairs pairs ≡ numbers_in (runs_said (gaps_reported all width seen r))
numbers_reported all width seen initial r pairs ends narrow said =
    same_pairs pairs ∙ ap (sum_by of_words) said
    ∙ all_spans initial r.front (r.front + width) (runs_said (gaps_reported all width seen r)) (omega (arith, narrow))
    (taken _ 32 _ (grouped r.front (r.front + width) _ (gaps_between all width seen r ends)))
