-- No refusal is lost: it has its line, or it is counted, and each count is told once.
use Rattle.std.proofs.Common.{◌≡◌, ℕ, zero, suc, ◌+◌, ◌-◌, ◌<◌, ◌≤◌, ◌^◌, ◌==◌, min, Bool, true, false, not, ◌&&◌, ◌++◌, List, [], ◌∷◌, length}
use Rattle.std.proofs.Common.{nat_lt, nat_le, nat_eq, get_or, cond, Option, None, Some, refl, sym, ap, subst, ◌∙◌, if◌then◌else◌, arith}
use Rattle.std.specs.Prelude.{slice_get}
use Rattle.std.specs.List.{remove, position, prefix_len, position_or_len, sum_by}
use Rattle.std.proofs.lemmas.Bool.{and_parts}
use Rattle.std.proofs.lemmas.Bool.Decides.{nat_tests}
use Rattle.std.proofs.lemmas.List.Sums.{sum_by_push, sum_by-remove}
use Rattle.std.proofs.Math.Nat.{min-eq_left}
use Rattle.std.proofs.lemmas.Option.{slice_get_within, slice_get-get_or}
use Rattle.srt_log.specs.declared.repeats.Refusal.{Refusal}
use Rattle.srt_log.specs.declared.repeats.Telling.{Telling}
use Rattle.srt_log.specs.declared.repeats.Telling.TheVariants.{Line, Counted}
use Rattle.srt_log.specs.Repeats.{Caller, begun, is_of, is_over, is_lapsed, is_due, one_more, behind, told_again, noted_again, noted_instead, noted_full}
use Rattle.srt_log.specs.Repeats.{noted_first, noted_at, noted, telling_again, telling_at, telling_of, begun_again, due_at, taken_from, taken_at}
use Rattle.srt_log.specs.Repeats.{waiting, lines_of, count_if, EachIsToldOrCounted, CountsAreToldOnce}

count_of : Caller → ℕ
count_of c = c.count

the_one : (x y : Caller) → Some x ≡ Some y → x ≡ y
the_one x y e = cc

-- a caller in place of another one
exchanged : (xs : List Caller) (at : ℕ) (c d : Caller) → slice_get xs at ≡ Some c → waiting (behind xs at d) + c.count ≡ waiting xs + d.count
exchanged xs at c d h =
    let within = slice_get_within xs at c h in
    let same : get_or xs at c ≡ c = the_one (get_or xs at c) c (sym (slice_get-get_or xs at c within) ∙ h) in
    let counts = ap (λ (x : Caller). x.count) same in
    let parts = sum_by_push (λ (x : Caller). x.count) (remove xs at) d in
    let less = sum_by-remove (λ (x : Caller). x.count) xs at c within in
    omega (arith, parts, less, counts)

-- what is at the first place that passes a test passes it
one_more_place : (n : ℕ) → 1 + n ≡ suc n
one_more_place n = omega arith

at_front : (p : Caller → Bool) (xs : List Caller) (c : Caller) → slice_get xs (prefix_len (λ x. not (p x)) xs) ≡ Some c → p c ≡ true
at_front p [] c h = absurd cc
at_front p (x ∷ xs) c h = by (p x) refl h (λ e. at_front p xs c e)
  where
    by : (t : Bool) → p x ≡ t → slice_get (x ∷ xs) (cond (not t) (1 + prefix_len (λ y. not (p y)) xs) 0) ≡ Some c →
        (slice_get xs (prefix_len (λ y. not (p y)) xs) ≡ Some c → p c ≡ true) → p c ≡ true
    by true is e later = subst (λ (y : Caller). p y ≡ true) (the_one x c e) is
    by false is e later =
        later (subst (λ (k : ℕ). slice_get (x ∷ xs) k ≡ Some c) (one_more_place (prefix_len (λ y. not (p y)) xs)) e)

the_place : (t : Bool) (n at : ℕ) → cond t (Some n) None ≡ Some at → n ≡ at
the_place true n at e = cc
the_place false n at e = absurd cc

found_passes : (p : Caller → Bool) (xs : List Caller) (at : ℕ) (c : Caller) → position p xs ≡ Some at → slice_get xs at ≡ Some c → p c ≡ true
found_passes p xs at c h there =
    at_front p xs c (ap (slice_get xs) (the_place (nat_lt (position_or_len p xs) (length xs)) (position_or_len p xs) at h) ∙ there)

none_counted : (moment : ℕ) (c : Caller) → is_lapsed moment c ≡ true → c.count ≡ 0
none_counted moment c h =
    let parts = and_parts (is_over moment c) (c.count == 0) h in
    grind (arith, nat_tests, parts.1)

module _ (callers : List Caller) (refusal : Refusal) (moment : ℕ) where
  instead : (at : ℕ) (o : Option Caller) → position (is_lapsed moment) callers ≡ Some at → slice_get callers at ≡ o →
      waiting (noted_instead callers refusal moment at o) ≡ waiting callers
  instead at None found there = refl
  instead at (Some c) found there =
      let none = none_counted moment c (found_passes (is_lapsed moment) callers at c found there) in
      let sums : waiting (behind callers at (begun refusal moment)) + c.count ≡ waiting callers + 0 = exchanged callers at c (begun refusal moment) there in
      omega (arith, none, sums)

  full : (o : Option ℕ) → position (is_lapsed moment) callers ≡ o → waiting (noted_full callers refusal moment o) ≡ waiting callers
  full None found = refl
  full (Some at) found = instead at (slice_get callers at) found refl

  room : (t : Bool) →
      waiting (if t then callers ++ begun refusal moment ∷ [] else noted_full callers refusal moment (position (is_lapsed moment) callers))
      ≡ waiting callers
  room true =
      let parts : waiting (callers ++ begun refusal moment ∷ []) ≡ waiting callers + 0 = sum_by_push (λ (x : Caller). x.count) callers (begun refusal moment) in
      omega (arith, parts)
  room false = full (position (is_lapsed moment) callers) refl

  again : (at : ℕ) (c : Caller) → slice_get callers at ≡ Some c → waiting callers < 2 ^ 64 - 1 → (t : Bool) → is_lapsed moment c ≡ t →
      waiting (behind callers at (if t then begun refusal moment else one_more c)) + lines_of (if t then Line else Counted) ≡ waiting callers + 1
  again at c there few true is =
      let none = none_counted moment c is in
      let sums : waiting (behind callers at (begun refusal moment)) + c.count ≡ waiting callers + 0 = exchanged callers at c (begun refusal moment) there in
      let all : waiting (behind callers at (begun refusal moment)) + 1 ≡ waiting callers + 1 = omega (arith, none, sums) in
      all
  again at c there few false is =
      let sums : waiting (behind callers at (one_more c)) + c.count ≡ waiting callers + min (c.count + 1) (2 ^ 64 - 1) =
      exchanged callers at c (one_more c) there in
      let within = slice_get_within callers at c there in
      let same : get_or callers at c ≡ c = the_one (get_or callers at c) c (sym (slice_get-get_or callers at c within) ∙ there) in
      let less = sum_by-remove (λ (x : Caller). x.count) callers at c within in
      let counts = ap (λ (x : Caller). x.count) same in
      let below : c.count + 1 ≤ 2 ^ 64 - 1 = omega (arith, less, counts, few) in
      let fits : min (c.count + 1) (2 ^ 64 - 1) ≡ c.count + 1 = min-eq_left below in
      let all : waiting (behind callers at (one_more c)) + 0 ≡ waiting callers + 1 = omega (arith, sums, fits) in
      all

  at_place : (at : ℕ) (o : Option Caller) → slice_get callers at ≡ o → waiting callers < 2 ^ 64 - 1 →
      waiting (noted_again callers refusal moment at o) + lines_of (telling_again moment o) ≡ waiting callers + 1
  at_place at None there few = refl
  at_place at (Some c) there few = again at c there few (is_lapsed moment c) refl

  told : (o : Option ℕ) → waiting callers < 2 ^ 64 - 1 →
      waiting (noted_at callers refusal moment o) + lines_of (telling_at callers moment o) ≡ waiting callers + 1
  told None few = ap (λ n. n + 1) (room (nat_lt (length callers) 32))
  told (Some at) few = at_place at (slice_get callers at) refl few

  each_told : waiting callers < 2 ^ 64 - 1 → waiting (noted callers refusal moment) + lines_of (telling_of callers refusal moment) ≡ waiting callers + 1
  each_told few = told (position (is_of refusal) callers) few

pub each_is_told_or_counted : EachIsToldOrCounted
each_is_told_or_counted callers refusal moment few = each_told callers refusal moment few

module _ (callers : List Caller) (moment : ℕ) where
  from : (at : ℕ) (o : Option Caller) → slice_get callers at ≡ o → waiting (taken_from callers moment at o) + count_if o ≡ waiting callers
  from at None there = omega arith
  from at (Some c) there =
      let sums : waiting (behind callers at (begun_again moment c)) + c.count ≡ waiting callers + 0 = exchanged callers at c (begun_again moment c) there in
      let all : waiting (behind callers at (begun_again moment c)) + c.count ≡ waiting callers = omega (arith, sums) in
      all

  once : (o : Option ℕ) → waiting (taken_at callers moment o) + count_if (due_at callers o) ≡ waiting callers
  once None = omega arith
  once (Some at) = from at (slice_get callers at) refl

pub counts_are_told_once : CountsAreToldOnce
counts_are_told_once callers moment = once callers moment (position (is_due moment) callers)
