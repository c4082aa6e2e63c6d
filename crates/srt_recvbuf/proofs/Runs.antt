-- Runs of numbers that pass a test.
use Rattle.std.proofs.Common.{◌≡◌, ◌≢◌, ℕ, zero, suc, ◌+◌, ◌-◌, ◌<◌, ◌≤◌, Bool, true, false, if◌then◌else◌, not, List, [], ◌∷◌, ◌++◌, map}
use Rattle.std.proofs.Common.{take, min, max, append_assoc, append-nil, refl, sym, ap, ◌∙◌, inl, inr, arith}
use Rattle.std.specs.Prelude.{filter}
use Rattle.std.proofs.lemmas.Bool.{not-true, cases_eq, cases_lt, eq-eqb, ne_eqb}
use Rattle.srt_types.specs.Runs.{Run, run_before, runs, numbers_from}

-- numbers that don't pass can be omitted
pub passed_over : (test : ℕ → Bool) (p m c : ℕ)
    → ((i : ℕ) → i < m → test (p + i) ≡ false) → filter test (numbers_from p (m + c)) ≡ filter test (numbers_from (p + m) c)
passed_over test p zero c none =
    let a : p ≡ p + 0 = omega arith in
    let b : 0 + c ≡ c = omega arith in
    ap (λ x. filter test (numbers_from p x)) b ∙ ap (λ x. filter test (numbers_from x c)) a
passed_over test p (suc m) c none =
    let z : p + 0 ≡ p = omega arith in
    let here : test p ≡ false = rw z at (none 0 (omega arith)) in
    let b : suc m + c ≡ suc (m + c) = omega arith in
    let a : p + 1 + m ≡ p + suc m = omega arith in
    ap (λ x. filter test (numbers_from p x)) b
    ∙ ap (λ (x : Bool). if x then p ∷ filter test (numbers_from (p + 1) (m + c)) else filter test (numbers_from (p + 1) (m + c))) here
    ∙ passed_over test (p + 1) m c (λ i lt. let e : p + 1 + i ≡ p + suc i = omega arith in rw e (none (suc i) (omega (arith, lt))))
    ∙ ap (λ x. filter test (numbers_from x c)) a

abbrev head_low : List Run → ℕ
head_low [] = 0
head_low (r ∷ rs) = r.low

low_is : (p : ℕ) (rs : List Run) → head_low (run_before p rs) ≡ p
low_is p [] = refl
low_is p (x ∷ xs) = elim (cases_eq x.low (p + 1)) [
  | inl same ↦ rw (eq-eqb _ _ same) refl
  | inr other ↦ rw (ne_eqb _ _ other) refl
]

-- the first run of numbers from p on begins at p or above
begins : (test : ℕ → Bool) (p c : ℕ) (r : Run) (rs : List Run) → runs (filter test (numbers_from p c)) ≡ r ∷ rs → p ≤ r.low
begins test p zero r rs e = cc
begins test p (suc c) r rs e = by (test p) refl (begins test (p + 1) c r rs)
  where
    by : (b : Bool) → test p ≡ b → (runs (filter test (numbers_from (p + 1) c)) ≡ r ∷ rs → p + 1 ≤ r.low) → p ≤ r.low
    by true is next =
        let g : run_before p (runs (filter test (numbers_from (p + 1) c))) ≡ r ∷ rs =
        sym (ap (λ (x : Bool). runs (if x then p ∷ filter test (numbers_from (p + 1) c) else filter test (numbers_from (p + 1) c))) is)
        ∙ e in
        let l : p ≡ r.low = sym (low_is p (runs (filter test (numbers_from (p + 1) c)))) ∙ ap head_low g in
        omega (arith, l)
    by false is next =
        let k = next (sym (ap (λ (x : Bool). runs (if x then p ∷ filter test (numbers_from (p + 1) c) else filter test (numbers_from (p + 1) c))) is) ∙ e) in
        omega (arith, k)

apart : (test : ℕ → Bool) (q c : ℕ) → (0 < c → test q ≡ false) → (x : Run) (xs : List Run) → runs (filter test (numbers_from q c)) ≡ x ∷ xs → q < x.low
apart test q zero none x xs e = cc
apart test q (suc c) none x xs e =
    let k = begins test (q + 1) c x xs
    (sym (ap (λ (y : Bool). runs (if y then q ∷ filter test (numbers_from (q + 1) c) else filter test (numbers_from (q + 1) c)))
    (none (omega arith)))
    ∙ e) in
    omega (arith, k)

alone : (p : ℕ) (rs : List Run) → ((x : Run) (xs : List Run) → rs ≡ x ∷ xs → p + 1 < x.low) → run_before p rs ≡ record { low = p; high = p } ∷ rs
alone p [] far = refl
alone p (x ∷ xs) far =
    let lt = far x xs refl in
    let ne : x.low ≢ p + 1 = omega (arith, lt) in
    rw (ne_eqb _ _ ne) refl

joined : (p high : ℕ) (rs : List Run) → run_before p (record { low = p + 1; high = high } ∷ rs) ≡ record { low = p; high = high } ∷ rs
joined p high rs = rw (eq-eqb (p + 1) (p + 1) refl) refl

taken_in : (test : ℕ → Bool) (p c : ℕ)
    → test p ≡ true → runs (filter test (numbers_from p (suc c))) ≡ run_before p (runs (filter test (numbers_from (p + 1) c)))
taken_in test p c is = ap (λ (x : Bool). runs (if x then p ∷ filter test (numbers_from (p + 1) c) else filter test (numbers_from (p + 1) c))) is

-- numbers that pass, and then one that doesn't or the end, are the first run
pub one_run : (test : ℕ → Bool) (p m c : ℕ) → ((i : ℕ) → i < m + 1 → test (p + i) ≡ true) → (0 < c → test (p + (m + 1)) ≡ false)
    → runs (filter test (numbers_from p (m + 1 + c))) ≡ record { low = p; high = p + m } ∷ runs (filter test (numbers_from (p + (m + 1)) c))
one_run test p zero c pass stop =
    let z : p + 0 ≡ p = omega arith in
    let here : test p ≡ true = rw z at (pass 0 (omega arith)) in
    let q : p + (0 + 1) ≡ p + 1 = omega arith in
    let b : 0 + 1 + c ≡ suc c = omega arith in
    let stops : 0 < c → test (p + 1) ≡ false = λ lt. rw q at (stop lt) in
    ap (λ x. runs (filter test (numbers_from p x))) b
    ∙ taken_in test p c here
    ∙ alone p (runs (filter test (numbers_from (p + 1) c))) (apart test (p + 1) c stops)
    ∙ ap (λ x. record { low = p; high = x } ∷ runs (filter test (numbers_from (p + 1) c))) (sym z)
    ∙ ap (λ x. record { low = p; high = p + 0 } ∷ runs (filter test (numbers_from x c))) (sym q)
one_run test p (suc m) c pass stop =
    let z : p + 0 ≡ p = omega arith in
    let here : test p ≡ true = rw z at (pass 0 (omega arith)) in
    let b : suc m + 1 + c ≡ suc (m + 1 + c) = omega arith in
    let e : p + 1 + (m + 1) ≡ p + (suc m + 1) = omega arith in
    let h : p + 1 + m ≡ p + suc m = omega arith in
    ap (λ x. runs (filter test (numbers_from p x))) b
    ∙ taken_in test p (m + 1 + c) here
    ∙ ap (run_before p)
    (one_run test (p + 1) m c (λ i lt. let k : p + 1 + i ≡ p + suc i = omega arith in rw k (pass (suc i) (omega (arith, lt))))
    (λ lt. rw e (stop lt)))
    ∙ joined p (p + 1 + m) (runs (filter test (numbers_from (p + 1 + (m + 1)) c)))
    ∙ ap (λ x. record { low = p; high = x } ∷ runs (filter test (numbers_from (p + 1 + (m + 1)) c))) h
    ∙ ap (λ x. record { low = p; high = p + suc m } ∷ runs (filter test (numbers_from x c))) e

-- the next run of passing numbers from a place on
pub next_run : (test : ℕ → Bool) (p at low high end : ℕ) → at ≤ low → low < high → high ≤ end
    → ((d : ℕ) → at ≤ d → d < low → test (p + d) ≡ false) → ((d : ℕ) → low ≤ d → d < high → test (p + d) ≡ true)
    → (high < end → test (p + high) ≡ false)
    → runs (filter test (numbers_from (p + at) (end - at)))
    ≡ record { low = p + low; high = p + (high - 1) } ∷ runs (filter test (numbers_from (p + high) (end - high)))
next_run test p at low high end al lh he out inside stop =
    let a : end - at ≡ (low - at) + (end - low) = omega (arith, al, lh, he) in
    let b : p + at + (low - at) ≡ p + low = omega (arith, al) in
    let c : end - low ≡ (high - low - 1) + 1 + (end - high) = omega (arith, lh, he) in
    let d : p + low + (high - low - 1) ≡ p + (high - 1) = omega (arith, lh) in
    let e : p + low + ((high - low - 1) + 1) ≡ p + high = omega (arith, lh) in
    ap (λ x. runs (filter test (numbers_from (p + at) x))) a
    ∙ ap runs
    (passed_over test (p + at) (low - at) (end - low)
    (λ i lt. let k : p + at + i ≡ p + (at + i) = omega arith in rw k (out (at + i) (omega arith) (omega (arith, lt)))))
    ∙ ap (λ x. runs (filter test (numbers_from x (end - low)))) b
    ∙ ap (λ x. runs (filter test (numbers_from (p + low) x))) c
    ∙ one_run test (p + low) (high - low - 1) (end - high)
    (λ i lt. let k : p + low + i ≡ p + (low + i) = omega arith in rw k (inside (low + i) (omega arith) (omega (arith, lt, lh))))
    (λ lt. rw e (stop (omega (arith, lt))))
    ∙ ap (λ x. record { low = p + low; high = x } ∷ runs (filter test (numbers_from (p + low + ((high - low - 1) + 1)) (end - high)))) d
    ∙ ap (λ x. record { low = p + low; high = p + (high - 1) } ∷ runs (filter test (numbers_from x (end - high)))) e

-- without a passing number there is no run
pub none_left : (test : ℕ → Bool) (p at end : ℕ) → ((d : ℕ) → at ≤ d → d < end → test (p + d) ≡ false) → filter test (numbers_from (p + at) (end - at)) ≡ []
none_left test p at end out =
    let a : end - at ≡ (end - at) + 0 = omega arith in
    ap (λ x. filter test (numbers_from (p + at) x)) a
    ∙ passed_over test (p + at) (end - at) 0 (λ i lt. let k : p + at + i ≡ p + (at + i) = omega arith in rw k (out (at + i) (omega arith) (omega (arith, lt))))

take_none : (n : ℕ) → take {A = Run} n [] ≡ []
take_none zero = refl
take_none (suc n) = refl

pub no_more : (words : List (ℕ × ℕ)) (f : Run → ℕ × ℕ) (n : ℕ) (ns : List ℕ) → ns ≡ [] → words ++ map f (take n (runs ns)) ≡ words
no_more words f n ns e = ap (λ x. words ++ map f (take n (runs x))) e ∙ ap (λ x. words ++ map f x) (take_none n) ∙ append-nil words

pub one_more : (words : List (ℕ × ℕ)) (f : Run → ℕ × ℕ) (n k : ℕ) (r : Run) (rs all : List Run)
    → n ≡ suc k → all ≡ r ∷ rs → words ++ map f (take n all) ≡ (words ++ f r ∷ []) ++ map f (take k rs)
one_more words f n k r rs all e g =
    ap (λ x. words ++ map f (take x all)) e ∙ ap (λ x. words ++ map f (take (suc k) x)) g
    ∙ sym (append_assoc words (f r ∷ []) (map f (take k rs)))

pub none_more : (words : List (ℕ × ℕ)) (f : Run → ℕ × ℕ) (n : ℕ) (rs : List Run) → n ≡ 0 → words ++ map f (take n rs) ≡ words
none_more words f n rs e = ap (λ x. words ++ map f (take x rs)) e ∙ append-nil words

pub strictly : (empty : ℕ → Bool) (low high end : ℕ) → low ≤ high → low < end → empty low ≡ true → (high < end → not (empty high) ≡ true) → low < high
strictly empty low high end le lt here stop = elim (cases_lt low high) [
  | inl less ↦ less
  | inr ge ↦
      let same : high ≡ low = omega (arith, le, ge) in
      let no : empty high ≡ false = not-true (empty high) (stop (omega (arith, same, lt))) in
      let clash : true ≡ false = sym here ∙ ap empty (sym same) ∙ no in
      absurd (differ clash)
]
  where
    differ : true ≡ false → ⊥
    differ e = cc

pub same_pair : (a b c d : ℕ) → a ≡ c → b ≡ d → ◌≡◌ {A = ℕ × ℕ} (a, b) (c, d)
same_pair a b c d e f = let l : ℕ → ℕ × ℕ = λ x. (x, b) in let m : ℕ → ℕ × ℕ = λ x. (c, x) in ap l e ∙ ap m f

-- nothing before the acknowledgement point is missing, so the search may begin there
pub from_point : (test : ℕ → Bool) (p offset at point end top : ℕ) → end ≡ top - p → at ≡ min (max offset point) end
    → ((d : ℕ) → d < point → test (p + d) ≡ false)
    → filter test (numbers_from (p + offset) (top - (p + offset))) ≡ filter test (numbers_from (p + at) (end - at))
from_point test p offset at point end top e a none = elim (cases_lt at offset) [
  | inl beyond ↦
      let x : top - (p + offset) ≡ 0 = omega (arith, e, a, beyond) in
      let y : end - at ≡ 0 = omega (arith, a, beyond) in
      ap (λ n. filter test (numbers_from (p + offset) n)) x ∙ sym (ap (λ n. filter test (numbers_from (p + at) n)) y)
  | inr from ↦
      let x : top - (p + offset) ≡ (at - offset) + (end - at) = omega (arith, e, a, from) in
      let y : p + offset + (at - offset) ≡ p + at = omega (arith, from) in
      ap (λ n. filter test (numbers_from (p + offset) n)) x
      ∙ passed_over test (p + offset) (at - offset) (end - at)
      (λ i lt. let k : p + offset + i ≡ p + (offset + i) = omega arith in rw k (none (offset + i) (omega (arith, lt, a))))
      ∙ ap (λ n. filter test (numbers_from n (end - at))) y
]
