-- Times that never decrease, and packets sent one by one.
use Rattle.std.proofs.Common.{◌≡◌, ℕ, zero, suc, ◌+◌, ◌<◌, ◌≤◌, ◌==◌, Bool, true, false, if◌then◌else◌, List, [], ◌∷◌, ◌++◌, inl, inr, refl}
use Rattle.std.proofs.Common.{sym, ap, ◌∙◌, arith}
use Rattle.std.specs.Prelude.{ℤ, pos, negsuc, ◌≤ℤ◌, int_lt, filter}
use Rattle.std.proofs.lemmas.Bool.{cases_eq, eq-eqb, ne_eqb, true≢false}
use Rattle.std.proofs.lemmas.Bool.Decides.{nat_tests}
use Rattle.std.proofs.lemmas.Int.{ints}
use Rattle.std.proofs.lemmas.List.Elements.{All-nil, All-push}
use Rattle.srt_types.specs.Runs.{numbers_from}
use Rattle.srt_sendbuf.specs.Sending.{Queued, Sending, front, next, in_flight, lost, is_marked, queued, sent, IsTimely, IsLater}
use Rattle.srt_sendbuf.specs.OneByOne.{TimesGoOn, ExpiryGoesOn, LostOneByOne, NewOneByOne}
use Rattle.srt_sendbuf.proofs.Fronts.{test, many, many_is}
use Rattle.srt_sendbuf.proofs.Steps.{none_of}

timely_queue : (now : ℕ) (payload : List ℕ) (s : Sending) → IsTimely now s → IsTimely now (queued now payload s)
timely_queue now payload s h = All-push (λ q. q.origin ≤ now) s.queue (record { origin = now; payload = payload }) h (omega arith)

pub times_go_on : TimesGoOn
times_go_on =
    record {
      none = λ now. All-nil (λ (q : Queued). q.origin ≤ now);
      later = λ now later s le h k d lt. let x = h k d lt in omega (arith, x, le);
      queue = timely_queue;
    }

sooner : (before after : ℤ) (a : ℕ) → before ≤ℤ after → int_lt (pos a) before ≡ true → int_lt (pos a) after ≡ true
sooner (pos m) (pos n) a le e = grind (arith, nat_tests, ints, le, e)
sooner (pos m) (negsuc n) a le e = absurd (omega (arith, ints, le))
sooner (negsuc m) after a le e = absurd (true≢false (sym e))

more_old : (before after : ℤ) (qs : List Queued) → before ≤ℤ after → many before qs ≤ many after qs
more_old before after [] le = omega arith
more_old before after (q ∷ qs) le = step (test before q) (test after q) refl refl (more_old before after qs le)
  where
    step : (a b : Bool) → test before q ≡ a → test after q ≡ b → many before qs ≤ many after qs → many before (q ∷ qs) ≤ many after (q ∷ qs)
    step true true x y h = rw (x, y) (omega (arith, h))
    step true false x y h = absurd (true≢false (sym (sooner before after q.origin le x) ∙ y))
    step false true x y h = rw (x, y) (omega (arith, h))
    step false false x y h = rw (x, y) h

many_after : (before : ℤ) (qs : List Queued) (q : Queued) → many before qs ≤ many before (qs ++ q ∷ [])
many_after before [] q = omega arith
many_after before (p ∷ qs) q = step (test before p) refl (many_after before qs q)
  where
    step : (a : Bool) → test before p ≡ a → many before qs ≤ many before (qs ++ q ∷ []) → many before (p ∷ qs) ≤ many before (p ∷ qs ++ q ∷ [])
    step true x h = rw x (omega (arith, h))
    step false x h = rw x h

later_stays : (before after : ℤ) (s : Sending) → before ≤ℤ after → IsLater before s → IsLater after s
later_stays before after s le h =
    let a = many_is before s.queue in
    let b = many_is after s.queue in
    let m = more_old before after s.queue le in
    omega (arith, a, b, m, h)

later_queued : (before : ℤ) (origin : ℕ) (payload : List ℕ) (s : Sending) → IsLater before s → IsLater before (queued origin payload s)
later_queued before origin payload s h =
    let q : Queued = record { origin = origin; payload = payload } in
    let a = many_is before s.queue in
    let b = many_is before (s.queue ++ q ∷ []) in
    let m = many_after before s.queue q in
    omega (arith, a, b, m, h)

pub expiry_goes_on : ExpiryGoesOn
expiry_goes_on =
    record {
      none = λ before. omega arith;
      later = later_stays;
      queue = later_queued;
      expire = λ before s. omega arith;
    }

above : (passes : ℕ → Bool) (n from places : ℕ)
    → n < from → filter (λ k. if n == k then false else passes k) (numbers_from from places) ≡ filter passes (numbers_from from places)
above passes n from zero lt = refl
above passes n from (suc places) lt =
    let e : (n == from) ≡ false = ne_eqb _ _ (λ e. omega (arith, e, lt)) in
    let h = above passes n (from + 1) places (omega (arith, lt)) in
    rw (e, h) refl

nothing : (n : ℕ) (more : List ℕ) → [] ≡ n ∷ more → ⊥
nothing n more e = cc

head_of : (a b : ℕ) (xs ys : List ℕ) → a ∷ xs ≡ b ∷ ys → (a ≡ b) × (xs ≡ ys)
head_of a b xs ys e = (cc, cc)

taken : (passes : ℕ → Bool) (from places n : ℕ) (more : List ℕ) → filter passes (numbers_from from places) ≡ n ∷ more
    → (from ≤ n) × (n < from + places) × (filter (λ k. if n == k then false else passes k) (numbers_from from places) ≡ more)
taken passes from zero n more e = absurd (nothing n more e)
taken passes from (suc places) n more e = step (passes from) refl (taken passes (from + 1) places n more)
  where
    rest : List ℕ
    rest = filter passes (numbers_from (from + 1) places)

    step : (b : Bool) → passes from ≡ b
        → (filter passes (numbers_from (from + 1) places) ≡ n ∷ more
        → (from + 1 ≤ n) × (n < from + 1 + places) ×
        (filter (λ k. if n == k then false else passes k) (numbers_from (from + 1) places) ≡ more))
        → (from ≤ n) × (n < from + suc places) × (filter (λ k. if n == k then false else passes k) (numbers_from from (suc places)) ≡ more)
    step true b h =
        let all : from ∷ filter passes (numbers_from (from + 1) places) ≡ n ∷ more = rw b at e in
        let two = head_of from n (filter passes (numbers_from (from + 1) places)) more all in
        let here : (n == from) ≡ true = eq-eqb _ _ (sym two.0) in
        let t = two.0 in
        (omega (arith, t), omega (arith, t), rw here (above passes n (from + 1) places (omega (arith, t)) ∙ two.1))
    step false b h =
        let all : filter passes (numbers_from (from + 1) places) ≡ n ∷ more = rw b at e in
        let i = h all in
        let low = i.0 in
        let high = i.1 in
        let here : (n == from) ≡ false = ne_eqb _ _ (λ e. omega (arith, e, low)) in
        (omega (arith, low), omega (arith, high), rw (here, b) i.2)

lost_others : (s : Sending) (n : ℕ) (more : List ℕ) → lost s ≡ n ∷ more → (next (sent n s) ≡ next s) × (lost (sent n s) ≡ more)
lost_others s n more e =
    let t = taken (is_marked s.marks) (front s) (in_flight s) n more e in
    let low = t.0 in
    let high = t.1 in
    let same : next (sent n s) ≡ next s = omega (arith, low, high) in
    let places : in_flight (sent n s) ≡ in_flight s = omega (arith, low, high) in
    (same, ap (λ p. filter (λ k. if n == k then false else is_marked s.marks k) (numbers_from (front s) p)) places ∙ t.2)

pub lost_one_by_one : LostOneByOne
lost_one_by_one = record { others = λ s n more e. (lost_others s n more e).1; next_stays = λ s n more e. (lost_others s n more e).0 }

none_from : (passes : ℕ → Bool) (from places d : ℕ) → filter passes (numbers_from from places) ≡ [] → d < places → passes (from + d) ≡ false
none_from passes from zero d e lt = absurd (omega (arith, lt))
none_from passes from (suc places) d e lt = step (passes from) refl d lt (λ k. none_from passes (from + 1) places k)
  where
    step : (b : Bool) → passes from ≡ b → (d : ℕ) → d < suc places
        → ((k : ℕ) → filter passes (numbers_from (from + 1) places) ≡ [] → k < places → passes ((from + 1) + k) ≡ false)
        → passes (from + d) ≡ false
    step true b d lt h = let all : from ∷ filter passes (numbers_from (from + 1) places) ≡ [] = rw b at e in absurd cc
    step false b zero lt h = let z : from + 0 ≡ from = omega arith in rw z b
    step false b (suc d) lt h =
        let all : filter passes (numbers_from (from + 1) places) ≡ [] = rw b at e in
        let m : (from + 1) + d ≡ from + suc d = omega arith in
        rw m at (h d all (omega (arith, lt)))

still : (s : Sending) → lost s ≡ [] → lost (sent (next s) s) ≡ []
still s e = none_of (λ k. if next s == k then false else is_marked s.marks k) (front s) (in_flight (sent (next s) s)) at
  where
    at : (d : ℕ) → d < in_flight (sent (next s) s) → (if next s == front s + d then false else is_marked s.marks (front s + d)) ≡ false
    at d lt = elim (cases_eq (next s) (front s + d)) [
      | inl same ↦ let b : (next s == (front s + d)) ≡ true = eq-eqb _ _ same in rw b refl
      | inr other ↦
          let b : (next s == (front s + d)) ≡ false = ne_eqb _ _ other in
          rw b (none_from (is_marked s.marks) (front s) (in_flight s) d e (omega (arith, lt, other)))
    ]

pub new_one_by_one : NewOneByOne
new_one_by_one = record { still_none = still; goes_on = λ s. omega arith }
