-- The Full ACK at a place, and the place of the one that a number confirms.
use Rattle.std.proofs.Common.{◌≡◌, ◌≢◌, ℕ, zero, suc, ◌+◌, ◌-◌, ◌%◌, ◌<◌, Bool, true, false, cond, Option, Some, None, List, [], ◌∷◌}
use Rattle.std.proofs.Common.{length, take, get_or, inl, inr, refl, sym, ap, ◌∙◌, arith}
use Rattle.std.specs.List.{position}
use Rattle.std.proofs.lemmas.List.{get_or-take, get_or_read, length-take}
use Rattle.std.proofs.lemmas.List.Sums.{position_or_len_is}
use Rattle.std.proofs.lemmas.Bool.Decides.{nat_tests, eqb_tells}
use Rattle.srt_types.specs.Counts.{ack_number}
use Rattle.srt_timing.specs.Book.{Noted, is_waiting, waiting_place, IsNumbered, moment_at, IsBookOf}
use Rattle.srt_timing.specs.inside.Steps.{IsStepsBack}

pub nobody : Noted
nobody = record { index = 0; moment = 0; is_confirmed = true }

pub index_at : (h : List Noted) (e : ℕ) → IsNumbered h → e < length h → (get_or h e nobody).index ≡ length h - (e + 1)
index_at [] e k lt = absurd (omega (arith, lt))
index_at (n ∷ h) zero k lt = omega (arith, k.0)
index_at (n ∷ h) (suc e) k lt = let i = index_at h e k.1 (omega (arith, lt)) in omega (arith, i)

abbrev pub moment_of : Noted → Option ℕ
moment_of n = cond n.is_confirmed None (Some n.moment)

pub moment_is : (h : List Noted) (e : ℕ) → e < length h → moment_at h e ≡ moment_of (get_or h e nobody)
moment_is [] e lt = absurd (omega (arith, lt))
moment_is (n ∷ h) zero lt = refl
moment_is (n ∷ h) (suc e) lt = moment_is h e (omega (arith, lt))

is_within : (h : List Noted) (d m : ℕ) → moment_at h d ≡ Some m → d < length h
is_within [] d m e = cc
is_within (n ∷ h) zero m e = omega arith
is_within (n ∷ h) (suc d) m e = let w = is_within h d m e in omega (arith, w)

is_stale : (number : ℕ) (n : Noted) → moment_of n ≡ None → is_waiting number n ≡ false
is_stale number n e = grind (arith, nat_tests)

waits : (number : ℕ) (n : Noted) (m : ℕ) → ack_number n.index ≡ number → moment_of n ≡ Some m → is_waiting number n ≡ true
waits number n m a e = grind (arith, nat_tests)

pub its_number : (number : ℕ) (n : Noted) → is_waiting number n ≡ true → ack_number n.index ≡ number
its_number number n w = grind (arith, nat_tests)

pub still : (number : ℕ) (n : Noted) → is_waiting number n ≡ true → moment_of n ≡ Some n.moment
still number n w = grind (arith, nat_tests)

-- one of the last 64 Full ACKs has a number only if that number leads to its place
no_wait : (h : List Noted) (number e : ℕ)
    → IsNumbered h → e < length h → ack_number (length h - (e + 1)) ≢ number → is_waiting number (get_or h e nobody) ≡ false
no_wait h number e k lt w = let i = index_at h e k lt in grind (arith, nat_tests)

pub none_passes : (p : Noted → Bool) (xs : List Noted) → ((e : ℕ) → e < length xs → p (get_or xs e nobody) ≡ false) → position p xs ≡ None
none_passes p xs h =
    let at = position_or_len_is p xs (length xs) nobody (omega arith) h (λ lt. absurd (omega (arith, lt))) in
    grind (arith, nat_tests)

one_passes : (p : Noted → Bool) (xs : List Noted) (d : ℕ)
    → d < length xs → p (get_or xs d nobody) ≡ true → ((e : ℕ) → e < d → p (get_or xs e nobody) ≡ false) → position p xs ≡ Some d
one_passes p xs d lt here before =
    let at = position_or_len_is p xs d nobody (omega (arith, lt)) before (λ _. here) in
    grind (arith, nat_tests)

pub in_last : (h : List Noted) (e : ℕ) → e < length (take 64 h) → (e < 64) × (e < length h) × (get_or (take 64 h) e nobody ≡ get_or h e nobody)
in_last h e lt =
    let n = length-take 64 h in
    let small : e < 64 = omega (arith, n, lt) in
    (small, omega (arith, n, lt), get_or-take 64 h e nobody small)

pub place_none : (h : List Noted) (number : ℕ) → IsNumbered h → IsStepsBack number (length h) None → waiting_place number h ≡ None
place_none h number k steps = none_passes (is_waiting number) (take 64 h) (λ e lt.
    let at = in_last h e lt in
    rw at.2 (no_wait h number e k at.1 (steps e at.0 at.1)))

pub place_stale : (h : List Noted) (number d : ℕ) → IsNumbered h → IsStepsBack number (length h) (Some d) → moment_at h d ≡ None → waiting_place number h ≡ None
place_stale h number d k steps m = none_passes (is_waiting number) (take 64 h) (λ e lt.
    let at = in_last h e lt in
    rw at.2
    (elim (eqb_tells e d) [
      | inl y ↦ let same : moment_at h e ≡ None = rw y.1 m in is_stale number (get_or h e nobody) (sym (moment_is h e at.1) ∙ same)
      | inr n ↦ no_wait h number e k at.1 (λ same. n.1 (steps.1 e at.0 at.1 same))
    ]))

pub place_some : (h : List Noted) (number d m : ℕ)
    → d < 64 → IsNumbered h → IsStepsBack number (length h) (Some d) → moment_at h d ≡ Some m → waiting_place number h ≡ Some d
place_some h number d m small k steps e =
    let within : d < length h = is_within h d m e in
    let n = length-take 64 h in
    let lt : d < length (take 64 h) = omega (arith, n, within, small) in
    let i = index_at h d k within in
    let a = ap ack_number i ∙ steps.0 within in
    one_passes (is_waiting number) (take 64 h) d lt
    (rw (get_or-take 64 h d nobody small) (waits number (get_or h d nobody) m a (sym (moment_is h d within) ∙ e)))
    (λ b less.
    let at = in_last h b (omega (arith, less, lt)) in
    rw at.2 (no_wait h number b k at.1 (λ same. let q = steps.1 b at.0 at.1 same in absurd (omega (arith, q, less)))))

pub read_at : (next at : ℕ) (moments : List (Option ℕ)) (h : List Noted) (d i : ℕ) (x : Option ℕ)
    → length moments ≡ 64 → d < 64 → i ≡ (at + (63 - d)) % 64 → IsBookOf next at moments h → x ≡ get_or moments i x → moment_at h d ≡ x
read_at next at moments h d i x len small i_is b e =
    sym (b.moments_are d small) ∙ ap (λ (k : ℕ). get_or moments k None) (sym i_is)
    ∙ sym (get_or_read moments i x (omega (arith, i_is, len)) e None)
