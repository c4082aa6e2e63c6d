-- How the front moves.
use Rattle.std.proofs.Common.{◌≡◌, ℕ, zero, suc, ◌+◌, ◌-◌, ◌<◌, ◌≤◌, min, max, Bool, true, false, Option, List, [], ◌∷◌, length, cond, inl}
use Rattle.std.proofs.Common.{inr, ◌⊎◌, refl, sym, ap, ◌∙◌, arith}
use Rattle.std.specs.Prelude.{ℤ, pos, negsuc, All, int_lt, slice_get, nat_lt}
use Rattle.std.proofs.lemmas.Bool.{cases_lt, lt-ltb, ltb-true}
use Rattle.std.proofs.lemmas.Bool.Decides.{nat_tests}
use Rattle.std.proofs.lemmas.List.Sums.{count_by-le-length}
use Rattle.std.proofs.lemmas.List.Elements.{All-head, All-tail}
use Rattle.std.proofs.lemmas.List.Recursion.{is_count_by}
use Rattle.srt_types.specs.Counts.{message_number}
use Rattle.srt_sendbuf.specs.Sending.{Queued, Sending, front, base, is_marked, acknowledged, expired_before, queued_before, IsLater}
use Rattle.srt_sendbuf.specs.Places.{Kept, is_old}
use Rattle.srt_sendbuf.specs.Stands.{IsInOrder, IsKept, IsMoved, kept_as}

-- an ACK that doesn't move the front
pub acked_below : (behind back steps message : ℕ) (r : Sending) → behind ≡ min (front r - r.acked) 16384 → back ≡ min behind 8192
    → steps < back → message ≡ message_number (base r + steps)
    → IsMoved 0 (back - steps) message r (acknowledged (base r + steps) r)
acked_below behind back steps message r b k lt m =
    record {
      queue_is = refl;
      marks_are = refl;
      front_is = omega (arith, b, k, lt);
      behind_is = omega (arith, b, k, lt);
      message_is = let e : base (acknowledged (base r + steps) r) ≡ base r + steps = omega (arith, b, k, lt) in m ∙ ap message_number (sym e);
    }

-- an ACK that moves the front
pub acked_beyond : (behind back steps message : ℕ) (r : Sending) → behind ≡ min (front r - r.acked) 16384 → back ≡ min behind 8192
    → back ≤ steps → message ≡ message_number (base r + steps)
    → IsMoved (steps - back) 0 message r (acknowledged (base r + steps) r)
acked_beyond behind back steps message r b k le m =
    record {
      queue_is = refl;
      marks_are = refl;
      front_is = omega (arith, b, k, le);
      behind_is = omega (arith, b, k, le);
      message_is = let e : base (acknowledged (base r + steps) r) ≡ base r + steps = omega (arith, b, k, le) in m ∙ ap message_number (sym e);
    }

abbrev pub test : ℤ → Queued → Bool
test before q = int_lt (pos q.origin) before

abbrev pub many : ℤ → List Queued → ℕ
many before [] = 0
many before (q ∷ qs) = cond (test before q) (1 + many before qs) (many before qs)

pub many_is : (before : ℤ) (qs : List Queued) → many before qs ≡ queued_before before qs
many_is before qs = is_count_by (many before) (test before) refl (λ q rest. refl) qs

later : (before : ℤ) (a b : ℕ) → int_lt (pos a) before ≡ false → a ≤ b → int_lt (pos b) before ≡ false
later (pos m) a b e le = grind (arith, nat_tests, e, le)
later (negsuc m) a b e le = refl

none_old : (before : ℤ) (first : ℕ) (qs : List Queued) → int_lt (pos first) before ≡ false → All (λ p. first ≤ p.origin) qs → many before qs ≡ 0
none_old before first [] e a = refl
none_old before first (q ∷ qs) e a =
    let le = All-head (λ p. first ≤ p.origin) q qs a in
    let b : test before q ≡ false = later before first q.origin e le in
    rw b (none_old before first qs e (All-tail (λ p. first ≤ p.origin) q qs a))

-- since the queue is in the order of time, the payloads queued before a time are its first ones
old_first : (before : ℤ) (qs : List Queued) (k n : ℕ) → IsInOrder qs → k < length qs → is_old before (kept_as n (slice_get qs k)) ≡ nat_lt k (many before qs)
old_first before [] k n o lt = absurd (omega (arith, lt))
old_first before (p ∷ qs) zero n o lt = here (test before p) refl
  where
    here : (b : Bool) → test before p ≡ b → test before p ≡ nat_lt 0 (many before (p ∷ qs))
    here true e = let one : nat_lt 0 (1 + many before qs) ≡ true = lt-ltb _ _ (omega arith) in rw e (sym one)
    here false e = let none = none_old before p.origin qs e o.0 in rw (e, none) refl
old_first before (p ∷ qs) (suc k) n o lt = there (test before p) refl (old_first before qs k n o.1 (omega (arith, lt)))
  where
    there : (b : Bool) → test before p ≡ b → is_old before (kept_as n (slice_get qs k)) ≡ nat_lt k (many before qs)
        → is_old before (kept_as n (slice_get qs k)) ≡ nat_lt (suc k) (many before (p ∷ qs))
    there true e rest = let same : nat_lt k (many before qs) ≡ nat_lt (suc k) (1 + many before qs) = grind (arith, nat_tests) in rw e (rest ∙ same)
    there false e rest =
        let none = none_old before p.origin qs e o.0 in
        let same : nat_lt k 0 ≡ nat_lt (suc k) 0 = grind (arith, nat_tests) in
        rw (e, none) (rest ∙ ap (nat_lt k) none ∙ same)

pub old_is : (before : ℤ) (qs : List Queued) (k n : ℕ)
    → IsInOrder qs → k < length qs → is_old before (kept_as n (slice_get qs k)) ≡ nat_lt k (queued_before before qs)
old_is before qs k n o lt = old_first before qs k n o lt ∙ ap (nat_lt k) (many_is before qs)

-- the front after the first n payloads expired: all of them were queued before a time, and the next one wasn't
pub expired_front : (before : ℤ) (count queued : ℕ) (kept : ℕ → Option Kept) (r : Sending) → IsInOrder r.queue
    → front r + queued ≡ length r.queue → ((d : ℕ) → d < queued → kept d ≡ kept_as (front r + d) (slice_get r.queue (front r + d)))
    → IsLater before r → count ≤ queued → ((d : ℕ) → d < count → is_old before (kept d) ≡ true)
    → (count < queued → is_old before (kept count) ≡ false)
    → front (expired_before before r) ≡ front r + count
expired_front before count queued kept r o q ks later le old young =
    there (cases_lt 0 count) (cases_lt count queued)
  where
    gone : ℕ
    gone = queued_before before r.queue

    at : (d : ℕ) → d < queued → is_old before (kept d) ≡ nat_lt (front r + d) gone
    at d lt = ap (is_old before) (ks d lt) ∙ old_is before r.queue (front r + d) (front r + d) o (omega (arith, lt, q))

    reached : 0 < count → front r + count ≤ gone
    reached some =
        let b : nat_lt (front r + (count - 1)) gone ≡ true = sym (at (count - 1) (omega (arith, some, le))) ∙ old (count - 1) (omega (arith, some)) in
        let lt = ltb-true _ _ b in
        omega (arith, lt, some)

    within : (count < queued) ⊎ (queued ≤ count) → gone ≤ front r + count
    within (inl lt) =
        let b : nat_lt (front r + count) gone ≡ false = sym (at count lt) ∙ young lt in
        grind (arith, nat_tests, b)
    within (inr ge) = let l = count_by-le-length (test before) r.queue in omega (arith, l, ge, q)

    there : (0 < count) ⊎ (count ≤ 0) → (count < queued) ⊎ (queued ≤ count) → max r.acked gone ≡ front r + count
    there (inl some) b = let x = reached some in let y = within b in omega (arith, x, y)
    there (inr none) b = let y = within b in omega (arith, y, none, later)

pub expired_moved : (before : ℤ) (behind behind2 back back2 count steps message : ℕ) (r : Sending) → behind ≡ min (front r - r.acked) 16384
    → back ≡ min behind 8192 → behind2 ≡ min (behind + count) 16384 → back2 ≡ min behind2 8192 → steps ≡ count + back - back2
    → message ≡ message_number (base r + steps) → front (expired_before before r) ≡ front r + count
    → IsMoved count behind2 message r (expired_before before r)
expired_moved before behind behind2 back back2 count steps message r b k b2 k2 s m f =
    record {
      queue_is = refl;
      marks_are = refl;
      front_is = f;
      behind_is = omega (arith, b, b2, f);
      message_is = let e : base (expired_before before r) ≡ base r + steps = omega (arith, b, k, b2, k2, s, f) in m ∙ ap message_number (sym e);
    }

-- an expiry that doesn't move the front changes no field
pub expired_none : (before : ℤ) (initial word behind queued flying low high base_message end_message : ℕ) (kept : ℕ → Option Kept)
    (lost : ℕ → Bool) (r : Sending)
    → IsKept initial word behind queued flying low high base_message end_message kept lost r → front (expired_before before r) ≡ front r
    → IsKept initial word behind queued flying low high base_message end_message kept lost (expired_before before r)
expired_none before initial word behind queued flying low high base_message end_message kept lost r h f =
    record {
      word_is = let w = h.word_is in omega (arith, w, f);
      behind_is = let b = h.behind_is in omega (arith, b, f);
      queued_is = let q = h.queued_is in omega (arith, q, f);
      flying_is = let n = h.flying_is in omega (arith, n, f);
      base_message_is = let e : base r ≡ base (expired_before before r) = omega (arith, f) in h.base_message_is ∙ ap message_number e;
      end_message_is = h.end_message_is;
      kept_is = λ d lt. h.kept_is d lt ∙ ap (λ n. kept_as (n + d) (slice_get r.queue (n + d))) (sym f);
      lost_is = λ d lt. h.lost_is d lt ∙ ap (λ n. is_marked r.marks (n + d)) (sym f);
      within = h.within;
      lowest = h.lowest;
      in_order = h.in_order;
    }
