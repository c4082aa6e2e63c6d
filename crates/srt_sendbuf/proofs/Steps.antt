-- The effect of each call on the record that the fields represent.
use Rattle.std.proofs.Common.{◌≡◌, ◌≢◌, ℕ, zero, suc, ◌+◌, ◌-◌, ◌%◌, ◌^◌, ◌<◌, ◌≤◌, ◌==◌, max, Bool, true, false, if◌then◌else◌, Option}
use Rattle.std.proofs.Common.{None, Some, List, [], ◌∷◌, ◌++◌, length, inl, inr, ◌⊎◌, refl, sym, ap, subst, ◌∙◌, arith}
use Rattle.std.specs.Prelude.{All, filter, slice_get, nat_lt}
use Rattle.std.proofs.lemmas.Bool.{false_from_ne_true, cases_lt, cases_eq, eq-eqb, ne_eqb, lt-ltb, true≢false}
use Rattle.std.proofs.lemmas.Bool.Decides.{nat_tests}
use Rattle.std.proofs.lemmas.List.Elements.{All-head, All-tail, All-nil, All-push}
use Rattle.srt_types.specs.Counts.{message_number}
use Rattle.srt_types.specs.Runs.{numbers_from}
use Rattle.srt_sendbuf.specs.Sending.{Queued, Mark, Sent, All_of, Sending, nothing_yet, front, next, sent_end, in_flight, lost, is_marked}
use Rattle.srt_sendbuf.specs.Sending.{queued, all_lost, sent, due_number, IsTimely}
use Rattle.srt_sendbuf.specs.Places.{Kept}
use Rattle.srt_sendbuf.specs.Stands.{IsInOrder, kept_as, IsKept, IsMoved}
use Rattle.srt_sendbuf.proofs.Rings.{get_left, get_last, length_last}

pub started : (initial base_message end_message : ℕ) (kept : ℕ → Option Kept) (lost : ℕ → Bool) → initial < 2 ^ 31
    → base_message ≡ message_number 0 → end_message ≡ message_number 0
    → IsKept initial initial 0 0 0 0 0 base_message end_message kept lost nothing_yet
started initial base_message end_message kept lost lt b e =
    record {
      word_is = omega (arith, lt);
      behind_is = refl;
      queued_is = refl;
      flying_is = refl;
      base_message_is = b;
      end_message_is = e;
      kept_is = λ d none. absurd (omega (arith, none));
      lost_is = λ d none. absurd (omega (arith, none));
      within = λ d none. absurd (omega (arith, none));
      lowest = λ none. absurd (omega (arith, none));
      in_order = tt;
    }

in_order_after : (qs : List Queued) (x : Queued) → IsInOrder qs → All (λ q. q.origin ≤ x.origin) qs → IsInOrder (qs ++ x ∷ [])
in_order_after [] x h a = (All-nil (λ p. x.origin ≤ p.origin), tt)
in_order_after (q ∷ qs) x h a = (
  All-push (λ p. q.origin ≤ p.origin) qs x h.0 (All-head (λ p. p.origin ≤ x.origin) q qs a),
  in_order_after qs x h.1 (All-tail (λ p. p.origin ≤ x.origin) q qs a),
)

pub queued_one : (initial word behind count count2 flying low high base_message end_message after now : ℕ) (payload : List ℕ)
    (kept kept2 : ℕ → Option Kept) (lost lost2 : ℕ → Bool) (r : Sending)
    → IsKept initial word behind count flying low high base_message end_message kept lost r → count2 ≡ count + 1 → flying ≤ count
    → IsTimely now r
    → ((d : ℕ) → kept2 d ≡ (if d == count then Some (record { origin = now; message = end_message; payload = payload }) else kept d))
    → ((d : ℕ) → lost2 d ≡ lost d) → ((k : ℕ) → end_message ≡ message_number k → after ≡ message_number (k + 1))
    → IsKept initial word behind count2 flying low high base_message after kept2 lost2 (queued now payload r)
queued_one initial word behind count count2 flying low high base_message end_message after now payload kept kept2 lost lost2 r h c2 le t ks ls e =
    record {
      word_is = h.word_is;
      behind_is = h.behind_is;
      queued_is = let l = length_last r.queue x in let q = h.queued_is in omega (arith, l, q, c2);
      flying_is = h.flying_is;
      base_message_is = h.base_message_is;
      end_message_is = e (length r.queue) h.end_message_is ∙ ap message_number (sym (length_last r.queue x));
      kept_is = λ d lt. ks d ∙ at d (omega (arith, lt, c2)) (cases_eq d count);
      lost_is = λ d lt. ls d ∙ h.lost_is d lt;
      within = λ d lt b. h.within d lt (sym (ls d) ∙ b);
      lowest = λ lt. ls low ∙ h.lowest lt;
      in_order = in_order_after r.queue x h.in_order t;
    }
  where
    x : Queued
    x = record { origin = now; payload = payload }

    at : (d : ℕ) → d < count + 1 → (d ≡ count) ⊎ (d ≢ count)
        → (if d == count then Some (record { origin = now; message = end_message; payload = payload }) else kept d)
        ≡ kept_as (front r + d) (slice_get (r.queue ++ x ∷ []) (front r + d))
    at d lt (inl same) =
        let b : (d == count) ≡ true = eq-eqb _ _ same in
        let q = h.queued_is in
        let n : front r + d ≡ length r.queue = omega (arith, same, q) in
        rw b
        (ap (λ m. Some (record { origin = now; message = m; payload = payload })) (h.end_message_is ∙ ap message_number (sym n))
        ∙ ap (kept_as (front r + d)) (sym (get_last r.queue x (front r + d) n)))
    at d lt (inr other) =
        let b : (d == count) ≡ false = ne_eqb _ _ other in
        let q = h.queued_is in
        let below : d < count = omega (arith, lt, other) in
        rw b (h.kept_is d below ∙ ap (kept_as (front r + d)) (sym (get_left r.queue (x ∷ []) (front r + d) (omega (arith, below, q)))))

pub moved_on : (initial word behind count flying low high base_message end_message m word2 behind2 message2 count2 flying2 lows low2
    high2 : ℕ)
    (kept kept2 : ℕ → Option Kept) (lost lost2 : ℕ → Bool) (r moved : Sending)
    → IsKept initial word behind count flying low high base_message end_message kept lost r → IsMoved m behind2 message2 r moved → m ≤ count
    → flying ≤ count → word2 ≡ (word + m) % 2 ^ 31 → ((d : ℕ) → kept2 d ≡ kept (d + m)) → ((d : ℕ) → lost2 d ≡ lost (d + m))
    → count2 ≡ count - m → flying2 ≡ flying - m → high2 ≡ high - m → lows ≡ low - m → lows ≤ low2
    → ((d : ℕ) → lows ≤ d → d < low2 → lost2 d ≡ false) → (low2 < high2 → lost2 low2 ≡ true)
    → IsKept initial word2 behind2 count2 flying2 low2 high2 message2 end_message kept2 lost2 moved
moved_on initial word behind count flying low high base_message end_message m word2 behind2 message2 count2 flying2 lows low2 high2 kept
    kept2 lost lost2 r moved h v le fl w ks ls c2 f2 h2 l2 lo none one =
    record {
      word_is = let a = h.word_is in let f = v.front_is in omega (arith, a, w, f);
      behind_is = v.behind_is;
      queued_is =
          let q = h.queued_is in
          let f = v.front_is in
          let e : front moved + count2 ≡ length r.queue = omega (arith, q, le, f, c2) in
          e ∙ ap length (sym v.queue_is);
      flying_is =
          let n = h.flying_is in
          let f = v.front_is in
          let s : sent_end moved.marks ≡ sent_end r.marks = ap sent_end v.marks_are in
          omega (arith, n, f, s, f2);
      base_message_is = v.message_is;
      end_message_is = h.end_message_is ∙ ap (λ q. message_number (length q)) (sym v.queue_is);
      kept_is = λ d lt. ks d ∙ h.kept_is (d + m) (omega (arith, lt, c2)) ∙ ap (λ n. kept_as n (slice_get r.queue n)) (same d)
          ∙ ap (λ q. kept_as (front moved + d) (slice_get q (front moved + d))) (sym v.queue_is);
      lost_is = λ d lt. ls d ∙ h.lost_is (d + m) (omega (arith, lt, f2)) ∙ ap (is_marked r.marks) (same d)
          ∙ ap (λ k. is_marked k (front moved + d)) (sym v.marks_are);
      within = λ d lt b. inside d (h.within (d + m) (omega (arith, lt, f2)) (sym (ls d) ∙ b)) b (cases_lt d low2);
      lowest = one;
      in_order = subst IsInOrder (sym v.queue_is) h.in_order;
    }
  where
    same : (d : ℕ) → front r + (d + m) ≡ front moved + d
    same d = let f = v.front_is in omega (arith, f)

    inside : (d : ℕ) → (low ≤ d + m) × (d + m < high) → lost2 d ≡ true → (d < low2) ⊎ (low2 ≤ d) → (low2 ≤ d) × (d < high2)
    inside d i b (inl lt) = absurd (true≢false (sym b ∙ none d (omega (arith, i.0, l2)) lt))
    inside d i b (inr ge) = (ge, omega (arith, i.1, h2))

pub sent_lost : (initial word behind count flying low high base_message end_message low2 : ℕ) (kept kept2 : ℕ → Option Kept)
    (lost lost2 : ℕ → Bool) (r : Sending)
    → IsKept initial word behind count flying low high base_message end_message kept lost r → low < high → high ≤ flying
    → ((d : ℕ) → kept2 d ≡ kept d) → ((d : ℕ) → lost2 d ≡ (if d == low then false else lost d)) → low + 1 ≤ low2
    → ((d : ℕ) → low + 1 ≤ d → d < low2 → lost2 d ≡ false) → (low2 < high → lost2 low2 ≡ true)
    → IsKept initial word behind count flying low2 high base_message end_message kept2 lost2 (sent (front r + low) r)
sent_lost initial word behind count flying low high base_message end_message low2 kept kept2 lost lost2 r h lt hi ks ls lo none one =
    record {
      word_is = h.word_is;
      behind_is = h.behind_is;
      queued_is = h.queued_is;
      flying_is = let n = h.flying_is in omega (arith, n, lt, hi);
      base_message_is = h.base_message_is;
      end_message_is = h.end_message_is;
      kept_is = λ d k. ks d ∙ h.kept_is d k;
      lost_is = λ d k. let o = h.lost_is d k in let l = ls d in grind (arith, nat_tests, o, l);
      within = λ d k b. inside d k b (cases_eq d low) (cases_lt d low2);
      lowest = one;
      in_order = h.in_order;
    }
  where
    inside : (d : ℕ) → d < flying → lost2 d ≡ true → (d ≡ low) ⊎ (d ≢ low) → (d < low2) ⊎ (low2 ≤ d) → (low2 ≤ d) × (d < high)
    inside d k b (inl same) c = absurd (true≢false (sym b ∙ ls d ∙ ap (λ t. if t then false else lost d) (eq-eqb _ _ same)))
    inside d k b (inr other) (inl below) =
        let i = h.within d k (sym (ls d ∙ ap (λ t. if t then false else lost d) (ne_eqb _ _ other)) ∙ b) in
        absurd (true≢false (sym b ∙ none d (omega (arith, i.0, other)) below))
    inside d k b (inr other) (inr above) =
        let i = h.within d k (sym (ls d ∙ ap (λ t. if t then false else lost d) (ne_eqb _ _ other)) ∙ b) in
        (above, i.1)

pub sent_next : (initial word behind count flying low high base_message end_message : ℕ) (kept kept2 : ℕ → Option Kept)
    (lost lost2 : ℕ → Bool) (r : Sending)
    → IsKept initial word behind count flying low high base_message end_message kept lost r → low ≤ high → high ≤ flying
    → ((d : ℕ) → kept2 d ≡ kept d) → ((d : ℕ) → lost2 d ≡ (if d == flying then false else lost d))
    → IsKept initial word behind count (flying + 1) low high base_message end_message kept2 lost2 (sent (front r + flying) r)
sent_next initial word behind count flying low high base_message end_message kept kept2 lost lost2 r h lo hi ks ls =
    record {
      word_is = h.word_is;
      behind_is = h.behind_is;
      queued_is = h.queued_is;
      flying_is = let n = h.flying_is in omega (arith, n);
      base_message_is = h.base_message_is;
      end_message_is = h.end_message_is;
      kept_is = λ d k. ks d ∙ h.kept_is d k;
      lost_is = λ d k. mark d k (cases_eq d flying);
      within = λ d k b. inside d k b (cases_eq d flying);
      lowest = λ lt. ls low ∙ ap (λ t. if t then false else lost low) (ne_eqb low flying (λ e. omega (arith, e, lt, hi))) ∙ h.lowest lt;
      in_order = h.in_order;
    }
  where
    mark : (d : ℕ) → d < flying + 1 → (d ≡ flying) ⊎ (d ≢ flying) → lost2 d ≡ is_marked (Sent (front r + flying) ∷ r.marks) (front r + d)
    mark d k (inl same) = let l = ls d in grind (arith, nat_tests, l, same)
    mark d k (inr other) = let o = h.lost_is d (omega (arith, k, other)) in let l = ls d in grind (arith, nat_tests, o, l, other)

    inside : (d : ℕ) → d < flying + 1 → lost2 d ≡ true → (d ≡ flying) ⊎ (d ≢ flying) → (low ≤ d) × (d < high)
    inside d k b (inl same) = absurd (true≢false (sym b ∙ ls d ∙ ap (λ t. if t then false else lost d) (eq-eqb _ _ same)))
    inside d k b (inr other) = h.within d (omega (arith, k, other)) (sym (ls d ∙ ap (λ t. if t then false else lost d) (ne_eqb _ _ other)) ∙ b)

-- other marks with the same highest number sent
remarked : (initial word behind count flying low high base_message end_message low2 high2 : ℕ) (kept kept2 : ℕ → Option Kept)
    (lost lost2 : ℕ → Bool) (marks2 : List Mark) (r : Sending)
    → IsKept initial word behind count flying low high base_message end_message kept lost r → sent_end marks2 ≡ sent_end r.marks
    → ((d : ℕ) → kept2 d ≡ kept d) → ((d : ℕ) → d < flying → lost2 d ≡ is_marked marks2 (front r + d))
    → ((d : ℕ) → d < flying → lost2 d ≡ true → (low2 ≤ d) × (d < high2)) → (low2 < high2 → lost2 low2 ≡ true)
    → IsKept initial word behind count flying low2 high2 base_message end_message kept2 lost2 (record r { marks = marks2 })
remarked initial word behind count flying low high base_message end_message low2 high2 kept kept2 lost lost2 marks2 r h s ks ls wi lw =
    record {
      word_is = h.word_is;
      behind_is = h.behind_is;
      queued_is = h.queued_is;
      flying_is = h.flying_is ∙ ap (max (front r)) (sym s);
      base_message_is = h.base_message_is;
      end_message_is = h.end_message_is;
      kept_is = λ d k. ks d ∙ h.kept_is d k;
      lost_is = ls;
      within = wi;
      lowest = lw;
      in_order = h.in_order;
    }

pub lost_are_all : (initial word behind count flying low high base_message end_message : ℕ) (kept kept2 : ℕ → Option Kept)
    (lost lost2 : ℕ → Bool) (r : Sending)
    → IsKept initial word behind count flying low high base_message end_message kept lost r → ((d : ℕ) → kept2 d ≡ kept d)
    → ((d : ℕ) → d < flying → lost2 d ≡ true)
    → IsKept initial word behind count flying 0 flying base_message end_message kept2 lost2 (all_lost r)
lost_are_all initial word behind count flying low high base_message end_message kept kept2 lost lost2 r h ks ls =
    remarked initial word behind count flying low high base_message end_message 0 flying kept kept2 lost lost2 (All_of (front r) (next r) ∷ r.marks) r h refl ks
    (λ d k. let n = h.flying_is in let l = ls d k in grind (arith, nat_tests, n, k, l))
    (λ d k b. (omega arith, k)) (λ lt. ls 0 lt)

first_of : (test : ℕ → Bool) (from places d : ℕ) → d < places → ((k : ℕ) → k < d → test (from + k) ≡ false) → test (from + d) ≡ true
    → (ns : List ℕ) × (filter test (numbers_from from places) ≡ (from + d) ∷ ns)
first_of test from zero d lt before here = absurd (omega (arith, lt))
first_of test from (suc places) zero lt before here =
    let e : from + 0 ≡ from = omega arith in
    let b : test from ≡ true = rw e at here in
    (filter test (numbers_from (from + 1) places), rw b (ap (λ n. n ∷ filter test (numbers_from (from + 1) places)) (sym e)))
first_of test from (suc places) (suc d) lt before here =
    let z : from + 0 ≡ from = omega arith in
    let b : test from ≡ false = rw z at (before 0 (omega arith)) in
    let e : (from + 1) + d ≡ from + suc d = omega arith in
    let h = first_of test (from + 1) places d (omega (arith, lt))
    (λ k l. let m : (from + 1) + k ≡ from + suc k = omega arith in rw m (before (suc k) (omega (arith, l)))) (rw e here) in
    (h.0, rw b (h.1 ∙ ap (λ n. n ∷ h.0) e))

pub none_of : (test : ℕ → Bool) (from places : ℕ) → ((k : ℕ) → k < places → test (from + k) ≡ false) → filter test (numbers_from from places) ≡ []
none_of test from zero none = refl
none_of test from (suc places) none =
    let z : from + 0 ≡ from = omega arith in
    let b : test from ≡ false = rw z at (none 0 (omega arith)) in
    rw b (none_of test (from + 1) places (λ k l. let m : (from + 1) + k ≡ from + suc k = omega arith in rw m (none (suc k) (omega (arith, l)))))

pub first_lost : (initial word behind count flying low high base_message end_message : ℕ) (kept : ℕ → Option Kept) (lost_ones : ℕ → Bool)
    (r : Sending)
    → IsKept initial word behind count flying low high base_message end_message kept lost_ones r → low < high → high ≤ flying
    → (ns : List ℕ) × (lost r ≡ (front r + low) ∷ ns)
first_lost initial word behind count flying low high base_message end_message kept lost_ones r h lt hi =
    let n = h.flying_is in
    let places : in_flight r ≡ flying = omega (arith, n) in
    let f = first_of (is_marked r.marks) (front r) flying low (omega (arith, lt, hi))
    (λ k l. sym (h.lost_is k (omega (arith, l, lt, hi)))
    ∙ false_from_ne_true (lost_ones k) (λ b. omega (arith, l, (h.within k (omega (arith, l, lt, hi)) b).0)))
    (sym (h.lost_is low (omega (arith, lt, hi))) ∙ h.lowest lt) in
    (f.0, ap (λ p. filter (is_marked r.marks) (numbers_from (front r) p)) places ∙ f.1)

pub none_lost : (initial word behind count flying low high base_message end_message : ℕ) (kept : ℕ → Option Kept) (lost_ones : ℕ → Bool)
    (r : Sending)
    → IsKept initial word behind count flying low high base_message end_message kept lost_ones r → high ≤ low
    → lost r ≡ []
none_lost initial word behind count flying low high base_message end_message kept lost_ones r h le =
    let n = h.flying_is in
    let places : in_flight r ≡ flying = omega (arith, n) in
    ap (λ p. filter (is_marked r.marks) (numbers_from (front r) p)) places
    ∙ none_of (is_marked r.marks) (front r) flying
    (λ k l. sym (h.lost_is k l) ∙ false_from_ne_true (lost_ones k) (λ b. let i = h.within k l b in omega (arith, le, i.0, i.1)))

-- the number of the next packet
pub due_again : (window low : ℕ) (r : Sending) → ((ns : List ℕ) × (lost r ≡ (front r + low) ∷ ns)) → due_number window (lost r) r ≡ Some (front r + low, true)
due_again window low r f = ap (λ ns. due_number window ns r) f.1

pub new_there : (window flying count : ℕ) (r : Sending) → front r + flying ≡ next r → front r + count ≡ length r.queue
    → flying < window → flying < count
    → due_number window [] r ≡ Some (front r + flying, false)
new_there window flying count r n q w c =
    let a : nat_lt (in_flight r) window ≡ true = lt-ltb _ _ (omega (arith, n, w)) in
    let b : nat_lt (next r) (length r.queue) ≡ true = lt-ltb _ _ (omega (arith, n, q, c)) in
    rw (a, b) (ap (λ k. Some (k, false)) (sym n))

pub no_new : (window flying count : ℕ) (r : Sending) → front r + flying ≡ next r → front r + count ≡ length r.queue
    → (flying < window → flying < count → ⊥)
    → due_number window [] r ≡ None
no_new window flying count r n q held = off (cases_lt (in_flight r) window) (cases_lt (next r) (length r.queue))
  where
    off : (in_flight r < window) ⊎ (window ≤ in_flight r) → (next r < length r.queue) ⊎ (length r.queue ≤ next r) → due_number window [] r ≡ None
    off (inl a) (inl b) = absurd (held (omega (arith, n, a)) (omega (arith, n, q, b)))
    off (inr a) b = let e : nat_lt (in_flight r) window ≡ false = grind (arith, nat_tests, a) in rw e refl
    off (inl a) (inr b) =
        let f : nat_lt (in_flight r) window ≡ true = lt-ltb _ _ a in
        let e : nat_lt (next r) (length r.queue) ≡ false = grind (arith, nat_tests, b) in
        rw (f, e) refl

pub is_any_lost : (initial word behind count flying low high base_message end_message : ℕ) (kept : ℕ → Option Kept) (lost_ones : ℕ → Bool)
    (r : Sending)
    → IsKept initial word behind count flying low high base_message end_message kept lost_ones r → high ≤ flying
    → nat_lt low high ≡ nat_lt 0 (length (lost r))
is_any_lost initial word behind count flying low high base_message end_message kept lost_ones r h hi = elim (cases_lt low high) [
  | inl lt ↦
      let f = first_lost initial word behind count flying low high base_message end_message kept lost_ones r h lt hi in
      let some : nat_lt 0 (length ((front r + low) ∷ f.0)) ≡ true = lt-ltb _ _ (omega arith) in
      lt-ltb low high lt ∙ sym some ∙ sym (ap (λ ns. nat_lt 0 (length ns)) f.1)
  | inr ge ↦
      let none = none_lost initial word behind count flying low high base_message end_message kept lost_ones r h ge in
      let e : nat_lt low high ≡ false = grind (arith, nat_tests, ge) in
      e ∙ sym (ap (λ ns. nat_lt 0 (length ns)) none)
]

pub same_count : (initial word behind count count2 flying low high base_message end_message : ℕ) (kept : ℕ → Option Kept) (lost : ℕ → Bool)
    (r : Sending)
    → count2 ≡ count → IsKept initial word behind count flying low high base_message end_message kept lost r
    → IsKept initial word behind count2 flying low high base_message end_message kept lost r
same_count initial word behind count count2 flying low high base_message end_message kept lost r e h =
    subst (λ (n : ℕ). IsKept initial word behind n flying low high base_message end_message kept lost r) (sym e) h
