-- Dropping too-late packets a second time in one event changes nothing.
use Rattle.std.proofs.Common.{◌≡◌, ℕ, ◌+◌, ◌-◌, Bool, true, false, if◌then◌else◌, cond, Option, None, Some, List, [], ◌∷◌, ◌++◌, refl, sym, ap, ◌∙◌, arith}
use Rattle.std.specs.Prelude.{ℤ, pos, ◌-ℤ◌, int_lt}
use Rattle.std.proofs.lemmas.Bool.Decides.{nat_tests}
use Rattle.std.proofs.lemmas.Int.{ints}
use Rattle.srt_types.specs.Runs.{Range}
use Rattle.srt_types.specs.declared.shared.Mode.{Mode}
use Rattle.srt_types.specs.declared.shared.Mode.TheVariants.{Live, Buffer}
use Rattle.srt_timing.specs.Deadline.{too_late_at, threshold}
use Rattle.srt_sendbuf.specs.Sending.{Queued, Mark, Sending, front, queued, queued_before, requested, acknowledged, acknowledged_by}
use Rattle.srt_sendbuf.proofs.Fronts.{test, many, many_is}
use Rattle.srt_sub.specs.Heard.{Heard, Ack, Nak, Data, Other}
use Rattle.srt_sub.specs.Subscribing.{Misdirected, Terms, Subscribing, expired, expired_in, with_expired, took, with_ack, with_nak, fed, fed_all, fits}
use Rattle.srt_sub.specs.Fresh.{IsFresh, ExpiresOnce}

abbrev remade : Sending → (acked expired : ℕ) → List Mark → List Queued → Sending
remade s acked expired marks queue = record { queue = queue; acked = acked; expired = expired; marks = marks }

fresh_kept : (mode : Mode) (terms : Terms) (time : ℕ) (s : Sending) (acked : ℕ) (marks : List Mark) → expired_in mode terms time s ≡ s
    → expired_in mode terms time (remade s acked s.expired marks s.queue) ≡ remade s acked s.expired marks s.queue
fresh_kept Live terms time s acked marks e = ap (λ x. remade s acked x.expired marks s.queue) e
fresh_kept Buffer terms time s acked marks e = refl

young : (before : ℤ) (qs : List Queued) (q : Queued) → test before q ≡ false → many before (qs ++ q ∷ []) ≡ many before qs
young before [] q e = rw e refl
young before (p ∷ qs) q e = by (test before p) (young before qs q e)
  where
    by : (b : Bool) → many before (qs ++ q ∷ []) ≡ many before qs
        → cond b (1 + many before (qs ++ q ∷ [])) (many before (qs ++ q ∷ [])) ≡ cond b (1 + many before qs) (many before qs)
    by true h = ap (λ n. 1 + n) h
    by false h = h

not_old : (a t : ℕ) → int_lt (pos a) (pos a -ℤ pos t) ≡ false
not_old a t = grind (arith, nat_tests, ints)

fresh_queued : (mode : Mode) (terms : Terms) (time : ℕ) (payload : List ℕ) (s : Sending)
    → expired_in mode terms time s ≡ s → expired_in mode terms time (queued time payload s) ≡ queued time payload s
fresh_queued Live terms time payload s e =
    let q : Queued = record { origin = time; payload = payload } in
    let before = too_late_at time terms.delay in
    let same : queued_before before (s.queue ++ q ∷ []) ≡ s.expired =
    sym (many_is before (s.queue ++ q ∷ [])) ∙ young before s.queue q (not_old time (threshold terms.delay)) ∙ many_is before s.queue ∙ ap (λ x. x.expired) e in
    ap (λ n. remade s s.acked n s.marks (s.queue ++ q ∷ [])) same
fresh_queued Buffer terms time payload s e = refl

-- nothing is given up if the buffer stays
abbrev counted : Subscribing → ℕ → Subscribing
counted s n = record s { given_up = n }

pub none_given_up : (s : Subscribing) (later : Sending) → later ≡ s.sending → with_expired later s ≡ s
none_given_up s later e =
    let none : s.given_up + (front s.sending - front s.sending) ≡ s.given_up = omega arith in
    ap (λ x. with_expired x s) e ∙ ap (λ n. counted s n) none

fresh_of : (terms : Terms) (time : ℕ) (s : Subscribing) → expired_in terms.mode terms time s.sending ≡ s.sending → IsFresh terms time s
fresh_of terms time s e = none_given_up s (expired_in terms.mode terms time s.sending) e

pub fresh_twice : (mode : Mode) (terms : Terms) (time : ℕ) (s : Sending)
    → expired_in mode terms time (expired_in mode terms time s) ≡ expired_in mode terms time s
fresh_twice Live terms time s = refl
fresh_twice Buffer terms time s = refl

acked : (terms : Terms) (time : ℕ) (more : List ℕ) (o : Option ℕ) (s : Subscribing) → expired_in terms.mode terms time s.sending ≡ s.sending
    → expired_in terms.mode terms time (with_ack time more o s).sending ≡ (with_ack time more o s).sending
acked terms time more None s e = e
acked terms time more (Some n) s e = fresh_kept terms.mode terms time s.sending (acknowledged n s.sending).acked s.sending.marks e

missed : (terms : Terms) (time : ℕ) (o : Option (List Range)) (s : Subscribing) → IsFresh terms time s → IsFresh terms time (with_nak o s)
missed terms time None s e = e
missed terms time (Some ranges) s e =
    fresh_of terms time (with_nak (Some ranges) s)
    (fresh_kept terms.mode terms time s.sending s.sending.acked (requested ranges s.sending).marks (ap (λ x. x.sending) e))

heard : (terms : Terms) (time : ℕ) (h : Heard) (s : Subscribing) → IsFresh terms time s → IsFresh terms time (took time h s)
heard terms time (Ack mark number more) s e =
    fresh_of terms time (took time (Ack mark number more) s)
    (acked terms time more (acknowledged_by number s.sending) s (ap (λ x. x.sending) e))
heard terms time (Nak o) s e = missed terms time o s e
heard terms time Data s e = fresh_of terms time (record s { notes = Misdirected ∷ s.notes }) (ap (λ x. x.sending) e)
heard terms time Other s e = e

fed_one : (terms : Terms) (time : ℕ) (payload : List ℕ) (s : Subscribing) → IsFresh terms time s → IsFresh terms time (fed terms time payload s)
fed_one terms time payload s e = by (fits terms.mode terms payload s.sending)
  where
    by : (b : Bool) → IsFresh terms time (if b then record s { sending = queued time payload s.sending } else s)
    by true =
        fresh_of terms time (record s { sending = queued time payload s.sending })
        (fresh_queued terms.mode terms time payload s.sending (ap (λ x. x.sending) e))
    by false = e

fed_each : (terms : Terms) (time : ℕ) (payloads : List (List ℕ)) (s : Subscribing) → IsFresh terms time s → IsFresh terms time (fed_all terms time payloads s)
fed_each terms time [] s e = e
fed_each terms time (x ∷ xs) s e = fed_each terms time xs (fed terms time x s) (fed_one terms time x s e)

pub expires_once : ExpiresOnce
expires_once =
    record {
      once = λ terms time s. fresh_of terms time (expired terms time s) (fresh_twice terms.mode terms time s.sending);
      heard = heard;
      fed = fed_one;
      fed_all = fed_each;
    }
