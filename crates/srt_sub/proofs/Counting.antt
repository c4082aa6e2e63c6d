-- The counters of a session represent what it is fed, sends and receives.
use Rattle.std.proofs.Common.{◌≡◌, ℕ, ◌+◌, Bool, true, false, ◌&&◌, not, if◌then◌else◌, Option, Some, None, List, [], ◌∷◌, ◌++◌, length}
use Rattle.std.proofs.Common.{length-append, refl, sym, ap, subst, ◌∙◌, arith}
use Rattle.std.specs.Prelude.{nat_lt, slice_get}
use Rattle.std.proofs.lemmas.Bool.{lt-ltb}
use Rattle.srt_sendbuf.specs.Sending.{Queued, Sending, Due, due, due_at, due_number, due_of, in_flight, lost, next, queued}
use Rattle.srt_types.specs.Runs.{Range}
use Rattle.srt_sendbuf.specs.Sending.{Mark, front, requested}
use Rattle.srt_sub.specs.Counting.{AreSendings, Counted, capped, bytes_in, fresh_in, resent_in, is_again, naks_in, one_if, with_payload}
use Rattle.srt_sub.specs.Counting.{with_list, with_expired, with_misdirected, with_sent, misdirected_in}
use Rattle.srt_sub.specs.Subscribing.{Renewed, renewal_due, renewed_notes}
use Rattle.srt_sub.specs.Subscribing.{with_expired as expired_to}
use Rattle.srt_sub.specs.Subscribing.{Subscribing, Note, Report, Sent, Misdirected, is_media, sampled, grown, with_ack}
use Rattle.srt_sub.specs.declared.counts.Counts.{Counts}
use Rattle.srt_sub.specs.declared.counts.Sendings.{Sendings}

more : (n count step : ℕ) → n ≡ capped count → capped (n + step) ≡ capped (count + step)
more n count step e = omega (arith, e)

-- one more payload
bytes_put : (queue : List Queued) (q : Queued) → bytes_in (queue ++ q ∷ []) ≡ bytes_in queue + length q.payload
bytes_put [] q = omega arith
bytes_put (x ∷ queue) q = let h = bytes_put queue q in omega (arith, h)

pub counts_fed : (time : ℕ) (payload : List ℕ) (c : Counts) (m : Subscribing)
    → Counted c m → Counted (with_payload (length payload) c) (record m { sending = queued time payload m.sending })
counts_fed time payload c m h =
    let s = m.sending in
    let q : Queued = record { origin = time; payload = payload } in
    let bytes = bytes_put s.queue q in
    let count = length-append s.queue (q ∷ []) in
    record {
      queued_is = more c.queued (length s.queue) 1 h.queued_is ∙ ap capped (sym count);
      bytes_is = more c.bytes (bytes_in s.queue) (length payload) h.bytes_is ∙ ap capped (sym bytes);
      naks_is = h.naks_is;
      given_up_is = h.given_up_is;
      misdirected_is = h.misdirected_is;
    }

pub counts_requested : (ranges : List Range) (c : Counts) (m : Subscribing) → Counted c m
    → Counted (with_list c) (record m { sending = requested ranges m.sending })
counts_requested ranges c m h =
    record {
      queued_is = h.queued_is;
      bytes_is = h.bytes_is;
      naks_is = more c.naks (naks_in m.sending.marks) 1 h.naks_is;
      given_up_is = h.given_up_is;
      misdirected_is = h.misdirected_is;
    }

-- the packets up to the new front are given up
pub counts_expired : (count : ℕ) (c : Counts) (later : Sending) (m : Subscribing)
    → later.queue ≡ m.sending.queue → later.marks ≡ m.sending.marks → front m.sending + count ≡ front later → Counted c m
    → Counted (with_expired count c) (expired_to later m)
counts_expired count c later m queue marks moves h =
    record {
      queued_is = h.queued_is ∙ ap (λ (q : List Queued). capped (length q)) (sym queue);
      bytes_is = h.bytes_is ∙ ap (λ (q : List Queued). capped (bytes_in q)) (sym queue);
      naks_is = h.naks_is ∙ ap (λ (marks : List Mark). capped (naks_in marks)) (sym marks);
      given_up_is = more c.given_up m.given_up count h.given_up_is ∙ ap (λ (n : ℕ). capped (m.given_up + n)) (omega (arith, moves));
      misdirected_is = h.misdirected_is;
    }

pub counts_misdirected : (c : Counts) (m : Subscribing) → Counted c m → Counted (with_misdirected c) (record m { notes = Misdirected ∷ m.notes })
counts_misdirected c m h =
    record {
      queued_is = h.queued_is;
      bytes_is = h.bytes_is;
      naks_is = h.naks_is;
      given_up_is = h.given_up_is;
      misdirected_is = more c.misdirected (misdirected_in m.notes) 1 h.misdirected_is;
    }

-- an ACK changes no counter
no_outgoing : (rest : List ℕ) (notes : List Note) → misdirected_in (sampled rest ++ notes) ≡ misdirected_in notes
no_outgoing [] notes = refl
no_outgoing (rtt ∷ []) notes = refl
no_outgoing (rtt ∷ variance ∷ []) notes = refl
no_outgoing (rtt ∷ variance ∷ window ∷ rest) notes = refl

grown_none : (time : ℕ) (grows : Bool) (notes : List Note) → misdirected_in (grown time grows ++ notes) ≡ misdirected_in notes
grown_none time true notes = refl
grown_none time false notes = refl

pub counts_acked : (time : ℕ) (rest : List ℕ) (n : ℕ) (c : Counts) (m : Subscribing) → Counted c m → Counted c (with_ack time rest (Some n) m)
counts_acked time rest n c m h =
    let grows = nat_lt m.sending.acked n in
    record {
      queued_is = h.queued_is;
      bytes_is = h.bytes_is;
      naks_is = h.naks_is;
      given_up_is = h.given_up_is;
      misdirected_is = h.misdirected_is ∙ ap capped (sym (no_outgoing rest (grown time grows ++ m.notes) ∙ grown_none time grows m.notes));
    }

-- a data packet is sent
sent_more : (again : Bool) (c : Sendings) (r : Report) (notes : List Note) → is_again r ≡ again
    → AreSendings c (fresh_in notes) (resent_in notes)
    → AreSendings (with_sent again c) (fresh_in notes + one_if (not (is_again r))) (resent_in notes + one_if (is_again r))
sent_more again c r notes e h =
    subst (λ (b : Bool). AreSendings (with_sent b c) (fresh_in notes + one_if (not (is_again r))) (resent_in notes + one_if (is_again r))) e
    (record {
      fresh_is = more c.fresh (fresh_in notes) (one_if (not (is_again r))) h.fresh_is;
      resent_is = more c.resent (resent_in notes) (one_if (is_again r)) h.resent_is;
    })

pub sends : (time : ℕ) (again : Bool) (c : Sendings) (r : Report) (notes : List Note) → is_media r ≡ true → is_again r ≡ again
    → AreSendings c (fresh_in notes) (resent_in notes)
    → AreSendings (with_sent again c) (fresh_in (Sent time r ∷ notes)) (resent_in (Sent time r ∷ notes))
sends time again c r notes m e h = rw m (sent_more again c r notes e h)

-- a due data packet is a resend if a packet is lost
again_of : (n : ℕ) (again : Bool) (o : Option Queued) (d : Due) → due_of n again o ≡ Some d → d.again ≡ again
again_of n again None d e = cc
again_of n again (Some q) d e =
    let given : Due = record { number = n; again = again; origin = q.origin; payload = q.payload } in
    let same : given ≡ d = cc in
    sym (ap (λ (x : Due). x.again) same)

pub again_is : (w : ℕ) (s : Sending) (d : Due) → due w s ≡ Some d → d.again ≡ nat_lt 0 (length (lost s))
again_is w s d e = by (lost s) e
  where
    fresh : (b : Bool) → due_at s.queue (if b then Some (next s, false) else None) ≡ Some d → d.again ≡ false
    fresh true k = again_of (next s) false (slice_get s.queue (next s)) d k
    fresh false k = cc

    by : (ns : List ℕ) → due_at s.queue (due_number w ns s) ≡ Some d → d.again ≡ nat_lt 0 (length ns)
    by [] k = fresh (nat_lt (in_flight s) w && nat_lt (next s) (length s.queue)) k
    by (n ∷ ns) k = again_of n true (slice_get s.queue n) d k ∙ sym (lt-ltb 0 (length (n ∷ ns)) (omega arith))

-- raising the credit for resends changes no counter
pub counts_renewed : (percent : Option ℕ) (time : ℕ) (c : Counts) (m : Subscribing)
    → Counted c m → Counted c (record m { notes = renewed_notes percent time m.notes })
counts_renewed percent time c m h = by (renewal_due percent time m.notes)
  where
    by : (b : Bool) → Counted c (record m { notes = if b then Renewed time ∷ m.notes else m.notes })
    by true =
        record {
          queued_is = h.queued_is;
          bytes_is = h.bytes_is;
          naks_is = h.naks_is;
          given_up_is = h.given_up_is;
          misdirected_is = h.misdirected_is;
        }
    by false = h
