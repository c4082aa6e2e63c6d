-- Which payloads an event's end sends.
use Rattle.std.proofs.Common.{◌≡◌, ℕ, zero, suc, ◌+◌, ◌-◌, ◌^◌, ◌<◌, ◌≤◌, min, Bool, true, false, if◌then◌else◌, Option, None, Some, IsNone, List, []}
use Rattle.std.proofs.Common.{◌∷◌, ◌++◌, All, length, refl, sym, ap, subst, ◌∙◌, arith}
use Rattle.std.specs.Prelude.{slice_get, nat_le}
use Rattle.std.proofs.lemmas.List.Elements.{All-nil, All-cons, All-head, All-tail, All-append, All-take, All-filter}
use Rattle.std.proofs.lemmas.Option.{slice_get_within}
use Rattle.std.proofs.lemmas.Nat.{from_be_bytes-to_be_bytes_4}
use Rattle.srt_types.specs.Words.{word_at}
use Rattle.srt_types.specs.Window.{number_word, offset_of}
use Rattle.srt_types.specs.Runs.{Run, numbers_from}
use Rattle.srt_timing.specs.Deadline.{too_late_at}
use Rattle.srt_types.specs.declared.shared.Mode.{Mode}
use Rattle.srt_types.specs.declared.shared.Mode.TheVariants.{Live, Buffer}
use Rattle.srt_sendbuf.specs.Sending.{Queued, Sending, IsLater, front, next, lost, is_marked, in_flight, all_lost, sent}
use Rattle.srt_sub.specs.Subscribing.{Terms, Report, Acked, Dropped, Media, KeepAlive, Note, Presumed, Subscribing, last_sent, flow_window, unreported}
use Rattle.srt_sub.specs.Subscribing.{drops_of, media, media_of, again_of, new_of, keep_alives, due_of, reports_of, sent_each, sent_of, resend_due}
use Rattle.srt_sub.specs.Subscribing.{expired, expired_in, renewed, prepared, reported, most, resends}
use Rattle.srt_sub.specs.Says.{packet_text}
use Rattle.srt_sub.specs.Emission.{EmittingAt}
use Rattle.srt_sub.specs.Payloads.{IsStored, emitted_as}
use Rattle.srt_sub.specs.declared.session.Subscriber.{Subscriber}

-- a sequence number's offset from the front's
pub offset_is : (initial f k word from : ℕ) → word ≡ number_word initial k → from ≡ number_word initial f → f ≤ k → k < f + 8193
    → offset_of word from ≡ k - f
offset_is initial f k word from w b le lt = omega (arith, w, b, le, lt)

-- a packet of an event's end
pub record IsOfAnEnd (s : Sending) (r : Report) : Type 0 where
  pub stored : IsStored s r
  pub emitted : IsNone (emitted_as r) → ⊥

all_from : (low from count : ℕ) → low ≤ from → All (λ n. low ≤ n) (numbers_from from count)
all_from low from zero le = All-nil (λ (n : ℕ). low ≤ n)
all_from low from (suc count) le =
    All-cons (λ (n : ℕ). low ≤ n) from (numbers_from (from + 1) count) le (all_from low (from + 1) count (omega (arith, le)))

one_stored : (s : Sending) (b : Bool) (n : ℕ) (o : Option Queued) → front s ≤ n → slice_get s.queue n ≡ o → All (IsOfAnEnd s) (media_of b n o)
one_stored s b n None le e = All-nil (IsOfAnEnd s)
one_stored s b n (Some q) le e =
    All-cons (IsOfAnEnd s) (Media n b q.origin q.payload) []
    (record { stored = (e, le, slice_get_within s.queue n q e); emitted = λ none. cc }) (All-nil (IsOfAnEnd s))

all_stored : (s : Sending) (b : Bool) (ns : List ℕ) → All (λ n. front s ≤ n) ns → All (IsOfAnEnd s) (media b ns s.queue)
all_stored s b [] h = All-nil (IsOfAnEnd s)
all_stored s b (n ∷ ns) h =
    All-append (IsOfAnEnd s) (media_of b n (slice_get s.queue n)) (media b ns s.queue)
    (one_stored s b n (slice_get s.queue n) (All-head (λ (n : ℕ). front s ≤ n) n ns h) refl)
    (all_stored s b ns (All-tail (λ (n : ℕ). front s ≤ n) n ns h))

drop_stored : (s : Sending) (o : Option Run) → All (IsOfAnEnd s) (drops_of o)
drop_stored s None = All-nil (IsOfAnEnd s)
drop_stored s (Some run) =
    All-cons (IsOfAnEnd s) (Dropped run) [] (record { stored = (tt, tt, tt); emitted = λ none. cc }) (All-nil (IsOfAnEnd s))

alive_stored : (s : Sending) (time : ℕ) (due : List Report) (notes : List Note) → All (IsOfAnEnd s) (keep_alives time due notes)
alive_stored s time (r ∷ due) notes = All-nil (IsOfAnEnd s)
alive_stored s time [] notes = by (nat_le 1_000_000 (time - last_sent notes))
  where
    by : (b : Bool) → All (IsOfAnEnd s) (if b then KeepAlive ∷ [] else [])
    by true = All-cons (IsOfAnEnd s) KeepAlive [] (record { stored = (tt, tt, tt); emitted = λ none. cc }) (All-nil (IsOfAnEnd s))
    by false = All-nil (IsOfAnEnd s)

pub end_stored : (p x : ℕ) (terms : Terms) (time : ℕ) (s : Subscribing) → All (IsOfAnEnd s.sending) (reports_of p x terms time s)
end_stored p x terms time s =
    All-append (IsOfAnEnd b) (due_of p x terms s) (keep_alives time (due_of p x terms s) s.notes)
    (All-append (IsOfAnEnd b) (drops_of (unreported s.notes) ++ media true old b.queue) (media false fresh b.queue)
    (All-append (IsOfAnEnd b) (drops_of (unreported s.notes)) (media true old b.queue) (drop_stored b (unreported s.notes))
    (all_stored b true old
    (All-take (λ (n : ℕ). front b ≤ n) x (lost b)
    (All-filter (is_marked b.marks) (λ (n : ℕ). front b ≤ n) (numbers_from (front b) (in_flight b))
    (all_from (front b) (front b) (in_flight b) (omega arith))))))
    (all_stored b false fresh (all_from (front b) (next b) count (omega arith))))
    (alive_stored b time (due_of p x terms s) s.notes)
  where
    b : Sending
    b = s.sending

    old : List ℕ
    old = again_of x b

    count : ℕ
    count = min (p - length old) (min (flow_window terms.window s.notes - (next b - front b)) (length b.queue - next b))

    fresh : List ℕ
    fresh = new_of p x (flow_window terms.window s.notes) b

-- two records that differ by their marks alone
pub record HasSame (s t : Sending) : Type 0 where
  pub queue_is : t.queue ≡ s.queue
  pub acked_is : t.acked ≡ s.acked
  pub expired_is : t.expired ≡ s.expired

pub sent_same : (ns : List ℕ) (s : Sending) → HasSame s (sent_each ns s)
sent_same [] s = record { queue_is = refl; acked_is = refl; expired_is = refl }
sent_same (n ∷ ns) s = let h = sent_same ns (sent n s) in record { queue_is = h.queue_is; acked_is = h.acked_is; expired_is = h.expired_is }

presumed_same : (b : Bool) (s : Subscribing)
    → HasSame s.sending (if b then record s { sending = all_lost s.sending; notes = Presumed ∷ s.notes } else s).sending
presumed_same true s = record { queue_is = refl; acked_is = refl; expired_is = refl }
presumed_same false s = record { queue_is = refl; acked_is = refl; expired_is = refl }

pub prepared_same : (terms : Terms) (time : ℕ) (recent : Bool) (s : Subscribing) → HasSame s.sending (prepared terms time recent s).sending
prepared_same terms time recent s = presumed_same (resend_due terms time recent (renewed terms time s)) (renewed terms time s)

pub ended_same : (p x : ℕ) (terms : Terms) (time : ℕ) (s : Subscribing) → HasSame s.sending (sent_of p x terms time s).sending
ended_same p x terms time s = sent_same (again_of x s.sending ++ new_of p x (flow_window terms.window s.notes) s.sending) s.sending

pub both_same : (s t u : Sending) → HasSame s t → HasSame t u → HasSame s u
both_same s t u a b =
    record { queue_is = b.queue_is ∙ a.queue_is; acked_is = b.acked_is ∙ a.acked_is; expired_is = b.expired_is ∙ a.expired_is }

pub turned_same : (s t : Sending) → HasSame s t → HasSame t s
turned_same s t h = record { queue_is = sym h.queue_is; acked_is = sym h.acked_is; expired_is = sym h.expired_is }

-- the same packets that are stored, if the front is no higher
pub stored_too : (s t : Sending) → t.queue ≡ s.queue → front t ≤ front s → (r : Report) → IsStored s r → IsStored t r
stored_too s t q le (Acked mark) h = (tt, tt, tt)
stored_too s t q le (Dropped run) h = (tt, tt, tt)
stored_too s t q le (Media n again origin payload) h =
    (ap (λ (xs : List Queued). slice_get xs n) q ∙ h.0, omega (arith, h.1, le), subst (λ (xs : List Queued). n < length xs) (sym q) h.2)
stored_too s t q le KeepAlive h = (tt, tt, tt)

pub stored_same : (s t : Sending) → HasSame s t → (r : Report) → IsStored s r → IsStored t r
stored_same s t same r h = stored_too s t same.queue_is (omega (arith, same.acked_is, same.expired_is)) r h

-- the expiry moves no payload, and the front not back
pub expired_queue : (mode : Mode) (terms : Terms) (time : ℕ) (s : Sending) → (expired_in mode terms time s).queue ≡ s.queue
expired_queue Live terms time s = refl
expired_queue Buffer terms time s = refl

front_on : (mode : Mode) (terms : Terms) (time : ℕ) (s : Sending) → IsLater (too_late_at time terms.delay) s → front s ≤ front (expired_in mode terms time s)
front_on Live terms time s h = omega (arith, h)
front_on Buffer terms time s h = omega arith

-- in the middle of an event's end and before it the record has the same queue and front
pub middle_same : (terms : Terms) (time : ℕ) (recent : Bool) (p x : ℕ) (y z : Subscribing)
    → sent_of p x terms time (prepared terms time recent y) ≡ reported terms time recent z → HasSame y.sending z.sending
middle_same terms time recent p x y z e =
    let before = both_same y.sending (prepared terms time recent y).sending _ (prepared_same terms time recent y)
    (ended_same p x terms time (prepared terms time recent y)) in
    let after = both_same z.sending (prepared terms time recent z).sending _ (prepared_same terms time recent z)
    (ended_same most (resends terms.resend_percent most (prepared terms time recent z).notes) terms time (prepared terms time recent z)) in
    let there : HasSame y.sending (reported terms time recent z).sending =
    subst (λ (w : Subscribing). HasSame y.sending w.sending) e before in
    both_same y.sending (reported terms time recent z).sending z.sending there (turned_same z.sending (reported terms time recent z).sending after)

-- the first of the remaining reports
pub first_stored : (terms : Terms) (initial opening caller time : ℕ) (recent : Bool) (s : Subscriber) (m : Subscribing) (r : Report) (rest : List Report)
    → EmittingAt terms initial opening caller time recent s m (r ∷ rest) → IsOfAnEnd (expired terms time m).sending r
first_stored terms initial opening caller time recent s m r rest h =
    let y = expired terms time h.middle in
    let x = prepared terms time recent y in
    let all = end_stored _ _ terms time x in
    let first = All-head (IsOfAnEnd x.sending) r rest (subst (λ (rs : List Report). All (IsOfAnEnd x.sending) rs) h.left_is.left_is all) in
    let same = both_same x.sending y.sending (expired terms time m).sending (turned_same y.sending x.sending (prepared_same terms time recent y))
    (middle_same terms time recent _ _ y (expired terms time m) h.left_is.end_is) in
    record { stored = stored_same x.sending (expired terms time m).sending same r first.stored; emitted = first.emitted }

-- it is stored in the record in the middle, too
pub stored_there : (terms : Terms) (initial opening caller time : ℕ) (recent : Bool) (s : Subscriber) (m : Subscribing) (rest : List Report)
    → (h : EmittingAt terms initial opening caller time recent s m rest) → (r : Report) → IsStored (expired terms time m).sending r
    → IsStored h.middle.sending r
stored_there terms initial opening caller time recent s m rest h r stored =
    let y = expired terms time h.middle in
    let same = turned_same y.sending (expired terms time m).sending (middle_same terms time recent _ _ y (expired terms time m) h.left_is.end_is) in
    stored_too y.sending h.middle.sending (sym (expired_queue terms.mode terms time h.middle.sending))
    (front_on terms.mode terms time h.middle.sending h.stands.sound.later) r
    (stored_same (expired terms time m).sending y.sending same r stored)

pub queue_there : (terms : Terms) (initial opening caller time : ℕ) (recent : Bool) (s : Subscriber) (m : Subscribing) (rest : List Report)
    → (h : EmittingAt terms initial opening caller time recent s m rest) → h.middle.sending.queue ≡ m.sending.queue
queue_there terms initial opening caller time recent s m rest h =
    let y = expired terms time h.middle in
    let same = middle_same terms time recent _ _ y (expired terms time m) h.left_is.end_is in
    sym (expired_queue terms.mode terms time h.middle.sending) ∙ sym same.queue_is ∙ expired_queue terms.mode terms time m.sending

-- the first word of a packet
pub first_word : (word0 word1 stamp caller : ℕ) (rest : List ℕ) → word0 < 2 ^ 32 → word_at (packet_text word0 word1 stamp caller rest) 0 ≡ word0
first_word word0 word1 stamp caller rest lt = from_be_bytes-to_be_bytes_4 word0 lt
