-- What a session that is held below a bound sends.
use Rattle.std.proofs.Common.{◌≡◌, ℕ, zero, suc, ◌+◌, ◌-◌, ◌^◌, ◌<◌, ◌≤◌, ◌==◌, min, Bool, true, false, if◌then◌else◌, Option, None, Some, List, []}
use Rattle.std.proofs.Common.{◌∷◌, ◌++◌, All, length, length-append, refl, sym, ap, subst, ◌∙◌, arith}
use Rattle.std.specs.Prelude.{slice_get, nat_le}
use Rattle.std.proofs.lemmas.List.Elements.{All-nil, All-cons, All-head, All-tail, All-append, All-take, All-filter}
use Rattle.srt_types.specs.Runs.{Range, Run, numbers_from}
use Rattle.srt_types.specs.declared.shared.Mode.{Mode}
use Rattle.srt_types.specs.declared.shared.Mode.TheVariants.{Live, Buffer}
use Rattle.srt_sendbuf.specs.Sending.{Queued, Sending, Mark, front, next, lost, is_marked, in_flight, all_lost, sent, sent_end, acknowledged_by, queued}
use Rattle.srt_sub.specs.Heard.{Heard, Ack, Nak, Data, Other}
use Rattle.srt_sub.specs.Subscribing.{Terms, Subscribing, Report, Acked, Dropped, Media, KeepAlive, Note, Opened, Presumed, Renewed, last_sent}
use Rattle.srt_sub.specs.Subscribing.{flow_window, unreported, drops_of, media, media_of, again_of, new_of, keep_alives, due_of, reports_of, sent_each, sent_of}
use Rattle.srt_sub.specs.Subscribing.{expired, expired_in, took, with_ack, with_nak, fits, answers, most, resends, renewed, renewal_due, resend_due, prepared}
use Rattle.srt_sub.specs.Subscribing.{reports, reported}
use Rattle.srt_sub.specs.Held.{held, window_before}
use Rattle.srt_sub.specs.Fresh.{IsFresh}
use Rattle.srt_sub.specs.Payloads.{IsBelow}
use Rattle.srt_sub.specs.SessionCalls.{SessionCall, Expire, Hear, Feed, End, called, all_called, all_sent, AreHeld, StaysBelow}
use Rattle.srt_sub.proofs.Freshness.{none_given_up}
use Rattle.srt_sub.proofs.Carried.{expired_queue}
use Rattle.srt_sub.proofs.OnePayload.{appends}

-- successive numbers that end below the bound
counted_below : (bound from count : ℕ) → (0 < count → from + count ≤ bound) → All (λ n. n < bound) (numbers_from from count)
counted_below bound from zero within = All-nil (λ (n : ℕ). n < bound)
counted_below bound from (suc count) within =
    let end : from + suc count ≤ bound = within (omega arith) in
    All-cons (λ (n : ℕ). n < bound) from (numbers_from (from + 1) count) (omega (arith, end))
    (counted_below bound (from + 1) count (λ some. omega (arith, end)))

-- the numbers that are sent again were sent before
again_below : (bound x : ℕ) (s : Sending) → sent_end s.marks ≤ bound → All (λ n. n < bound) (again_of x s)
again_below bound x s le =
    All-take (λ (n : ℕ). n < bound) x (lost s)
    (All-filter (is_marked s.marks) (λ (n : ℕ). n < bound) (numbers_from (front s) (in_flight s))
    (counted_below bound (front s) (in_flight s) (λ some. omega (arith, some, le))))

-- new numbers end where the flow window does
held_end : (a v w f n l bound lower : ℕ) → l < 2 ^ 64 → f ≤ n → lower ≤ bound → w ≡ min (l - f - (min l (2 ^ 64 - 1) - lower)) v
    → 0 < min a (min (w - (n - f)) (l - n)) → n + min a (min (w - (n - f)) (l - n)) ≤ bound
held_end a v w f n l bound lower few above le e some = omega (arith, few, above, le, e, some)

new_below : (bound lower p x v w : ℕ) (s : Sending) → length s.queue < 2 ^ 64 → lower ≤ bound
    → w ≡ window_before lower v s → All (λ n. n < bound) (new_of p x w s)
new_below bound lower p x v w s few le e =
    counted_below bound (next s) (min (p - length (again_of x s)) (min (w - (next s - front s)) (length s.queue - next s)))
    (held_end (p - length (again_of x s)) v w (front s) (next s) (length s.queue) bound lower few (omega arith) le e)

-- data packets of numbers below the bound
media_below : (bound : ℕ) (again : Bool) (ns : List ℕ) (queue : List Queued) → All (λ n. n < bound) ns → All (IsBelow bound) (media again ns queue)
media_below bound again [] queue h = All-nil (IsBelow bound)
media_below bound again (n ∷ ns) queue h =
    All-append (IsBelow bound) (media_of again n (slice_get queue n)) (media again ns queue)
    (one (slice_get queue n))
    (media_below bound again ns queue (All-tail (λ (n : ℕ). n < bound) n ns h))
  where
    one : (o : Option Queued) → All (IsBelow bound) (media_of again n o)
    one None = All-nil (IsBelow bound)
    one (Some q) =
        All-cons (IsBelow bound) (Media n again q.origin q.payload) [] (All-head (λ (n : ℕ). n < bound) n ns h) (All-nil (IsBelow bound))

drop_below : (bound : ℕ) (o : Option Run) → All (IsBelow bound) (drops_of o)
drop_below bound None = All-nil (IsBelow bound)
drop_below bound (Some run) = All-cons (IsBelow bound) (Dropped run) [] tt (All-nil (IsBelow bound))

alive_below : (bound time : ℕ) (due : List Report) (notes : List Note) → All (IsBelow bound) (keep_alives time due notes)
alive_below bound time (r ∷ due) notes = All-nil (IsBelow bound)
alive_below bound time [] notes = by (nat_le 1_000_000 (time - last_sent notes))
  where
    by : (b : Bool) → All (IsBelow bound) (if b then KeepAlive ∷ [] else [])
    by true = All-cons (IsBelow bound) KeepAlive [] tt (All-nil (IsBelow bound))
    by false = All-nil (IsBelow bound)

-- the numbers that an event's end sends are below the bound
record AreBelow (bound p x : ℕ) (terms : Terms) (s : Subscribing) : Type 0 where
  old : All (λ n. n < bound) (again_of x s.sending)
  new : All (λ n. n < bound) (new_of p x (flow_window terms.window s.notes) s.sending)
  before : sent_end s.sending.marks ≤ bound

end_below : (bound p x : ℕ) (terms : Terms) (time : ℕ) (s : Subscribing) → AreBelow bound p x terms s → All (IsBelow bound) (reports_of p x terms time s)
end_below bound p x terms time s h =
    let old = again_of x s.sending in
    let fresh = new_of p x (flow_window terms.window s.notes) s.sending in
    let queue = s.sending.queue in
    All-append (IsBelow bound) (due_of p x terms s) (keep_alives time (due_of p x terms s) s.notes)
    (All-append (IsBelow bound) (drops_of (unreported s.notes) ++ media true old queue) (media false fresh queue)
    (All-append (IsBelow bound) (drops_of (unreported s.notes)) (media true old queue) (drop_below bound (unreported s.notes))
    (media_below bound true old queue h.old))
    (media_below bound false fresh queue h.new))
    (alive_below bound time (due_of p x terms s) s.notes)

sent_below : (bound : ℕ) (ns : List ℕ) (s : Sending) → All (λ n. n < bound) ns → sent_end s.marks ≤ bound → sent_end (sent_each ns s).marks ≤ bound
sent_below bound [] s h le = le
sent_below bound (n ∷ ns) s h le =
    let first = All-head (λ (n : ℕ). n < bound) n ns h in
    sent_below bound ns (sent n s) (All-tail (λ (n : ℕ). n < bound) n ns h) (omega (arith, first, le))

stays_below : (bound p x : ℕ) (terms : Terms) (time : ℕ) (s : Subscribing)
    → AreBelow bound p x terms s → sent_end (sent_of p x terms time s).sending.marks ≤ bound
stays_below bound p x terms time s h =
    sent_below bound (again_of x s.sending ++ new_of p x (flow_window terms.window s.notes) s.sending) s.sending
    (All-append (λ (n : ℕ). n < bound) (again_of x s.sending) (new_of p x (flow_window terms.window s.notes) s.sending) h.old h.new) h.before

made : ℕ → Sending → List Note → Subscribing
made given_up sending notes = record { sending = sending; notes = notes; given_up = given_up }

abbrev renewed_if : Bool → (time : ℕ) → List Note → List Note
renewed_if b time notes = if b then Renewed time ∷ notes else notes

-- the session at the end of an event in which it is held
held_below : (bound lower p x : ℕ) (terms : Terms) (time : ℕ) (recent : Bool) (s : Subscribing) → length s.sending.queue < 2 ^ 64 → lower ≤ bound
    → sent_end s.sending.marks ≤ bound → AreBelow bound p x terms (prepared terms time recent (held terms lower s))
unfolding made
held_below bound lower p x terms time recent s few le before =
    by (renewal_due terms.resend_percent time (Opened w ∷ s.notes)) (resend_due terms time recent (renewed terms time (held terms lower s)))
  where
    w : ℕ
    w = window_before lower (flow_window terms.window s.notes) s.sending

    all : Sending
    all = all_lost s.sending

    by : (a b : Bool)
        → AreBelow bound p x terms
        (if b then made s.given_up (all_lost s.sending) (Presumed ∷ renewed_if a time (Opened w ∷ s.notes))
        else made s.given_up s.sending (renewed_if a time (Opened w ∷ s.notes)))
    by true true =
        record {
          old = again_below bound x all before;
          new = new_below bound lower p x (flow_window terms.window s.notes) w all few le refl;
          before = before;
        }
    by false true =
        record {
          old = again_below bound x all before;
          new = new_below bound lower p x (flow_window terms.window s.notes) w all few le refl;
          before = before;
        }
    by true false =
        record {
          old = again_below bound x s.sending before;
          new = new_below bound lower p x (flow_window terms.window s.notes) w s.sending few le refl;
          before = before;
        }
    by false false =
        record {
          old = again_below bound x s.sending before;
          new = new_below bound lower p x (flow_window terms.window s.notes) w s.sending few le refl;
          before = before;
        }

held_sends : (bound lower : ℕ) (terms : Terms) (time : ℕ) (recent : Bool) (s : Subscribing) → length s.sending.queue < 2 ^ 64 → lower ≤ bound
    → sent_end s.sending.marks ≤ bound → All (IsBelow bound) (reports terms time recent (held terms lower s))
held_sends bound lower terms time recent s few le before =
    let x = prepared terms time recent (held terms lower s) in
    let again = resends terms.resend_percent most x.notes in
    end_below bound most again terms time x (held_below bound lower most again terms time recent s few le before)

held_stays : (bound lower : ℕ) (terms : Terms) (time : ℕ) (recent : Bool) (s : Subscribing) → length s.sending.queue < 2 ^ 64 → lower ≤ bound
    → sent_end s.sending.marks ≤ bound → sent_end (reported terms time recent (held terms lower s)).sending.marks ≤ bound
held_stays bound lower terms time recent s few le before =
    let x = prepared terms time recent (held terms lower s) in
    let again = resends terms.resend_percent most x.notes in
    stays_below bound most again terms time x (held_below bound lower most again terms time recent s few le before)

-- the other calls send no number for the first time
expired_marks : (mode : Mode) (terms : Terms) (time : ℕ) (s : Sending) → (expired_in mode terms time s).marks ≡ s.marks
expired_marks Live terms time s = refl
expired_marks Buffer terms time s = refl

acked_end : (time : ℕ) (more : List ℕ) (o : Option ℕ) (s : Subscribing) → sent_end (with_ack time more o s).sending.marks ≡ sent_end s.sending.marks
acked_end time more None s = refl
acked_end time more (Some n) s = refl

asked_end : (o : Option (List Range)) (s : Subscribing) → sent_end (with_nak o s).sending.marks ≡ sent_end s.sending.marks
asked_end None s = refl
asked_end (Some ranges) s = refl

took_end : (time : ℕ) (h : Heard) (s : Subscribing) → sent_end (took time h s).sending.marks ≡ sent_end s.sending.marks
took_end time (Ack mark number more) s = acked_end time more (acknowledged_by number s.sending) s
took_end time (Nak o) s = asked_end o s
took_end time Data s = refl
took_end time Other s = refl

fed_end : (b : Bool) (time : ℕ) (payload : List ℕ) (s : Subscribing)
    → sent_end (if b then record s { sending = queued time payload s.sending } else s).sending.marks ≡ sent_end s.sending.marks
fed_end true time payload s = refl
fed_end false time payload s = refl

answers_below : (bound : ℕ) (h : Heard) → All (IsBelow bound) (answers h)
answers_below bound (Ack mark number more) = by (mark == 0)
  where
    by : (b : Bool) → All (IsBelow bound) (if b then [] else Acked mark ∷ [])
    by true = All-nil (IsBelow bound)
    by false = All-cons (IsBelow bound) (Acked mark) [] tt (All-nil (IsBelow bound))
answers_below bound (Nak o) = All-nil (IsBelow bound)
answers_below bound Data = All-nil (IsBelow bound)
answers_below bound Other = All-nil (IsBelow bound)

-- a call and those before it
record IsStillBelow (bound : ℕ) (terms : Terms) (calls : List SessionCall) : Type 0 where
  sends : All (IsBelow bound) (all_sent terms calls)
  end : sent_end (all_called terms calls).sending.marks ≤ bound

fewer_before : (terms : Terms) (call : SessionCall) (s : Subscribing) → length (called terms call s).sending.queue < 2 ^ 64 → length s.sending.queue < 2 ^ 64
fewer_before terms call s few =
    let on = appends terms call s in
    let all = ap (λ (xs : List Queued). length xs) on.1 in
    let both = length-append s.sending.queue on.0 in
    omega (arith, few, all, both)

fewer_expired : (terms : Terms) (time : ℕ) (s : Subscribing) → length s.sending.queue < 2 ^ 64 → length (expired terms time s).sending.queue < 2 ^ 64
fewer_expired terms time s few = subst (λ (xs : List Queued). length xs < 2 ^ 64) (sym (expired_queue terms.mode terms time s.sending)) few

expired_end : (terms : Terms) (time : ℕ) (s : Subscribing) → sent_end (expired terms time s).sending.marks ≡ sent_end s.sending.marks
expired_end terms time s = ap (λ (marks : List Mark). sent_end marks) (expired_marks terms.mode terms time s.sending)

ever_below : (terms : Terms) (bound : ℕ) (calls : List SessionCall) → length (all_called terms calls).sending.queue < 2 ^ 64 → AreHeld bound calls
    → IsStillBelow bound terms calls
ever_below terms bound [] few h = record { sends = All-nil (IsBelow bound); end = omega arith }
ever_below terms bound (Expire time ∷ calls) few h =
    let s = all_called terms calls in
    let before = ever_below terms bound calls (fewer_before terms (Expire time) s few) h in
    let end = expired_end terms time s in
    record { sends = before.sends; end = omega (arith, end, before.end) }
ever_below terms bound (Hear time heard ∷ calls) few h =
    let s = all_called terms calls in
    let before = ever_below terms bound calls (fewer_before terms (Hear time heard) s few) h in
    let end = took_end time heard (expired terms time s) ∙ expired_end terms time s in
    record {
      sends = All-append (IsBelow bound) (answers heard) (all_sent terms calls) (answers_below bound heard) before.sends;
      end = omega (arith, end, before.end);
    }
ever_below terms bound (Feed time payload ∷ calls) few h =
    let s = all_called terms calls in
    let x = expired terms time s in
    let before = ever_below terms bound calls (fewer_before terms (Feed time payload) s few) h in
    let end = fed_end (fits terms.mode terms payload x.sending) time payload x ∙ expired_end terms time s in
    record { sends = before.sends; end = omega (arith, end, before.end) }
ever_below terms bound (End time recent None ∷ calls) few h = absurd h
ever_below terms bound (End time recent (Some lower) ∷ calls) few h =
    let s = all_called terms calls in
    let x = expired terms time s in
    let short = fewer_before terms (End time recent (Some lower)) s few in
    let before = ever_below terms bound calls short h.1 in
    let x_end = expired_end terms time s in
    let so_far : sent_end x.sending.marks ≤ bound = omega (arith, x_end, before.end) in
    record {
      sends = All-append (IsBelow bound) (reports terms time recent (held terms lower x)) (all_sent terms calls)
          (held_sends bound lower terms time recent x (fewer_expired terms time s short) h.0 so_far) before.sends;
      end = held_stays bound lower terms time recent x (fewer_expired terms time s short) h.0 so_far;
    }

fresh_held : (terms : Terms) (time bound : ℕ) (s : Subscribing) → IsFresh terms time s → IsFresh terms time (held terms bound s)
fresh_held terms time bound s e =
    none_given_up (held terms bound s) (expired_in terms.mode terms time s.sending) (ap (λ (x : Subscribing). x.sending) e)

pub stays_below_bounds : StaysBelow
stays_below_bounds =
    record {
      sends = λ terms time recent bound s few before. held_sends bound bound terms time recent s few (omega arith) before;
      stays = λ terms time recent bound s few before. held_stays bound bound terms time recent s few (omega arith) before;
      ever = λ terms bound calls few h. (ever_below terms bound calls few h).sends;
      fresh = fresh_held;
    }
