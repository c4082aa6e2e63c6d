-- One number, one payload.
use Rattle.std.proofs.Common.{◌≡◌, ℕ, zero, suc, ◌+◌, ◌^◌, ◌<◌, ◌==◌, Bool, true, false, if◌then◌else◌, Option, None, Some, List, [], ◌∷◌, ◌++◌}
use Rattle.std.proofs.Common.{All, refl, ap, subst, ◌∙◌, arith}
use Rattle.std.specs.Prelude.{slice_get}
use Rattle.std.proofs.lemmas.List.Elements.{All-nil, All-cons, All-head, All-tail, All-append, All-weaker}
use Rattle.srt_types.specs.Window.{number_word}
use Rattle.srt_types.specs.Runs.{Range}
use Rattle.srt_sendbuf.specs.Sending.{Queued, acknowledged_by, queued}
use Rattle.srt_sub.specs.Heard.{Heard, Ack, Nak, Data, Other}
use Rattle.srt_sub.specs.Subscribing.{Terms, Subscribing, Report, Acked, Dropped, Media, KeepAlive, expired, took, with_ack, with_nak}
use Rattle.srt_sub.specs.Subscribing.{fits, answers, most, resends, prepared, reports, reported}
use Rattle.srt_sub.specs.Payloads.{HasPayload, IsStored}
use Rattle.srt_sub.specs.SessionCalls.{SessionCall, Expire, Hear, Feed, End, bounded, unbounded, called, sent_by, all_called, all_sent, OnePayloadEach}
use Rattle.srt_sub.proofs.Carried.{IsOfAnEnd, HasSame, both_same, end_stored, ended_same, expired_queue, prepared_same, stored_same, turned_same}

numbers_differ : (initial n k : ℕ) → n < k + 2 ^ 31 → k < n + 2 ^ 31 → number_word initial n ≡ number_word initial k → n ≡ k
numbers_differ initial n k below above e = omega (arith, below, above, e)

-- what an event's end sends is stored
pub reports_stored : (terms : Terms) (time : ℕ) (recent : Bool) (s : Subscribing) → All (IsStored s.sending) (reports terms time recent s)
reports_stored terms time recent s =
    let x = prepared terms time recent s in
    let same = turned_same s.sending x.sending (prepared_same terms time recent s) in
    All-weaker (IsOfAnEnd x.sending) (IsStored s.sending) (λ (r : Report). λ (h : IsOfAnEnd x.sending r). stored_same x.sending s.sending same r h.stored)
    (reports terms time recent s) (end_stored most (resends terms.resend_percent most x.notes) terms time x)

-- an event's end moves no payload
pub reported_same : (terms : Terms) (time : ℕ) (recent : Bool) (s : Subscribing) → HasSame s.sending (reported terms time recent s).sending
reported_same terms time recent s =
    let x = prepared terms time recent s in
    both_same s.sending x.sending (reported terms time recent s).sending (prepared_same terms time recent s)
    (ended_same most (resends terms.resend_percent most x.notes) terms time x)

bounded_queue : (terms : Terms) (bound : Option ℕ) (s : Subscribing) → (bounded terms bound s).sending.queue ≡ s.sending.queue
bounded_queue terms None s = refl
bounded_queue terms (Some bound) s = refl

unbounded_queue : (terms : Terms) (bound : Option ℕ) (s after : Subscribing) → (unbounded terms bound s after).sending.queue ≡ after.sending.queue
unbounded_queue terms None s after = refl
unbounded_queue terms (Some bound) s after = refl

acked_queue : (time : ℕ) (more : List ℕ) (o : Option ℕ) (s : Subscribing) → (with_ack time more o s).sending.queue ≡ s.sending.queue
acked_queue time more None s = refl
acked_queue time more (Some n) s = refl

asked_queue : (o : Option (List Range)) (s : Subscribing) → (with_nak o s).sending.queue ≡ s.sending.queue
asked_queue None s = refl
asked_queue (Some ranges) s = refl

took_queue : (time : ℕ) (h : Heard) (s : Subscribing) → (took time h s).sending.queue ≡ s.sending.queue
took_queue time (Ack mark number more) s = acked_queue time more (acknowledged_by number s.sending) s
took_queue time (Nak o) s = asked_queue o s
took_queue time Data s = refl
took_queue time Other s = refl

-- the queue continues another one
abbrev Continues : (before after : List Queued) → Type 0
Continues before after = (more : List Queued) × (after ≡ before ++ more)

without_more : (xs : List Queued) → xs ≡ xs ++ []
without_more [] = refl
without_more (x ∷ xs) = ap (λ (ys : List Queued). x ∷ ys) (without_more xs)

pub stays : (before after : List Queued) → after ≡ before → Continues before after
stays before after e = ([], e ∙ without_more before)

goes_on : (before middle after : List Queued) → middle ≡ before → Continues middle after → Continues before after
goes_on before middle after e h = (h.0, h.1 ∙ ap (λ (xs : List Queued). xs ++ h.0) e)

fed_more : (b : Bool) (time : ℕ) (payload : List ℕ) (s : Subscribing)
    → Continues s.sending.queue (if b then record s { sending = queued time payload s.sending } else s).sending.queue
fed_more true time payload s = (record { origin = time; payload = payload } ∷ [], refl)
fed_more false time payload s = stays s.sending.queue s.sending.queue refl

pub appends : (terms : Terms) (call : SessionCall) (s : Subscribing) → Continues s.sending.queue (called terms call s).sending.queue
appends terms (Expire time) s = stays s.sending.queue _ (expired_queue terms.mode terms time s.sending)
appends terms (Hear time h) s =
    stays s.sending.queue _ (took_queue time h (expired terms time s) ∙ expired_queue terms.mode terms time s.sending)
appends terms (Feed time payload) s =
    let x = expired terms time s in
    goes_on s.sending.queue x.sending.queue _ (expired_queue terms.mode terms time s.sending)
    (fed_more (fits terms.mode terms payload x.sending) time payload x)
appends terms (End time recent bound) s =
    let x = expired terms time s in
    let y = bounded terms bound x in
    stays s.sending.queue _
    (unbounded_queue terms bound x (reported terms time recent y) ∙ (reported_same terms time recent y).queue_is ∙ bounded_queue terms bound x
    ∙ expired_queue terms.mode terms time s.sending)

-- a payload stays where it is in the queue
still_there : (xs more : List Queued) (n : ℕ) (q : Queued) → slice_get xs n ≡ Some q → slice_get (xs ++ more) n ≡ Some q
still_there [] more n q e = absurd cc
still_there (x ∷ xs) more zero q e = e
still_there (x ∷ xs) more (suc n) q e = still_there xs more n q e

carried_on : (before after : List Queued) → Continues before after → (r : Report) → HasPayload before r → HasPayload after r
carried_on before after on (Acked mark) h = tt
carried_on before after on (Dropped run) h = tt
carried_on before after on (Media n again origin payload) h =
    ap (λ (xs : List Queued). slice_get xs n) on.1 ∙ still_there before on.0 n (record { origin = origin; payload = payload }) h
carried_on before after on KeepAlive h = tt

answers_carried : (queue : List Queued) (h : Heard) → All (HasPayload queue) (answers h)
answers_carried queue (Ack mark number more) = by (mark == 0)
  where
    by : (b : Bool) → All (HasPayload queue) (if b then [] else Acked mark ∷ [])
    by true = All-nil (HasPayload queue)
    by false = All-cons (HasPayload queue) (Acked mark) [] tt (All-nil (HasPayload queue))
answers_carried queue (Nak o) = All-nil (HasPayload queue)
answers_carried queue Data = All-nil (HasPayload queue)
answers_carried queue Other = All-nil (HasPayload queue)

call_carried : (terms : Terms) (call : SessionCall) (s : Subscribing) → All (HasPayload s.sending.queue) (sent_by terms call s)
call_carried terms (Expire time) s = All-nil (HasPayload s.sending.queue)
call_carried terms (Hear time h) s = answers_carried s.sending.queue h
call_carried terms (Feed time payload) s = All-nil (HasPayload s.sending.queue)
call_carried terms (End time recent bound) s =
    let y = bounded terms bound (expired terms time s) in
    let queue : y.sending.queue ≡ s.sending.queue = bounded_queue terms bound (expired terms time s) ∙ expired_queue terms.mode terms time s.sending in
    subst (λ (xs : List Queued). All (HasPayload xs) (reports terms time recent y)) queue
    (All-weaker (IsStored y.sending) (HasPayload y.sending.queue) (λ (r : Report). λ (h : IsStored y.sending r). h.0) (reports terms time recent y)
    (reports_stored terms time recent y))

carried : (terms : Terms) (calls : List SessionCall) → All (HasPayload (all_called terms calls).sending.queue) (all_sent terms calls)
carried terms [] = All-nil (HasPayload [])
carried terms (call ∷ calls) =
    let s = all_called terms calls in
    let after = (called terms call s).sending.queue in
    All-weaker (HasPayload s.sending.queue) (HasPayload after) (carried_on s.sending.queue after (appends terms call s))
    (sent_by terms call s ++ all_sent terms calls)
    (All-append (HasPayload s.sending.queue) (sent_by terms call s) (all_sent terms calls) (call_carried terms call s) (carried terms calls))

at_place : (P : Report → Type 0) (rs : List Report) (i : ℕ) (r : Report) → All P rs → slice_get rs i ≡ Some r → P r
at_place P [] i r h e = absurd cc
at_place P (x ∷ rs) zero r h e = let same : x ≡ r = cc in subst P same (All-head P x rs h)
at_place P (x ∷ rs) (suc i) r h e = at_place P rs i r (All-tail P x rs h) e

same : (terms : Terms) (calls : List SessionCall) (i j number origin later_origin : ℕ) (again later_again : Bool) (payload later_payload : List ℕ)
    → slice_get (all_sent terms calls) i ≡ Some (Media number again origin payload)
    → slice_get (all_sent terms calls) j ≡ Some (Media number later_again later_origin later_payload)
    → (later_payload ≡ payload) × (later_origin ≡ origin)
same terms calls i j number origin later_origin again later_again payload later_payload first later =
    let queue = (all_called terms calls).sending.queue in
    let a = at_place (HasPayload queue) (all_sent terms calls) i (Media number again origin payload) (carried terms calls) first in
    let b = at_place (HasPayload queue) (all_sent terms calls) j (Media number later_again later_origin later_payload) (carried terms calls) later in
    let x : Queued = record { origin = origin; payload = payload } in
    let y : Queued = record { origin = later_origin; payload = later_payload } in
    let one : y ≡ x = cc in
    (ap (λ (q : Queued). q.payload) one, ap (λ (q : Queued). q.origin) one)

pub one_payload_each : OnePayloadEach
one_payload_each = record { stored = reports_stored; appends = appends; carried = carried; same = same; numbers = numbers_differ }
