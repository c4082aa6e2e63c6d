-- One event, and one after the other.
use Rattle.std.proofs.Common.{◌≡◌, ◌≢◌, ◌⊎◌, inl, inr, ℕ, zero, suc, ◌+◌, ◌*◌, ◌<◌, ◌≤◌, ◌==◌, Bool, true, false, true≢false, Option, None, List}
use Rattle.std.proofs.Common.{[], ◌∷◌, ◌++◌, length, map, slice_index_or, slice_set, refl, sym, ap, ◌∙◌, subst, append_assoc, append-nil}
use Rattle.std.proofs.Common.{arith, add-mul}
use Rattle.std.specs.Prelude.{if◌then◌else◌}
use Rattle.srt_types.specs.declared.shared.Schedule.{Schedule}
use Rattle.std.proofs.lemmas.Grind.{flat_map-append, fold-append}
use Rattle.std.proofs.lemmas.List.Sums.{sum_by-append}
use Rattle.std.proofs.lemmas.Bool.Decides.{nat_tests}
use Rattle.std.proofs.lemmas.List.{map-append, length-append, length-set, get_or-set_same, get_or-set_other, set-get_or}
use Rattle.srt_types.specs.Items.{Datagram, Item, Received, Close, input_of}
use Rattle.srt_route.specs.Written.{written}
use Rattle.srt_route.specs.declared.replies.Reply.{Reply}
use Rattle.srt_mailbox.specs.Ends.{Producer, Drained, drained as drained_to}
use Rattle.srt_mailbox.specs.Evidence.{FoundEmpty}
use Rattle.srt_poller.specs.declared.devices.Sent.{Sent}
use Rattle.srt_poller.specs.declared.ends.Ends.{Ends}
use Rattle.srt_poller.specs.declared.devices.Sent.TheVariants.{Taken, Later, Failed}
use Rattle.srt_poller.specs.Devices.{Arrival, Heard, heard, Carried, Call, heard_more, handed_by_send, joined}
use Rattle.srt_poller.specs.Pollers.{RoundState, IsUpTo, Replies, ClosedAs}
use Rattle.srt_poller.specs.declared.poller.KeptReply.{KeptReply}
use Rattle.srt_poller.specs.declared.poller.Left.{Left}
use Rattle.srt_poller.specs.declared.poller.Left.TheVariants as left
use Rattle.srt_poller.specs.inside.Visits.{IsKeptAfter, is_kept, is_open}
use Rattle.srt_poller.specs.Schedules.{CloseOffer, offered}
use Rattle.srt_poller.specs.History.{Event, State, Fits, Follow, state_by, state_after, Begins, closing_by, closings, given_by}
use Rattle.srt_poller.specs.History.{given, calls_by, calls, attempts_by, attempts, Phase, Reading, Sending, reading, sent_on, IsOver}
use Rattle.srt_poller.specs.History.{MaySend, Handed, handed_by, handed, datagrams, accepted_by, accepted, drained_by, drained, at_route}
use Rattle.srt_poller.specs.History.{closes_all_by, waits_by, ready_by, reads_by, Waits, WaitFails, ReadsNothing, ReadFails, Answers}
use Rattle.srt_poller.specs.History.{Accepts, Overflows, Refuses, Drops, Sends, Resends}
use Rattle.srt_supervision.specs.declared.report.Report.{Report}
use Rattle.srt_poller.specs.Reports.{counted_by, counted}
use Rattle.srt_poller.specs.Rounds.{World, IsLater, AreLater, Happened, WentClosing, Went}
use Rattle.srt_poller.specs.Starts.{RoundStart, starts_by, starts_in}
use Rattle.srt_poller.specs.Told.{Observer, Setting, IsTold, AreTold}
use Rattle.srt_poller.proofs.Joined.{joined_none, joined_twice}

-- ends
pub later_none : (e : Ends) → IsLater [] [] e e
later_none e = record { inbox = refl; inbox_capacity = refl; offered = sym (append-nil _); outbox = refl; outbox_capacity = refl; through = sym (append-nil _) }

pub later_then : (us vs : List Item) (cs ds : List Datagram) (x y z : Ends) → IsLater us cs x y → IsLater vs ds y z → IsLater (us ++ vs) (cs ++ ds) x z
later_then us vs cs ds x y z h k = record {
  inbox = k.inbox ∙ h.inbox;
  inbox_capacity = k.inbox_capacity ∙ h.inbox_capacity;
  offered = k.offered ∙ ap (λ xs. xs ++ vs) h.offered ∙ append_assoc (map input_of x.ingress.offered) us vs;
  outbox = k.outbox ∙ h.outbox;
  outbox_capacity = k.outbox_capacity ∙ h.outbox_capacity;
  through = k.through ∙ ap (λ xs. xs ++ ds) h.through ∙ append_assoc (map written x.drain.through) cs ds;
}

pub are_later_none : (events : List Event) (es : List Ends) → ((r : ℕ) → accepted r events ≡ []) → ((r : ℕ) → drained r events ≡ []) → AreLater events es es
are_later_none events es a d = record {
  as_many = refl;
  each = λ r e below. rw (a r, d r) (later_none (slice_index_or es r e));
  others = λ r past. (a r, d r);
}

pub are_later_then : (us vs : List Event) (x y z : List Ends) → AreLater us x y → AreLater vs y z → AreLater (us ++ vs) x z
are_later_then us vs x y z h k = record {
  as_many = k.as_many ∙ h.as_many;
  each = λ r e below.
      let there : r < length y = omega (arith, h.as_many) in
      rw (flat_map-append (accepted_by r) us vs, flat_map-append (drained_by r) us vs)
      (later_then (accepted r us) (accepted r vs) (drained r us) (drained r vs) _ _ _ (h.each r e below) (k.each r e there));
  others = λ r past.
      let beyond : length y ≤ r = omega (arith, h.as_many, past) in (
        flat_map-append (accepted_by r) us vs ∙ ap (λ xs. xs ++ accepted r vs) (h.others r past).0 ∙ (k.others r beyond).0,
        flat_map-append (drained_by r) us vs ∙ ap (λ xs. xs ++ drained r vs) (h.others r past).1 ∙ (k.others r beyond).1,
      );
}

-- no event, one event, and events after others
pub starts_then : (schedules : List Schedule) (s : State) (us vs : List Event) →
    starts_in schedules s (us ++ vs) ≡ starts_in schedules s us ++ starts_in schedules (state_after schedules s us) vs
starts_then schedules s [] vs = refl
starts_then schedules s (u ∷ us) vs =
    ap (λ (l : List RoundStart). starts_by schedules s u ++ l) (starts_then schedules (state_by schedules s u) us vs)
    ∙ sym (append_assoc (starts_by schedules s u) (starts_in schedules (state_by schedules s u) us) _)

pub happened_then : {setting : Setting} {schedules : List Schedule} {b c m n w v r s : ℕ} {p q : List RoundStart} (us vs : List Event) (x y z : World)
    → Happened setting schedules b p m w r us x y → Happened setting schedules c q n v s vs y z
    → Happened setting schedules (b + c) (p ++ q) (m + n) (w + v) (r + s) (us ++ vs) x z
happened_then {setting} {schedules} {b} {c} {m} {n} {w} {v} {r} {s} {p} {q} us vs x y z h k = record {
  follow = follow_then x.state us (subst (λ (o : State). Follow setting.class schedules o vs) h.state k.follow) h.follow;
  gave = k.gave ∙ ap (λ o. joined o (given vs)) h.gave ∙ joined_twice x.source.gave (given us) (given vs)
      ∙ ap (joined x.source.gave) (sym (flat_map-append given_by us vs));
  called = k.called ∙ ap (λ o. joined o (calls vs)) h.called ∙ joined_twice x.source.calls (calls us) (calls vs)
      ∙ ap (joined x.source.calls) (sym (flat_map-append calls_by us vs));
  handed = k.handed ∙ ap (λ o. joined o (datagrams (handed vs))) h.handed ∙ joined_twice x.wire.handed (datagrams (handed us)) (datagrams (handed vs))
      ∙ ap (joined x.wire.handed) (sym (ap datagrams (flat_map-append handed_by us vs) ∙ map-append (λ (d : Handed). d.datagram) (handed us) (handed vs)));
  attempted = k.attempted ∙ ap (λ o. joined o (attempts vs)) h.attempted ∙ joined_twice x.wire.attempts (attempts us) (attempts vs)
      ∙ ap (joined x.wire.attempts) (sym (flat_map-append attempts_by us vs));
  ends = are_later_then us vs x.ends y.ends z.ends h.ends k.ends;
  state = k.state ∙ ap (λ o. state_after schedules o vs) h.state ∙ sym (fold-append (state_by schedules) x.state us vs);
  report = k.report ∙ ap (λ c. counted c vs) h.report ∙ sym (fold-append counted_by x.report us vs);
  told = told_then x.report us (subst (λ (n : Report). AreTold setting.class setting.observer n vs) h.report k.told) h.told;
  closed = let a = h.closed in let b = k.closed in omega (arith, sum_by-append closes_all_by us vs);
  started = starts_then schedules x.state us vs
      ∙ ap (λ (l : List RoundStart). l ++ starts_in schedules (state_after schedules x.state us) vs) h.started
      ∙ ap (λ (l : List RoundStart). p ++ l) (ap (λ (o : State). starts_in schedules o vs) (sym h.state) ∙ k.started);
  few = let a = h.few in let b = k.few in omega (arith, length-append us vs);
  waited = let a = h.waited in let b = k.waited in omega (arith, sum_by-append waits_by us vs);
  was_read = let a = h.was_read in let b = k.was_read in omega (arith, sum_by-append ready_by us vs, sum_by-append reads_by us vs);
}
  where
    follow_then : (o : State) (es : List Event)
        → Follow setting.class schedules (state_after schedules o es) vs → Follow setting.class schedules o es → Follow setting.class schedules o (es ++ vs)
    follow_then o [] f g = f
    follow_then o (e ∷ es) f g = (g.0, follow_then (state_by schedules o e) es f g.1)

    told_then : (n : Report) (es : List Event) → AreTold setting.class setting.observer (counted n es) vs
        → AreTold setting.class setting.observer n es → AreTold setting.class setting.observer n (es ++ vs)
    told_then n [] f g = f
    told_then n (e ∷ es) f g = (g.0, told_then (counted_by n e) es f g.1)

pub went_none : (setting : Setting) (schedules : List Schedule) (most : ℕ) (x : World) → Went setting schedules most 0 0 x x
went_none setting schedules most x = (
  [],
  record {
    follow = tt;
    gave = sym (joined_none x.source.gave);
    called = sym (joined_none x.source.calls);
    handed = sym (joined_none x.wire.handed);
    attempted = sym (joined_none x.wire.attempts);
    ends = are_later_none [] x.ends (λ r. refl) (λ r. refl);
    state = refl;
    report = refl;
    told = tt;
    closed = refl;
    started = refl;
    few = omega arith;
    waited = refl;
    was_read = omega arith;
  },
)

pub went_then : {setting : Setting} {schedules : List Schedule} {b c m n w v r s : ℕ} {p q : List RoundStart} {x y z : World}
    → WentClosing setting schedules b p m w r x y → WentClosing setting schedules c q n v s y z
    → WentClosing setting schedules (b + c) (p ++ q) (m + n) (w + v) (r + s) x z
went_then {setting} {schedules} {b} {c} {m} {n} {w} {v} {r} {s} {p} {q} {x} {y} {z} h k = (h.0 ++ k.0, happened_then h.0 k.0 x y z h.1 k.1)

pub went_more : {setting : Setting} {schedules : List Schedule} {b m n w r s : ℕ} {p : List RoundStart} {x y : World}
    → m ≤ n → s ≤ r → WentClosing setting schedules b p m w r x y → WentClosing setting schedules b p n w s x y
went_more le less h = (
  h.0,
  record {
    follow = h.1.follow;
    gave = h.1.gave;
    called = h.1.called;
    handed = h.1.handed;
    attempted = h.1.attempted;
    ends = h.1.ends;
    state = h.1.state;
    report = h.1.report;
    told = h.1.told;
    closed = h.1.closed;
    started = h.1.started;
    few = let a = h.1.few in omega arith;
    waited = h.1.waited;
    was_read = let a = h.1.was_read in omega arith;
  },
)

-- the number of rounds that close all, said otherwise
pub went_as : {setting : Setting} {schedules : List Schedule} {b c m w r : ℕ} {p : List RoundStart} {x y : World}
    → b ≡ c → WentClosing setting schedules b p m w r x y → WentClosing setting schedules c p m w r x y
went_as {setting} {schedules} {b} {c} {m} {w} {r} {p} {x} {y} same h = subst (λ (n : ℕ). WentClosing setting schedules n p m w r x y) same h

-- what one event makes of the records of the devices
pub record HasRecorded (event : Event) (source source' : Heard) (wire wire' : Carried) : Type 0 where
  pub gave : source'.gave ≡ joined source.gave (given_by event)
  pub called : source'.calls ≡ joined source.calls (calls_by event)
  pub handed : wire'.handed ≡ joined wire.handed (datagrams (handed_by event))
  pub attempted : wire'.attempts ≡ joined wire.attempts (attempts_by event)

pub went_once : (setting : Setting) (schedules : List Schedule) (event : Event) (w r : ℕ) (x y : World)
    → waits_by event ≡ w → ready_by event + r ≤ reads_by event + w →
    Fits setting.class schedules x.state event → HasRecorded event x.source y.source x.wire y.wire → AreLater (event ∷ []) x.ends y.ends
    → y.state ≡ state_by schedules x.state event → y.report ≡ counted_by x.report event
    → IsTold setting.class setting.observer x.report event
    → WentClosing setting schedules (closes_all_by event) (starts_by schedules x.state event) 1 w r x y
went_once setting schedules event w r x y waits reads fits recorded ends state report told = (
  event ∷ [],
  record {
    follow = (fits, tt);
    gave = recorded.gave ∙ ap (joined x.source.gave) (sym (append-nil (given_by event)));
    called = recorded.called ∙ ap (joined x.source.calls) (sym (append-nil (calls_by event)));
    handed = recorded.handed ∙ ap (λ hs. joined x.wire.handed (datagrams hs)) (sym (append-nil (handed_by event)));
    attempted = recorded.attempted ∙ ap (joined x.wire.attempts) (sym (append-nil (attempts_by event)));
    ends = ends;
    state = state;
    report = report;
    told = (told, tt);
    closed = omega arith;
    started = append-nil (starts_by schedules x.state event);
    few = omega arith;
    waited = omega (arith, waits);
    was_read = omega (arith, reads);
  },
)

pub went_one : (setting : Setting) (schedules : List Schedule) (event : Event) (x y : World) → Fits setting.class schedules x.state event
    → HasRecorded event x.source y.source x.wire y.wire → AreLater (event ∷ []) x.ends y.ends → y.state ≡ state_by schedules x.state event
    → y.report ≡ counted_by x.report event → IsTold setting.class setting.observer x.report event
    → WentClosing setting schedules (closes_all_by event) (starts_by schedules x.state event) 1 (waits_by event) (reads_by event) x y
went_one setting schedules event x y fits recorded ends state report told =
    went_once setting schedules event (waits_by event) (reads_by event) x y refl (owed event) fits recorded ends state report told
  where
    owed : (e : Event) → ready_by e + reads_by e ≤ reads_by e + waits_by e
    owed (Begins b m os) = omega arith
    owed Waits = omega arith
    owed WaitFails = omega arith
    owed ReadsNothing = omega arith
    owed ReadFails = omega arith
    owed (Answers a b s) = omega arith
    owed (Accepts a r) = omega arith
    owed (Overflows a r) = omega arith
    owed (Refuses a r) = omega arith
    owed (Drops a c) = omega arith
    owed (Sends r d s) = omega arith
    owed (Resends r d s) = omega arith

-- nothing was recorded by the source, or by the wire
pub unheard : (event : Event) (source : Heard) (wire wire' : Carried) → given_by event ≡ [] → calls_by event ≡ []
    → wire'.handed ≡ joined wire.handed (datagrams (handed_by event)) → wire'.attempts ≡ joined wire.attempts (attempts_by event)
    → HasRecorded event source source wire wire'
unheard event source wire wire' gave calls handed attempted = record {
  gave = sym (joined_none source.gave) ∙ ap (joined source.gave) (sym gave);
  called = sym (joined_none source.calls) ∙ ap (joined source.calls) (sym calls);
  handed = handed;
  attempted = attempted;
}

pub unsent : (event : Event) (source source' : Heard) (wire : Carried) → handed_by event ≡ [] → attempts_by event ≡ []
    → source'.gave ≡ joined source.gave (given_by event) → source'.calls ≡ joined source.calls (calls_by event)
    → HasRecorded event source source' wire wire
unsent event source source' wire handed attempted gave called = record {
  gave = gave;
  called = called;
  handed = sym (joined_none wire.handed) ∙ ap (λ hs. joined wire.handed (datagrams hs)) (sym handed);
  attempted = sym (joined_none wire.attempts) ∙ ap (joined wire.attempts) (sym attempted);
}

pub heard_as : (h : Heard) (arrivals : List Arrival) (call : Call) (gave : Option (List Arrival)) (calls : Option (List Call))
    → gave ≡ joined h.gave arrivals → calls ≡ joined h.calls (call ∷ []) → heard_more h arrivals call ≡ heard gave calls
heard_as h arrivals call gave calls e k = ap (λ (g : Option (List Arrival)). heard g (joined h.calls (call ∷ []))) (sym e) ∙ ap (heard gave) (sym k)

-- phases
pub reading_below : (reads : ℕ) → reads < 256 → reading reads ≡ Reading reads
reading_below reads below = by_test (reads == 256) refl
  where
    by_test : (b : Bool) → (reads == 256) ≡ b → (if b then Sending 0 0 else Reading reads) ≡ Reading reads
    by_test true is = absurd (grind (arith, nat_tests))
    by_test false is = refl

is_below : (a c : ℕ) → a ≤ c → (a == c) ≡ false → a < c
is_below a c le is = grind (arith, nat_tests)

pub up_to_more : {a b c d : ℕ} {phase : Phase} → a ≤ c → (a ≡ c → b ≤ d) → IsUpTo a b phase → IsUpTo c d phase
up_to_more {a} {b} {c} {d} le more up = (up.0, up.1, up.2, by_place up.3 (a == c) refl)
  where
    by_place : (up.0 < a) ⊎ ((up.0 ≡ a) × (up.1 ≤ b)) → (t : Bool) → (a == c) ≡ t → (up.0 < c) ⊎ ((up.0 ≡ c) × (up.1 ≤ d))
    by_place (inl h) t e = inl (omega (arith, le, h))
    by_place (inr h) true e = let same : a ≡ c = grind (arith, nat_tests) in inr (h.0 ∙ same, omega (arith, h.1, more same))
    by_place (inr h) false e = inl (omega (arith, h.0, is_below a c le e))

pub up_to_over : {a b : ℕ} {phase : Phase} → IsUpTo a b phase → IsOver phase
up_to_over up = subst IsOver (sym up.2) tt

pub up_to_sends : {r n : ℕ} {phase : Phase} → n < 64 → IsUpTo r n phase → MaySend phase r
up_to_sends {r} {n} below up = subst (λ (p : Phase). MaySend p r) (sym up.2) (by_place up.3)
  where
    by_place : (up.0 < r) ⊎ ((up.0 ≡ r) × (up.1 ≤ n)) → (up.0 < r) ⊎ ((up.0 ≡ r) × (up.1 < 64))
    by_place (inl h) = inl h
    by_place (inr h) = inr (h.0, omega (arith, h.1, below))

pub up_to_sent : {r n : ℕ} {phase : Phase} → IsUpTo r n phase → IsUpTo r (n + 1) (sent_on r phase)
up_to_sent {r} {n} up = (r, (if up.0 == r then up.1 + 1 else 1), ap (sent_on r) up.2, inr (refl, by_test (up.0 == r) refl up.3))
  where
    by_test : (b : Bool) → (up.0 == r) ≡ b → (up.0 < r) ⊎ ((up.0 ≡ r) × (up.1 ≤ n)) → (if b then up.1 + 1 else 1) ≤ n + 1
    by_test true e (inl lt) = absurd (grind (arith, nat_tests))
    by_test true e (inr k) = omega (arith, k.1)
    by_test false e k = omega arith

-- replies after others
pub replies_then : {o : Observer} {a b c d e f m n : ℕ} {x y z : RoundState → Phase → Heard → World}
    → Replies o a b c d m x y → Replies o c d e f n y z → Replies o a b e f (m + n) x z
replies_then h k class schedules t phase source up =
    let first = h class schedules t phase source up in
    let second = k class schedules t first.0 source first.1 in
    (second.0, second.1, went_then first.2 second.2)

pub replies_more : {o : Observer} {a b c d e f m n : ℕ} {x y : RoundState → Phase → Heard → World}
    → c ≤ e → (c ≡ e → d ≤ f) → m ≤ n → Replies o a b c d m x y → Replies o a b e f n x y
replies_more le more few h class schedules t phase source up =
    let done = h class schedules t phase source up in
    (done.0, up_to_more le more done.1, went_more few (omega arith) done.2)

pub replies_from : {o : Observer} {a b c d e f m : ℕ} {x y : RoundState → Phase → Heard → World}
    → a ≤ c → (a ≡ c → b ≤ d) → Replies o c d e f m x y → Replies o a b e f m x y
replies_from le more h class schedules t phase source up = h class schedules t phase source (up_to_more le more up)

-- the ends of a route that is there
same_default : (xs : List Ends) (r : ℕ) (p q : Ends) → r < length xs → slice_index_or xs r p ≡ slice_index_or xs r q
same_default [] r p q lt = absurd (omega arith)
same_default (x ∷ xs) zero p q lt = refl
same_default (x ∷ xs) (suc r) p q lt = same_default xs r p q (omega arith)

-- if one element of a list of ends changed
pub one_changed : (event : Event) (k : ℕ) (es : List Ends) (d z : Ends) → k < length es →
    ((r : ℕ) → r ≢ k → accepted r (event ∷ []) ≡ []) → ((r : ℕ) → r ≢ k → drained r (event ∷ []) ≡ []) →
    IsLater (accepted k (event ∷ [])) (drained k (event ∷ [])) (slice_index_or es k d) z → AreLater (event ∷ []) es (slice_set es k z)
one_changed event k es d z below a b h = record {
  as_many = length-set es k z;
  each = λ r e there. by_place r e there (r == k) refl;
  others = λ r past. let other : r ≢ k = λ same. apart r same past in (a r other, b r other);
}
  where
    neq : (r : ℕ) → r ≡ k → (r == k) ≡ false → ⊥
    neq r same is = grind (arith, nat_tests)

    apart : (r : ℕ) → r ≡ k → length es ≤ r → ⊥
    apart r same past = omega (arith, same, past, below)

    by_place : (r : ℕ) (e : Ends) → r < length es → (b : Bool) → (r == k) ≡ b
        → IsLater (accepted r (event ∷ [])) (drained r (event ∷ [])) (slice_index_or es r e) (slice_index_or (slice_set es k z) r e)
    by_place r e there true is =
        let same : r ≡ k = grind (arith, nat_tests) in
        let here : IsLater (accepted k (event ∷ [])) (drained k (event ∷ [])) (slice_index_or es k e)
        (slice_index_or (slice_set es k z) k e) =
        rw (get_or-set_same es k z e below, same_default es k e d below) h in
        subst
        (λ (n : ℕ).
        IsLater (accepted n (event ∷ [])) (drained n (event ∷ [])) (slice_index_or es n e) (slice_index_or (slice_set es k z) n e))
        (sym same) here
    by_place r e there false is =
        let other : r ≢ k = λ same. neq r same is in
        rw (a r other, b r other, get_or-set_other es k r z e other) (later_none (slice_index_or es r e))

at_own : {A : Type 0} (k : ℕ) (x : A) → at_route k k x ≡ x ∷ []
at_own {A} k x = by_test (k == k) refl
  where
    by_test : (b : Bool) → (k == k) ≡ b → (if b then x ∷ [] else []) ≡ x ∷ []
    by_test true is = refl
    by_test false is = absurd (grind (arith, nat_tests))

at_other : {A : Type 0} (k r : ℕ) (x : A) → r ≢ k → at_route k r x ≡ []
at_other {A} k r x other = by_test (k == r) refl
  where
    by_test : (b : Bool) → (k == r) ≡ b → (if b then x ∷ [] else []) ≡ []
    by_test true is = absurd (other (grind (arith, nat_tests)))
    by_test false is = refl

pub accepted_here : (a : Arrival) (k : ℕ) (es : List Ends) (d z : Ends) → k < length es →
    IsLater (Received a.datagram a.moment ∷ []) [] (slice_index_or es k d) z → AreLater (Accepts a k ∷ []) es (slice_set es k z)
accepted_here a k es d z below h =
    let own : accepted k (Accepts a k ∷ []) ≡ Received a.datagram a.moment ∷ [] = append-nil _ ∙ at_own k _ in
    one_changed (Accepts a k) k es d z below (λ r other. append-nil _ ∙ at_other k r _ other) (λ r other. refl) (rw own h)

-- events that give the inboxes and take from the outboxes the same
pub are_later_as : (us vs : List Event) (x y : List Ends)
    → ((r : ℕ) → accepted r us ≡ accepted r vs) → ((r : ℕ) → drained r us ≡ drained r vs) → AreLater us x y → AreLater vs x y
are_later_as us vs x y a d h = record {
  as_many = h.as_many;
  each = λ r e below. rw (sym (a r), sym (d r)) (h.each r e below);
  others = λ r past. (sym (a r) ∙ (h.others r past).0, sym (d r) ∙ (h.others r past).1);
}

-- one offer after others
pub closings_then : (b : Bool) (moment : ℕ) (us : List CloseOffer) (o : CloseOffer) (x y z : List Ends)
    → AreLater (Begins b moment us ∷ []) x y → AreLater (Begins false moment (o ∷ []) ∷ []) y z
    → AreLater (Begins b moment (us ++ o ∷ []) ∷ []) x z
closings_then b moment us o x y z h k =
    are_later_as (Begins b moment us ∷ Begins false moment (o ∷ []) ∷ []) (Begins b moment (us ++ o ∷ []) ∷ []) x z
    (λ r. ap (λ (items : List Item). closings moment r us ++ items) (append-nil (closings moment r (o ∷ [])))
    ∙ sym (flat_map-append (closing_by moment r) us (o ∷ [])) ∙ sym (append-nil (closings moment r (us ++ o ∷ []))))
    (λ r. refl) (are_later_then (Begins b moment us ∷ []) (Begins false moment (o ∷ []) ∷ []) x y z h k)

pub closed_here : (moment k : ℕ) (es : List Ends) (d z : Ends) → k < length es →
    ClosedAs true moment (slice_index_or es k d).ingress z.ingress
    → z.drain ≡ (slice_index_or es k d).drain → AreLater (Begins false moment (offered k true ∷ []) ∷ []) es (slice_set es k z)
closed_here moment k es d z below h drain =
    let own : accepted k (Begins false moment (offered k true ∷ []) ∷ []) ≡ Close moment ∷ [] = append-nil _ ∙ append-nil _ ∙ at_own k _ in
    one_changed (Begins false moment (offered k true ∷ [])) k es d z below (λ r other. append-nil _ ∙ append-nil _ ∙ at_other k r _ other)
    (λ r other. refl) (rw own (record {
      inbox = h.0;
      inbox_capacity = h.1;
      offered = h.2;
      outbox = ap (λ (d : Drained). d.queue) drain;
      outbox_capacity = ap (λ (d : Drained). d.capacity) drain;
      through = ap (λ (d : Drained). map written d.through) drain ∙ sym (append-nil _);
    }))

pub sent_here : (k : ℕ) (reply : Datagram) (sent : Sent) (es : List Ends) (d z : Ends) → k < length es →
    IsLater [] (reply ∷ []) (slice_index_or es k d) z → AreLater (Sends k reply sent ∷ []) es (slice_set es k z)
sent_here k reply sent es d z below h =
    let own : drained k (Sends k reply sent ∷ []) ≡ reply ∷ [] = append-nil _ ∙ at_own k _ in
    one_changed (Sends k reply sent) k es d z below (λ r other. refl) (λ r other. append-nil _ ∙ at_other k r _ other) (rw own h)

pub nothing_here : (event : Event) (k : ℕ) (es : List Ends) (d z : Ends) → k < length es →
    ((r : ℕ) → accepted r (event ∷ []) ≡ []) → ((r : ℕ) → drained r (event ∷ []) ≡ []) →
    z.ingress ≡ (slice_index_or es k d).ingress → z.drain ≡ (slice_index_or es k d).drain → AreLater (event ∷ []) es (slice_set es k z)
nothing_here event k es d z below a b ingress drain =
    one_changed event k es d z below (λ r other. a r) (λ r other. b r) (rw (a k, b k) (record {
      inbox = ap (λ (x : Producer). x.queue) ingress;
      inbox_capacity = ap (λ (x : Producer). x.capacity) ingress;
      offered = ap (λ (x : Producer). map input_of x.offered) ingress ∙ sym (append-nil _);
      outbox = ap (λ (x : Drained). x.queue) drain;
      outbox_capacity = ap (λ (x : Drained). x.capacity) drain;
      through = ap (λ (x : Drained). map written x.through) drain ∙ sym (append-nil _);
    }))

pub accepted_now : (a : Arrival) (x y : Ends) →
    (y.ingress.queue ≡ x.ingress.queue) × (y.ingress.capacity ≡ x.ingress.capacity) ×
    (map input_of y.ingress.offered ≡ map input_of x.ingress.offered ++ Received a.datagram a.moment ∷ [])
    → y.drain ≡ x.drain
    → IsLater (Received a.datagram a.moment ∷ []) [] x y
accepted_now a x y h drain = record {
  inbox = h.0;
  inbox_capacity = h.1;
  offered = h.2;
  outbox = ap (λ (d : Drained). d.queue) drain;
  outbox_capacity = ap (λ (d : Drained). d.capacity) drain;
  through = ap (λ (d : Drained). map written d.through) drain ∙ sym (append-nil _);
}

-- what a send handed to the wire, as datagrams
pub sent_as : (sent : Sent) (h : Handed) → handed_by_send sent h.datagram ≡ datagrams (handed_by_send sent h)
sent_as Taken h = refl
sent_as Later h = refl
sent_as Failed h = refl

pub drained_now : (reply : Datagram) (hand : Reply) (x : Ends) (z : Drained)
    → z ≡ drained_to x.drain.queue x.drain.capacity (x.drain.through ++ hand ∷ []) hand → written hand ≡ reply →
    IsLater [] (reply ∷ []) x (record { ingress = x.ingress; drain = z })
drained_now reply hand x z h is = record {
  inbox = refl;
  inbox_capacity = refl;
  offered = sym (append-nil _);
  outbox = ap (λ (d : Drained). d.queue) h;
  outbox_capacity = ap (λ (d : Drained). d.capacity) h;
  through = ap (λ (d : Drained). map written d.through) h ∙ map-append written x.drain.through (hand ∷ []) ∙ ap (λ d. map written x.drain.through ++ d ∷ []) is;
}

-- the outbox of a route has one reply less
pub one_more_here : (k : ℕ) (es : List Ends) (d e : Ends) (hand hand' : Reply) (z : Drained) → k < length es
    → z ≡ drained_to (slice_index_or es k d).drain.queue (slice_index_or es k d).drain.capacity ((slice_index_or es k d).drain.through ++ hand ∷ []) hand'
    → length (slice_index_or (slice_set es k (record { ingress = (slice_index_or es k d).ingress; drain = z })) k e).drain.through
    ≡ length (slice_index_or es k e).drain.through + 1
one_more_here k es d e hand hand' z below h =
    rw (get_or-set_same es k (record { ingress = (slice_index_or es k d).ingress; drain = z }) e below, same_default es k e d below)
    (ap (λ (y : Drained). length y.through) h ∙ length-append (slice_index_or es k d).drain.through (hand ∷ []))

-- it was found empty
pub empty_here : (k : ℕ) (es : List Ends) (d e : Ends) (z : Drained) (empty : FoundEmpty) → k < length es → z ≡ (slice_index_or es k d).drain
    → (empty.queue ≡ (slice_index_or es k d).drain.queue) × (empty.through ≡ (slice_index_or es k d).drain.through)
    → ((slice_index_or (slice_set es k (record { ingress = (slice_index_or es k d).ingress; drain = z })) k e).drain ≡ (slice_index_or es k e).drain)
    × (empty.queue ≡ (slice_index_or es k e).drain.queue) × (empty.through ≡ (slice_index_or es k e).drain.through)
empty_here k es d e z empty below h found =
    rw (get_or-set_same es k (record { ingress = (slice_index_or es k d).ingress; drain = z }) e below, same_default es k e d below)
    (h, found.0, found.1)

-- no reply is kept after a route whose last one isn't
pub none_kept : (l : Left) (k : Option KeptReply) → IsKeptAfter l k → is_kept l ≡ false → k ≡ None
none_kept left.Resting k h is = h
none_kept (left.Empty empty) k h is = h
none_kept left.Many k h is = h
none_kept left.Kept k h is = absurd (true≢false is)

-- a drain that kept a reply stopped before its outbox was found empty
pub kept_open : (l : Left) → is_kept l ≡ true → is_open l ≡ true
kept_open left.Resting is = absurd (true≢false (sym is))
kept_open (left.Empty empty) is = absurd (true≢false (sym is))
kept_open left.Many is = absurd (true≢false (sym is))
kept_open left.Kept is = refl

pub unchanged_here : (es : List Ends) (k : ℕ) (d : Ends) (z : Drained)
    → z ≡ (slice_index_or es k d).drain → slice_set es k (record { ingress = (slice_index_or es k d).ingress; drain = z }) ≡ es
unchanged_here es k d z h = ap (λ (y : Drained). slice_set es k (record { ingress = (slice_index_or es k d).ingress; drain = y })) h ∙ set-get_or es k d

pub rounds_more : (k a b : ℕ) → b ≡ a → k * (259 + 64 * a) + (259 + 64 * b) ≤ (k + 1) * (259 + 64 * a)
rounds_more k a b e = rw (e, add-mul k 1 (259 + 64 * a)) (omega arith)
