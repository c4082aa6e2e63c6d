-- The packets of an event's end, one by one.
use Rattle.std.proofs.Common.{◌≡◌, ℕ, zero, suc, ◌+◌, ◌-◌, ◌*◌, ◌/◌, ◌^◌, ◌<◌, ◌≤◌, ◌==◌, min, max, Bool, true, false, ◌&&◌, if◌then◌else◌, Option, None}
use Rattle.std.proofs.Common.{Some, List, [], ◌∷◌, ◌++◌, length, take, inl, inr, ◌⊎◌, refl, sym, ap, subst, ◌∙◌, arith}
use Rattle.std.specs.Prelude.{slice_get, nat_lt, nat_le, filter, map}
use Rattle.std.specs.Option.{option_to_list}
use Rattle.std.proofs.lemmas.Bool.{ne_eqb, ltb-true}
use Rattle.std.proofs.lemmas.Bool.Decides.{nat_tests}
use Rattle.srt_types.specs.Given.{given}
use Rattle.srt_types.specs.Runs.{Run, numbers_from}
use Rattle.srt_types.specs.declared.shared.Mode.{Mode}
use Rattle.srt_types.specs.declared.shared.Mode.TheVariants.{Live, Buffer}
use Rattle.srt_packet.specs.Encoded.{bytes_of}
use Rattle.srt_packet.specs.declared.encoded.EncodedPacket.{EncodedPacket}
use Rattle.srt_sendbuf.specs.Sending.{Queued, Sending, All_of, front, next, in_flight, is_in_span, is_marked, lost, all_lost, sent, Due}
use Rattle.srt_sendbuf.specs.Sending.{due, due_at, due_new, due_number, due_of as due_for}
use Rattle.srt_sendbuf.proofs.OneByOne.{lost_one_by_one, new_one_by_one}
use Rattle.srt_sub.specs.Subscribing.{Terms, Report, Dropped, Media, KeepAlive, Note, Sent, Presumed, Subscribing, is_media, last_sent, last_media}
use Rattle.srt_sub.specs.Subscribing.{tries, resend_timeout, quiet_time, has_waited}
use Rattle.srt_sub.specs.declared.resend_all.Resending.{Resending}
use Rattle.srt_sub.specs.declared.resend_all.Resending.TheVariants.{AtEachTimeout, Once, BackingOff}
use Rattle.srt_sub.proofs.Doubling.{at_least}
use Rattle.srt_sub.specs.Subscribing.{flow_window, unreported, drops, drops_of, expired, expired_in, resend_due, presumed, most, may_resend, resends}
use Rattle.srt_sub.specs.Subscribing.{again_of, new_of, media, media_of, keep_alives, noted, due_of, reports_of, sent_each, sent_of}
use Rattle.srt_sub.specs.Subscribing.{prepared, renewed, renewal_due}
use Rattle.srt_sub.specs.Says.{says}
use Rattle.srt_sub.specs.inside.Turns.{due_in, next_in, phase_after, phase_now, with_due, given_with, texts, PreparesAt, WritesMedia, SendsMedia}
use Rattle.srt_sub.specs.declared.session.Phase.{Phase}
use Rattle.srt_sub.specs.declared.session.Phase.TheVariants.{Lost, New}
use Rattle.srt_sub.proofs.Freshness.{fresh_twice, none_given_up}
use Rattle.srt_sub.proofs.Credits.{not_renewed, renewal_gave, renewal_once, renewal_presumed, renewal_said, resends_few, resends_none, resends_one}
use Rattle.srt_sub.specs.Stands.{StandsIn, BecomesAt, WritesAt}
use Rattle.srt_sub.specs.Emission.{IsLeft, IsNextAt, resends_in}
use Rattle.srt_sub.specs.declared.session.Subscriber.{Subscriber}

-- after a packet of this time no KEEPALIVE is due
pub quiet : (time : ℕ) (due : List Report) (r : Report) (notes : List Note) → keep_alives time due (Sent time r ∷ notes) ≡ []
quiet time (d ∷ due) r notes = refl
quiet time [] r notes = let e : nat_le 1_000_000 (time - time) ≡ false = grind (arith, nat_tests) in rw e refl

made : ℕ → Sending → List Note → Subscribing
made given_up sending notes = record { sending = sending; notes = notes; given_up = given_up }

-- the first packet, and those after it: before it `p` data packets may be sent, at most `x` of them again, and after
-- it `q` and `y`
pub record Parts (p x q y : ℕ) (terms : Terms) (time : ℕ) (s t : Subscribing) (r : Report) : Type 0 where
  pub reports_are : reports_of p x terms time s ≡ r ∷ reports_of q y terms time t
  pub end_is : sent_of p x terms time s ≡ sent_of q y terms time t

-- all packets but KEEPALIVEs, in order
abbrev row : List Queued → Option Run → List ℕ → List ℕ → List Report
row queue run again new = drops_of run ++ media true again queue ++ media false new queue

pub one_more : (p x q y : ℕ) (terms : Terms) (time : ℕ) (s : Subscribing) (t : Sending) (r : Report)
    → due_of p x terms s ≡ r ∷ due_of q y terms (record s { sending = t; notes = Sent time r ∷ s.notes })
    → sent_each (again_of x s.sending ++ new_of p x (flow_window terms.window s.notes) s.sending) s.sending
    ≡ sent_each (again_of y t ++ new_of q y (flow_window terms.window s.notes) t) t
    → Parts p x q y terms time s (record s { sending = t; notes = Sent time r ∷ s.notes }) r
unfolding made
one_more p x q y terms time s t r d e =
    let after : Subscribing = record s { sending = t; notes = Sent time r ∷ s.notes } in
    let left = due_of q y terms after in
    let rs : reports_of p x terms time s ≡ r ∷ reports_of q y terms time after =
    ap (λ d. d ++ keep_alives time d s.notes) d ∙ ap (λ k. r ∷ (left ++ k)) (sym (quiet time left r s.notes)) in
    let whole : made s.given_up (sent_each (again_of x s.sending ++ new_of p x (flow_window terms.window s.notes) s.sending) s.sending)
    (noted time (reports_of p x terms time s) s.notes)
    ≡ made s.given_up (sent_each (again_of y t ++ new_of q y (flow_window terms.window s.notes) t) t)
    (noted time (reports_of q y terms time after) (Sent time r ∷ s.notes)) =
    ap (λ z. made s.given_up z (noted time (reports_of p x terms time s) s.notes)) e
    ∙ ap (λ rs. made s.given_up (sent_each (again_of y t ++ new_of q y (flow_window terms.window s.notes) t) t) (noted time rs s.notes)) rs in
    record { reports_are = rs; end_is = whole }

-- a drop request
pub a_drop : (p x : ℕ) (terms : Terms) (time : ℕ) (s : Subscribing) (run : Run)
    → unreported s.notes ≡ Some run → Parts p x p x terms time s (record s { notes = Sent time (Dropped run) ∷ s.notes }) (Dropped run)
a_drop p x terms time s run u =
    one_more p x p x terms time s s.sending (Dropped run)
    (ap (λ o. row s.sending.queue o (again_of x s.sending) (new_of p x (flow_window terms.window s.notes) s.sending)) u) refl

fewer_again : (p q l m w f a b len : ℕ) → p ≡ suc q → l ≡ suc m → b ≡ a → min (p - l) (min (w - (a - f)) (len - a)) ≡ min (q - m) (min (w - (b - f)) (len - b))
fewer_again p q l m w f a b len e k n = omega (arith, e, k, n)

fewer_new : (p q w f a b len : ℕ) → p ≡ suc q → b ≡ a + 1 → f ≤ a → a - f < w → a < len
    → min (p - 0) (min (w - (a - f)) (len - a)) ≡ suc (min (q - 0) (min (w - (b - f)) (len - b)))
fewer_new p q w f a b len e k le lt more = omega (arith, e, k, le, lt, more)

none_taken : (q : ℕ) → take {A = ℕ} q [] ≡ []
none_taken zero = refl
none_taken (suc q) = refl

-- a resend
pub an_old_one : (p x q y : ℕ) (terms : Terms) (time : ℕ) (s : Subscribing) (n : ℕ) (more : List ℕ) (k : Queued) → p ≡ suc q → x ≡ suc y
    → unreported s.notes ≡ None → lost s.sending ≡ n ∷ more → slice_get s.sending.queue n ≡ Some k
    → Parts p x q y terms time s (record s { sending = sent n s.sending; notes = Sent time (Media n true k.origin k.payload) ∷ s.notes })
    (Media n true k.origin k.payload)
an_old_one p x q y terms time s n more k pq xy u l g =
    one_more p x q y terms time s t (Media n true k.origin k.payload)
    (ap (λ o. row queue o (again_of x b) (new_of p x w b)) u ∙ ap (λ a. row queue None a (new_of p x w b)) old
    ∙ ap (λ a. row queue None (n ∷ again_of y t) a) young
    ∙ ap (λ o. (media_of true n o ++ media true (again_of y t) queue) ++ media false (new_of q y w t) queue) g
    ∙ ap (λ o. Media n true k.origin k.payload ∷ row queue o (again_of y t) (new_of q y w t)) (sym u))
    (ap (λ a. sent_each (a ++ new_of p x w b) b) old ∙ ap (λ a. sent_each ((n ∷ again_of y t) ++ a) b) young)
  where
    b : Sending
    b = s.sending

    t : Sending
    t = sent n s.sending

    queue : List Queued
    queue = s.sending.queue

    w : ℕ
    w = flow_window terms.window s.notes

    old : again_of x b ≡ n ∷ again_of y t
    old = ap (λ k. take k (lost b)) xy ∙ ap (λ ns. take (suc y) ns) l ∙ ap (λ ns. n ∷ take y ns) (sym (lost_one_by_one.others b n more l))

    same : next t ≡ next b
    same = lost_one_by_one.next_stays b n more l

    young : new_of p x w b ≡ new_of q y w t
    young =
        let many = ap length old in
        ap (λ k. numbers_from (next b) k)
        (fewer_again p q (length (again_of x b)) (length (again_of y t)) w (front b) (next b) (next t) (length queue) pq many same)
        ∙ ap (λ k. numbers_from k (min (q - length (again_of y t)) (min (w - (next t - front b)) (length queue - next t)))) (sym same)

-- a new packet
pub a_new_one : (p x q y : ℕ) (terms : Terms) (time : ℕ) (s : Subscribing) (k : Queued) → p ≡ suc q → unreported s.notes ≡ None
    → again_of x s.sending ≡ [] → again_of y (sent (next s.sending) s.sending) ≡ []
    → in_flight s.sending < flow_window terms.window s.notes → next s.sending < length s.sending.queue
    → slice_get s.sending.queue (next s.sending) ≡ Some k
    → Parts p x q y terms time s
    (record s { sending = sent (next s.sending) s.sending; notes = Sent time (Media (next s.sending) false k.origin k.payload) ∷ s.notes })
    (Media (next s.sending) false k.origin k.payload)
a_new_one p x q y terms time s k pq u old older held more g =
    one_more p x q y terms time s t (Media (next b) false k.origin k.payload)
    (ap (λ o. row queue o (again_of x b) (new_of p x w b)) u ∙ ap (λ a. row queue None a (new_of p x w b)) old
    ∙ ap (λ a. row queue None [] a) young ∙ ap (λ o. media_of false (next b) o ++ media false (new_of q y w t) queue) g
    ∙ ap (λ a. Media (next b) false k.origin k.payload ∷ row queue None a (new_of q y w t)) (sym older)
    ∙ ap (λ o. Media (next b) false k.origin k.payload ∷ row queue o (again_of y t) (new_of q y w t)) (sym u))
    (ap (λ a. sent_each (a ++ new_of p x w b) b) old ∙ ap (λ a. sent_each a b) young ∙ ap (λ a. sent_each (a ++ new_of q y w t) t) (sym older))
  where
    b : Sending
    b = s.sending

    t : Sending
    t = sent (next s.sending) s.sending

    queue : List Queued
    queue = s.sending.queue

    w : ℕ
    w = flow_window terms.window s.notes

    on : next t ≡ next b + 1
    on = new_one_by_one.goes_on b

    young : new_of p x w b ≡ next b ∷ new_of q y w t
    young =
        let few = ap length old in
        let few_too = ap length older in
        let above : front b ≤ next b = omega arith in
        ap (λ k. numbers_from (next b) (min (p - k) (min (w - (next b - front b)) (length queue - next b)))) few
        ∙ ap (λ k. numbers_from (next b) k) (fewer_new p q w (front b) (next b) (next t) (length queue) pq on above held more)
        ∙ ap (λ k. next b ∷ numbers_from k (min (q - 0) (min (w - (next t - front b)) (length queue - next t)))) (sym on)
        ∙ ap (λ k. next b ∷ numbers_from (next t) (min (q - k) (min (w - (next t - front b)) (length queue - next t)))) (sym few_too)

pub there_is : (xs : List Queued) (n : ℕ) → n < length xs → (x : Queued) × (slice_get xs n ≡ Some x)
there_is [] n lt = absurd (omega (arith, lt))
there_is (x ∷ xs) zero lt = (x, refl)
there_is (x ∷ xs) (suc n) lt = there_is xs n (omega (arith, lt))

-- a data packet that is due
media_is : (p x q y : ℕ) (terms : Terms) (time : ℕ) (s : Subscribing) (d : Due) (again : Bool) (n : ℕ) (k : Queued)
    → due_for n again (Some k) ≡ Some d
    → Parts p x q y terms time s (record s { sending = sent n s.sending; notes = Sent time (Media n again k.origin k.payload) ∷ s.notes })
    (Media n again k.origin k.payload)
    → Parts p x q y terms time s (with_due time (Some d) s) (Media d.number d.again d.origin d.payload)
media_is p x q y terms time s d again n k f h =
    let given : Due = record { number = n; again = again; origin = k.origin; payload = k.payload } in
    let same : given ≡ d = cc in
    subst (λ (z : Due). Parts p x q y terms time s (with_due time (Some z) s) (Media z.number z.again z.origin z.payload)) same h

-- a new packet, if none is sent again before it or after it
a_new_media : (p x q : ℕ) (terms : Terms) (time : ℕ) (s : Subscribing) (d : Due) → p ≡ suc q → unreported s.notes ≡ None
    → again_of x s.sending ≡ [] → due_new (flow_window terms.window s.notes) s.sending ≡ Some d
    → Parts p x q 0 terms time s (with_due time (Some d) s) (Media d.number d.again d.origin d.payload)
a_new_media p x q terms time s d pq u old e =
    fresh (nat_lt (in_flight s.sending) w) (nat_lt (next s.sending) (length s.sending.queue)) refl refl e
  where
    w : ℕ
    w = flow_window terms.window s.notes

    fresh : (a b : Bool) → nat_lt (in_flight s.sending) w ≡ a → nat_lt (next s.sending) (length s.sending.queue) ≡ b
        → due_at s.sending.queue (if a && b then Some (next s.sending, false) else None) ≡ Some d
        → Parts p x q 0 terms time s (with_due time (Some d) s) (Media d.number d.again d.origin d.payload)
    fresh true true f g k =
        let held = ltb-true _ _ f in
        let more = ltb-true _ _ g in
        let z = there_is s.sending.queue (next s.sending) more in
        media_is p x q 0 terms time s d false (next s.sending) z.0 (sym (ap (due_for (next s.sending) false) z.1) ∙ k)
        (a_new_one p x q 0 terms time s z.0 pq u old refl held more z.1)
    fresh true false f g k = absurd cc
    fresh false b f g k = absurd cc

-- a new packet wasn't sent before
pub new_is_new : (w : ℕ) (s : Sending) (d : Due) → due_new w s ≡ Some d → d.again ≡ false
new_is_new w s d e = by (nat_lt (in_flight s) w && nat_lt (next s) (length s.queue)) e
  where
    found : (o : Option Queued) → due_for (next s) false o ≡ Some d → d.again ≡ false
    found None k = absurd cc
    found (Some q) k =
        let given : Due = record { number = next s; again = false; origin = q.origin; payload = q.payload } in
        let same : given ≡ d = cc in
        sym (ap (λ (z : Due). z.again) same)

    by : (b : Bool) → due_at s.queue (if b then Some (next s, false) else None) ≡ Some d → d.again ≡ false
    by true k = found (slice_get s.queue (next s)) k
    by false k = absurd cc

-- the packets that may be sent again after a data packet
abbrev left_after : Phase → Option ℕ → (time places : ℕ) → Due → List Note → ℕ
left_after phase percent time places d notes =
    resends_in (if d.again then phase else New) percent places (Sent time (Media d.number d.again d.origin d.payload) ∷ notes)

none_left : (phase : Phase) (percent : Option ℕ) (time q : ℕ) (d : Due) (notes : List Note) → d.again ≡ false → left_after phase percent time q d notes ≡ 0
none_left phase percent time q d notes e =
    ap (λ (b : Bool). resends_in (if b then phase else New) percent q (Sent time (Media d.number d.again d.origin d.payload) ∷ notes)) e

pub a_media : (p q : ℕ) (phase : Phase) (terms : Terms) (time : ℕ) (s : Subscribing) (d : Due) → p ≡ suc q → unreported s.notes ≡ None
    → next s.sending ≤ length s.sending.queue
    → next_in (phase_now phase terms.resend_percent s.notes) (flow_window terms.window s.notes) s.sending ≡ Some d
    → Parts p (resends_in phase terms.resend_percent p s.notes) q (left_after phase terms.resend_percent time q d s.notes) terms time s
    (with_due time (Some d) s) (Media d.number d.again d.origin d.payload)
a_media p q New terms time s d pq u le e =
    let w = flow_window terms.window s.notes in
    subst (λ (y : ℕ). Parts p 0 q y terms time s (with_due time (Some d) s) (Media d.number d.again d.origin d.payload))
    (sym (none_left New terms.resend_percent time q d s.notes (new_is_new w s.sending d e))) (a_new_media p 0 q terms time s d pq u refl e)
a_media p q Lost terms time s d pq u le e = by (may_resend percent s.notes) refl e
  where
    percent : Option ℕ
    percent = terms.resend_percent

    w : ℕ
    w = flow_window terms.window s.notes

    x : ℕ
    x = resends percent p s.notes

    Goal : ℕ → Type 0
    Goal y = Parts p x q y terms time s (with_due time (Some d) s) (Media d.number d.again d.origin d.payload)

    -- none is lost, or none may be sent again
    new : again_of x s.sending ≡ [] → due_new w s.sending ≡ Some d → Goal (left_after Lost percent time q d s.notes)
    new none k = subst Goal (sym (none_left Lost percent time q d s.notes (new_is_new w s.sending d k))) (a_new_media p x q terms time s d pq u none k)

    among : may_resend percent s.notes ≡ true → (ns : List ℕ) → lost s.sending ≡ ns → due_at s.sending.queue (due_number w ns s.sending) ≡ Some d
        → Goal (left_after Lost percent time q d s.notes)
    among may (n ∷ more) l k =
        let on = lost_one_by_one.next_stays s.sending n more l in
        let z = there_is s.sending.queue n (omega (arith, on, le)) in
        let at = sym (ap (due_for n true) z.1) ∙ k in
        let given : Due = record { number = n; again = true; origin = z.0.origin; payload = z.0.payload } in
        let same : given ≡ d = cc in
        let one = ap (λ k. resends percent k s.notes) pq ∙ resends_one percent q time n z.0.origin z.0.payload s.notes may in
        subst (λ (g : Due). Parts p x q (left_after Lost percent time q g s.notes) terms time s (with_due time (Some g) s)
        (Media g.number g.again g.origin g.payload)) same
        (an_old_one p x q (resends percent q (Sent time (Media n true z.0.origin z.0.payload) ∷ s.notes)) terms time s n more z.0 pq one u l z.1)
    among may [] l k = new (ap (take x) l ∙ none_taken x) k

    by : (b : Bool) → may_resend percent s.notes ≡ b → next_in (if b then Lost else New) w s.sending ≡ Some d
        → Goal (left_after Lost percent time q d s.notes)
    by true may k = among may (lost s.sending) refl k
    by false may k = new (ap (λ n. take n (lost s.sending)) (resends_none percent p s.notes may)) k

-- no data packet is due
pub record IsNone (p x : ℕ) (terms : Terms) (s : Subscribing) : Type 0 where
  pub old : again_of x s.sending ≡ []
  pub new : new_of p x (flow_window terms.window s.notes) s.sending ≡ []

pub some_there : (n : ℕ) (again : Bool) (o : Option Queued) (x : Queued) → o ≡ Some x → due_for n again o ≡ None → ⊥
some_there n again None x e f = cc
some_there n again (Some y) x e f = cc

-- no new packet is due
no_new_there : (w : ℕ) (s : Sending) → due_new w s ≡ None → min (w - (next s - front s)) (length s.queue - next s) ≡ 0
no_new_there w s e = fresh (nat_lt (in_flight s) w) (nat_lt (next s) (length s.queue)) refl refl e
  where
    fresh : (a b : Bool) → nat_lt (in_flight s) w ≡ a → nat_lt (next s) (length s.queue) ≡ b
        → due_at s.queue (if a && b then Some (next s, false) else None) ≡ None
        → min (w - (next s - front s)) (length s.queue - next s) ≡ 0
    fresh true true f g k =
        let more = ltb-true _ _ g in
        let y = there_is s.queue (next s) more in
        absurd (some_there (next s) false (slice_get s.queue (next s)) y.0 y.1 k)
    fresh true false f g k = let h : length s.queue ≤ next s = grind (arith, nat_tests, g) in omega (arith, h)
    fresh false b f g k = let h : w ≤ in_flight s = grind (arith, nat_tests, f) in omega (arith, h)

none_new : (p x : ℕ) (terms : Terms) (s : Subscribing) → again_of x s.sending ≡ []
    → min (flow_window terms.window s.notes - (next s.sending - front s.sending)) (length s.sending.queue - next s.sending) ≡ 0
    → IsNone p x terms s
none_new p x terms s old none =
    let zero_more : min (p - length (again_of x s.sending))
    (min (flow_window terms.window s.notes - (next s.sending - front s.sending)) (length s.sending.queue - next s.sending))
    ≡ 0 =
    omega (arith, none) in
    record { old = old; new = ap (λ k. numbers_from (next s.sending) k) zero_more }

resends_in_few : (phase : Phase) (percent : Option ℕ) (places : ℕ) (notes : List Note) → resends_in phase percent places notes ≤ places
resends_in_few New percent places notes = omega arith
resends_in_few Lost percent places notes = resends_few percent places notes

no_places : (x : ℕ) (terms : Terms) (s : Subscribing) → x ≤ 0 → IsNone 0 x terms s
no_places x terms s le =
    let zero_x : x ≡ 0 = omega (arith, le) in
    let none : min (0 - length (again_of x s.sending))
    (min (flow_window terms.window s.notes - (next s.sending - front s.sending)) (length s.sending.queue - next s.sending))
    ≡ 0 =
    omega arith in
    record { old = ap (λ k. take k (lost s.sending)) zero_x; new = ap (λ k. numbers_from (next s.sending) k) none }

no_media_in : (p : ℕ) (phase : Phase) (terms : Terms) (s : Subscribing) → next s.sending ≤ length s.sending.queue
    → next_in (phase_now phase terms.resend_percent s.notes) (flow_window terms.window s.notes) s.sending ≡ None
    → IsNone p (resends_in phase terms.resend_percent p s.notes) terms s
no_media_in p New terms s le e = none_new p 0 terms s refl (no_new_there (flow_window terms.window s.notes) s.sending e)
no_media_in p Lost terms s le e = by (may_resend percent s.notes) refl e
  where
    percent : Option ℕ
    percent = terms.resend_percent

    w : ℕ
    w = flow_window terms.window s.notes

    x : ℕ
    x = resends percent p s.notes

    among : (ns : List ℕ) → lost s.sending ≡ ns → due_at s.sending.queue (due_number w ns s.sending) ≡ None → IsNone p x terms s
    among (n ∷ more) l k =
        let on = lost_one_by_one.next_stays s.sending n more l in
        let y = there_is s.sending.queue n (omega (arith, on, le)) in
        absurd (some_there n true (slice_get s.sending.queue n) y.0 y.1 k)
    among [] l k = none_new p x terms s (ap (take x) l ∙ none_taken x) (no_new_there w s.sending k)

    by : (b : Bool) → may_resend percent s.notes ≡ b → next_in (if b then Lost else New) w s.sending ≡ None → IsNone p x terms s
    by true may k = among (lost s.sending) refl k
    by false may k =
        none_new p x terms s (ap (λ n. take n (lost s.sending)) (resends_none percent p s.notes may)) (no_new_there w s.sending k)

pub no_media : (p : ℕ) (phase : Phase) (terms : Terms) (s : Subscribing) → next s.sending ≤ length s.sending.queue
    → due_in p phase terms s ≡ None → IsNone p (resends_in phase terms.resend_percent p s.notes) terms s
no_media zero phase terms s le e =
    no_places (resends_in phase terms.resend_percent 0 s.notes) terms s (resends_in_few phase terms.resend_percent 0 s.notes)
no_media (suc q) phase terms s le e =
    no_media_in (suc q) phase terms s le (let b : (suc q == 0) ≡ false = ne_eqb _ _ (λ x. omega (arith, x)) in rw b at e)

nothing_due : (p x : ℕ) (terms : Terms) (s : Subscribing) → unreported s.notes ≡ None → IsNone p x terms s → due_of p x terms s ≡ []
nothing_due p x terms s u h =
    ap (λ o. row s.sending.queue o (again_of x s.sending) (new_of p x (flow_window terms.window s.notes) s.sending)) u
    ∙ ap (λ a. row s.sending.queue None a (new_of p x (flow_window terms.window s.notes) s.sending)) h.old
    ∙ ap (λ a. row s.sending.queue None [] a) h.new

nothing_sent : (p x : ℕ) (terms : Terms) (s : Subscribing)
    → IsNone p x terms s → sent_each (again_of x s.sending ++ new_of p x (flow_window terms.window s.notes) s.sending) s.sending ≡ s.sending
nothing_sent p x terms s h =
    ap (λ a. sent_each (a ++ new_of p x (flow_window terms.window s.notes) s.sending) s.sending) h.old ∙ ap (λ a. sent_each a s.sending) h.new

-- a KEEPALIVE
pub a_keep_alive : (p x : ℕ) (terms : Terms) (time : ℕ) (s : Subscribing) → unreported s.notes ≡ None → IsNone p x terms s
    → keep_alives time [] s.notes ≡ KeepAlive ∷ []
    → Parts p x p x terms time s (record s { notes = Sent time KeepAlive ∷ s.notes }) KeepAlive
unfolding made
a_keep_alive p x terms time s u h k =
    let due_none = nothing_due p x terms s u h in
    let after : Subscribing = record s { notes = Sent time KeepAlive ∷ s.notes } in
    let one : reports_of p x terms time s ≡ KeepAlive ∷ [] = ap (λ d. d ++ keep_alives time d s.notes) due_none ∙ k in
    let none : reports_of p x terms time after ≡ [] =
    ap (λ d. d ++ keep_alives time d (Sent time KeepAlive ∷ s.notes)) due_none ∙ quiet time [] KeepAlive s.notes in
    let sending = sent_each (again_of x s.sending ++ new_of p x (flow_window terms.window s.notes) s.sending) s.sending in
    let whole : made s.given_up sending (noted time (reports_of p x terms time s) s.notes)
    ≡ made s.given_up sending (noted time (reports_of p x terms time after) (Sent time KeepAlive ∷ s.notes)) =
    ap (λ rs. made s.given_up sending (noted time rs s.notes)) one
    ∙ sym (ap (λ rs. made s.given_up sending (noted time rs (Sent time KeepAlive ∷ s.notes))) none) in
    record { reports_are = one ∙ ap (λ rs. KeepAlive ∷ rs) (sym none); end_is = whole }

-- no packet remains
pub record IsOver (p x : ℕ) (terms : Terms) (time : ℕ) (s : Subscribing) : Type 0 where
  pub reports_are : reports_of p x terms time s ≡ []
  pub end_is : sent_of p x terms time s ≡ s

pub over : (p x : ℕ) (terms : Terms) (time : ℕ) (s : Subscribing)
    → unreported s.notes ≡ None → IsNone p x terms s → keep_alives time [] s.notes ≡ [] → IsOver p x terms time s
unfolding made
over p x terms time s u h k =
    let due_none = nothing_due p x terms s u h in
    let none : reports_of p x terms time s ≡ [] = ap (λ d. d ++ keep_alives time d s.notes) due_none ∙ k in
    let sending = sent_each (again_of x s.sending ++ new_of p x (flow_window terms.window s.notes) s.sending) s.sending in
    let whole : made s.given_up sending (noted time (reports_of p x terms time s) s.notes) ≡ made s.given_up s.sending s.notes =
    ap (λ rs. made s.given_up sending (noted time rs s.notes)) none ∙ ap (λ z. made s.given_up z s.notes) (nothing_sent p x terms s h) in
    record { reports_are = none; end_is = whole }

-- after too-late packets were dropped, the credit was raised, and packets in flight were marked as lost if due
pub record IsSettled (terms : Terms) (time : ℕ) (recent : Bool) (s : Subscribing) : Type 0 where
  pub fresh : expired_in terms.mode terms time s.sending ≡ s.sending
  pub paid : renewal_due terms.resend_percent time s.notes ≡ false
  pub calm : resend_due terms time recent s ≡ false

pub settled_stays : (terms : Terms) (time : ℕ) (recent : Bool) (s : Subscribing)
    → IsSettled terms time recent s → prepared terms time recent (expired terms time s) ≡ s
unfolding made
settled_stays terms time recent s h =
    ap (prepared terms time recent) (none_given_up s (expired_in terms.mode terms time s.sending) h.fresh)
    ∙ ap (λ ns. presumed terms time recent (made s.given_up s.sending ns)) (not_renewed terms.resend_percent time s.notes h.paid)
    ∙ ap (λ b. if b then made s.given_up (all_lost s.sending) (Presumed ∷ s.notes) else made s.given_up s.sending s.notes) h.calm

abbrev with_expired : Sending → ℕ → Sending
with_expired s n = record s { expired = n }

fresh_lost : (mode : Mode) (terms : Terms) (time : ℕ) (s : Sending) → expired_in mode terms time s ≡ s → expired_in mode terms time (all_lost s) ≡ all_lost s
fresh_lost Live terms time s e = ap (λ x. with_expired (all_lost s) x.expired) e
fresh_lost Buffer terms time s e = refl

fresh_sent : (mode : Mode) (terms : Terms) (time n : ℕ) (s : Sending) → expired_in mode terms time s ≡ s → expired_in mode terms time (sent n s) ≡ sent n s
fresh_sent Live terms time n s e = ap (sent n) e
fresh_sent Buffer terms time n s e = refl

false_last : (a : Bool) → (a && false) ≡ false
false_last true = refl
false_last false = refl

pub false_first : (a b c : Bool) → b ≡ false → ((a && b) && c) ≡ false
false_first true b c e = rw e refl
false_first false b c e = refl

all_are_lost : (s : Sending) → front s < next s → (length (lost (all_lost s)) == 0) ≡ false
all_are_lost s lt =
    let places : in_flight s ≡ suc (in_flight s - 1) = omega (arith, lt) in
    let here : is_in_span (front s) (next s) (front s) ≡ true = grind (arith, nat_tests, lt) in
    let test : ℕ → Bool = is_marked (All_of (front s) (next s) ∷ s.marks) in
    let first : test (front s) ≡ true = rw here refl in
    let some : filter test (numbers_from (front s) (suc (in_flight s - 1)))
    ≡ front s ∷ filter test (numbers_from (front s + 1) (in_flight s - 1)) =
    rw first refl in
    let all = ap length (ap (λ k. filter test (numbers_from (front s) k)) places ∙ some) in
    ne_eqb _ _ (λ e. omega (arith, all, e))

pub settled : (terms : Terms) (time : ℕ) (recent : Bool) (s : Subscribing)
    → IsSettled terms time recent (prepared terms time recent (expired terms time s))
settled terms time recent s = by (resend_due terms time recent t) refl
  where
    t : Subscribing
    t = renewed terms time (expired terms time s)

    fresh : expired_in terms.mode terms time t.sending ≡ t.sending
    fresh = fresh_twice terms.mode terms time s.sending

    stale : resend_due terms time recent t ≡ true → front t.sending < next t.sending
    stale e = grind (arith, nat_tests, e)

    by : (b : Bool) → resend_due terms time recent t ≡ b
        → IsSettled terms time recent (if b then record t { sending = all_lost t.sending; notes = Presumed ∷ t.notes } else t)
    by true e =
        record {
          fresh = fresh_lost terms.mode terms time t.sending fresh;
          paid = renewal_presumed terms.resend_percent time t.notes (renewal_once terms.resend_percent time s.notes);
          calm = false_first _ _ _ (all_are_lost t.sending (stale e));
        }
    by false e = record { fresh = fresh; paid = renewal_once terms.resend_percent time s.notes; calm = e }

-- a packet without data changes nothing of that
waited_alike : (rule : Resending) (delay time : ℕ) (recent : Bool) (later : ℕ) (r : Report) (notes : List Note)
    → is_media r ≡ false → has_waited rule delay time recent (Sent later r ∷ notes) ≡ has_waited rule delay time recent notes
waited_alike AtEachTimeout delay time recent later r notes m = rw m refl
waited_alike Once delay time recent later r notes m = rw m refl
waited_alike BackingOff delay time recent later r notes m = rw m refl

pub settled_said : (terms : Terms) (time : ℕ) (recent : Bool) (s : Subscribing) (r : Report)
    → is_media r ≡ false → IsSettled terms time recent s → IsSettled terms time recent (record s { notes = Sent time r ∷ s.notes })
settled_said terms time recent s r m h =
    record {
      fresh = h.fresh;
      paid = renewal_said terms.resend_percent time r s.notes m h.paid;
      calm = ap (λ b. (nat_lt (front s.sending) (next s.sending) && (length (lost s.sending) == 0)) && b)
          (waited_alike terms.resending terms.delay time recent time r s.notes m)
          ∙ h.calm;
    }

-- nothing is presumed lost at the time of a data packet
none_waited : (rule : Resending) (delay time : ℕ) (recent : Bool) (notes : List Note)
    → last_media notes ≡ time → has_waited rule delay time recent notes ≡ false
none_waited AtEachTimeout delay time recent notes e = grind (arith, nat_tests, e)
none_waited Once delay time recent notes e =
    let none : nat_le (max (resend_timeout notes) (delay / 2)) (quiet_time time notes) ≡ false = grind (arith, nat_tests, e) in
    ap (λ b. recent && (tries notes == 0) && b) none ∙ false_last _
none_waited BackingOff delay time recent notes e =
    let some = at_least (resend_timeout notes) (tries notes) in
    let none : nat_le (resend_timeout notes * 2 ^ min (tries notes) 6) (quiet_time time notes) ≡ false = grind (arith, nat_tests, e, some) in
    ap (λ b. recent && b) none ∙ false_last _

pub settled_gave : (terms : Terms) (time : ℕ) (recent : Bool) (n : ℕ) (s : Subscribing) (r : Report) → is_media r ≡ true
    → IsSettled terms time recent s → IsSettled terms time recent (record s { sending = sent n s.sending; notes = Sent time r ∷ s.notes })
settled_gave terms time recent n s r m h =
    let now : last_media (Sent time r ∷ s.notes) ≡ time = ap (λ b. if b then time else last_media s.notes) m in
    let none = none_waited terms.resending terms.delay time recent (Sent time r ∷ s.notes) now in
    record {
      fresh = fresh_sent terms.mode terms time n s.sending h.fresh;
      paid = renewal_gave terms.resend_percent time r s.notes m;
      calm = rw none (false_last _);
    }

-- the packet is the next one, and the others remain
pub goes_on : (terms : Terms) (initial opening caller time : ℕ) (recent : Bool) (given later : ℕ) (phase : Phase) (p : EncodedPacket) (t : Subscriber)
    (middle m after : Subscribing) (left : List Report) (r : Report)
    → later ≤ most → StandsIn terms initial opening caller time later t after → IsSettled terms time recent after
    → bytes_of p ≡ says caller initial time r → IsLeft terms time recent given phase middle m left
    → Parts (most - given) (resends_in phase terms.resend_percent (most - given) (prepared terms time recent middle).notes) (most - later)
    (resends_in t.phase terms.resend_percent (most - later) after.notes) terms time (prepared terms time recent middle) after r
    → IsNextAt terms initial opening caller time recent p t m left
goes_on terms initial opening caller time recent given later phase p t middle m after left r few stands settled said l parts =
    let stays = settled_stays terms time recent after settled in
    let again = λ (z : Subscribing). resends_in t.phase terms.resend_percent (most - later) z.notes in
    record {
      report = r;
      rest = reports_of (most - later) (again after) terms time after;
      left_is = sym l.left_is ∙ parts.reports_are;
      text_is = said;
      goes_on =
          record {
            given = later;
            middle = after;
            stands = stands;
            left_is =
                record {
                  few = few;
                  left_is = ap (λ z. reports_of (most - later) (again z) terms time z) stays;
                  end_is = ap (λ z. sent_of (most - later) (again z) terms time z) stays ∙ sym parts.end_is ∙ l.end_is;
                };
          };
    }

-- whether a packet was written
pub wrote : (b : Bool) (p : EncodedPacket) (ts : List (List ℕ)) → b ≡ true → texts (given b p) ≡ ts → bytes_of p ∷ [] ≡ ts
wrote true p ts b e = e
wrote false p ts b e = absurd cc

pub wrote_none : (b : Bool) (p : EncodedPacket) (ts : List (List ℕ)) → b ≡ false → texts (given b p) ≡ ts → [] ≡ ts
wrote_none false p ts b e = e
wrote_none true p ts b e = absurd cc

-- the bytes of the drop request that was due
pub drop_said : (o : Option Run) (f : Report → List ℕ) (t : List ℕ) → t ∷ [] ≡ map f (drops_of o) → (run : Run) × (o ≡ Some run) × (t ≡ f (Dropped run))
drop_said None f t e = absurd cc
drop_said (Some run) f t e = (run, refl, cc)

pub no_drop_said : (o : Option Run) (f : Report → List ℕ) → [] ≡ map f (drops_of o) → o ≡ None
no_drop_said None f e = refl
no_drop_said (Some run) f e = absurd cc

pub media_said : (o : Option Due) (f : Due → List ℕ) (t : List ℕ) → t ∷ [] ≡ map f (option_to_list o) → (d : Due) × (o ≡ Some d) × (t ≡ f d)
media_said None f t e = absurd cc
media_said (Some d) f t e = (d, refl, cc)

pub no_media_said : (o : Option Due) (f : Due → List ℕ) → [] ≡ map f (option_to_list o) → o ≡ None
no_media_said None f e = refl
no_media_said (Some d) f e = absurd cc

-- the one packet, if there is one
pub one_said : (rs : List Report) (f : Report → List ℕ) (t : List ℕ) (r : Report) → (rs ≡ []) ⊎ (rs ≡ r ∷ []) → t ∷ [] ≡ map f rs → (rs ≡ r ∷ []) × (t ≡ f r)
one_said rs f t r (inl none) e = let n : t ∷ [] ≡ map f [] = e ∙ ap (map f) none in absurd cc
one_said rs f t r (inr one) e = let n : t ∷ [] ≡ map f (r ∷ []) = e ∙ ap (map f) one in (one, cc)

pub none_said : (rs : List Report) (f : Report → List ℕ) (r : Report) → (rs ≡ []) ⊎ (rs ≡ r ∷ []) → [] ≡ map f rs → rs ≡ []
none_said rs f r (inl none) e = none
none_said rs f r (inr one) e = let n : [] ≡ map f (r ∷ []) = e ∙ ap (map f) one in absurd cc

pub at_most_one : (time : ℕ) (notes : List Note) → (keep_alives time [] notes ≡ []) ⊎ (keep_alives time [] notes ≡ KeepAlive ∷ [])
at_most_one time notes = by (nat_le 1_000_000 (time - last_sent notes))
  where
    by : (b : Bool) → ((if b then KeepAlive ∷ [] else []) ≡ []) ⊎ ((if b then KeepAlive ∷ [] else []) ≡ KeepAlive ∷ [])
    by true = inr refl
    by false = inl refl

-- a data packet is due only if one more may be sent
pub due_there : (p : ℕ) (phase : Phase) (terms : Terms) (s : Subscribing) (d : Due) → due_in p phase terms s ≡ Some d
    → (0 < p) × (next_in (phase_now phase terms.resend_percent s.notes) (flow_window terms.window s.notes) s.sending ≡ Some d)
due_there zero phase terms s d e = absurd cc
due_there (suc p) phase terms s d e = let b : (suc p == 0) ≡ false = ne_eqb _ _ (λ x. omega (arith, x)) in (omega arith, rw b at e)

-- the facts that hold if no drop request was written
pub record NoDrop (terms : Terms) (initial opening caller time : ℕ) (recent : Bool) (count : ℕ) (s : Subscriber) (middle m : Subscribing)
    (left : List Report) : Type 0 where
  pub silent : unreported (prepared terms time recent middle).notes ≡ None
  pub stands : StandsIn terms initial opening caller time count s (prepared terms time recent middle)
  pub left_is : IsLeft terms time recent count s.phase middle m left

pub no_drop : (terms : Terms) (initial opening caller time : ℕ) (recent : Bool) (count : ℕ) (before begun after : Subscriber) (middle m : Subscribing)
    (left : List Report) (b : Bool) (p : EncodedPacket)
    → b ≡ false → PreparesAt time recent before begun → WritesAt time begun (texts (given b p)) (λ s. drops s.notes)
    → BecomesAt time begun after (λ initial s. record s { notes = noted time (drops s.notes) s.notes }) → after.phase ≡ begun.phase
    → StandsIn terms initial opening caller time count before middle → IsLeft terms time recent count before.phase middle m left
    → NoDrop terms initial opening caller time recent count after middle m left
no_drop terms initial opening caller time recent count before begun after middle m left b p is prepares answer becomes phase h l =
    let x = prepared terms time recent middle in
    let begins = prepares terms initial opening caller count middle h in
    let silent = no_drop_said (unreported x.notes) (says caller initial time)
    (wrote_none b p _ is (answer terms initial opening caller count x begins.0)) in
    record {
      silent = silent;
      stands = subst
          (λ (o : Option Run).
          StandsIn terms initial opening caller time count after (record x { notes = noted time (drops_of o) x.notes }))
          silent (becomes terms initial opening caller count x begins.0);
      left_is = subst (λ (f : Phase). IsLeft terms time recent count f middle m left) (sym (phase ∙ begins.1)) l;
    }

-- the facts that hold if no data packet was written either
pub record NoMedia (terms : Terms) (initial opening caller time count : ℕ) (phase : Phase) (s : Subscriber) (x : Subscribing) : Type 0 where
  pub silent : unreported x.notes ≡ None
  pub none : due_in (64 - count) phase terms x ≡ None
  pub same : s.phase ≡ phase
  pub stands : StandsIn terms initial opening caller time count s x

pub no_data : (terms : Terms) (initial opening caller time : ℕ) (recent : Bool) (count : ℕ) (before after : Subscriber) (middle m : Subscribing)
    (left : List Report)
    (b : Bool) (p : EncodedPacket)
    → b ≡ false → WritesMedia time before (texts (given b p)) → SendsMedia time before after
    → NoDrop terms initial opening caller time recent count before middle m left
    → NoMedia terms initial opening caller time count before.phase after (prepared terms time recent middle)
no_data terms initial opening caller time recent count before after middle m left b p is answer sends h =
    let x = prepared terms time recent middle in
    let sent = sends terms initial opening caller count x h.stands h.left_is.few in
    let none = no_media_said (due_in (64 - count) before.phase terms x) (λ d. says caller initial time (Media d.number d.again d.origin d.payload))
    (wrote_none b p _ is (answer terms initial opening caller count x h.stands h.left_is.few)) in
    record {
      silent = h.silent;
      none = none;
      same = sent.1 ∙ ap (λ (o : Option Due). phase_after o before.phase) none;
      stands = subst (λ (o : Option Due). StandsIn terms initial opening caller time (given_with o count) after (with_due time o x)) none sent.0;
    }
