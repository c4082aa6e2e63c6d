-- The data packet that is due in the session, from the buffer's result.
use Rattle.std.proofs.Common.{◌≡◌, ℕ, zero, suc, ◌<◌, ◌≤◌, Bool, true, false, ◌&&◌, if◌then◌else◌, Option, None, Some, List, [], ◌∷◌}
use Rattle.std.proofs.Common.{length, refl, sym, ap, ◌∙◌, arith}
use Rattle.std.specs.Prelude.{All, option_map, slice_get, nat_lt}
use Rattle.std.proofs.lemmas.Bool.{ltb-true}
use Rattle.std.proofs.lemmas.List.Elements.{All-head, All-tail}
use Rattle.srt_sendbuf.specs.Sending.{Queued, Sending, next, in_flight, lost, sent, Due, due, due_at, due_new, due_number, sent_number, after_due}
use Rattle.srt_sendbuf.specs.Sending.{due_of as due_for}
use Rattle.srt_sendbuf.specs.Outgoing.{Outgoing, outgoing}
use Rattle.srt_sendbuf.specs.Stands as places
use Rattle.srt_sendbuf.specs.declared.buffer.SendBuf.{SendBuf}
use Rattle.srt_sendbuf.proofs.OneByOne.{lost_one_by_one}
use Rattle.srt_sub.specs.inside.Turns.{after_next, next_in, sends_lost}
use Rattle.srt_sub.specs.declared.session.Phase.{Phase}
use Rattle.srt_sub.specs.declared.session.Phase.TheVariants.{Lost, New}
use Rattle.srt_sub.proofs.Counting.{again_is}
use Rattle.srt_sub.proofs.Turns.{there_is, some_there, new_is_new}

-- a number that was sent was queued
pub sent_in_queue : (width initial : ℕ) (b : SendBuf) (r : Sending) → places.StandsFor width initial b r → next r ≤ length r.queue
sent_in_queue width initial b r h = let i = b.sent_in in let q = h.fields.queued_is in let n = h.fields.flying_is in omega (arith, i, q, n)

pub next_outgoing : (initial : ℕ) (o : Option Due) (t : Outgoing) → Some t ≡ option_map (outgoing initial) o
    → (d : Due) × (o ≡ Some d) × (t ≡ outgoing initial d)
next_outgoing initial None t e = absurd cc
next_outgoing initial (Some d) t e = (d, refl, cc)

pub none_outgoing_due : (initial : ℕ) (o : Option Due) → None ≡ option_map (outgoing initial) o → o ≡ None
none_outgoing_due initial None e = refl
none_outgoing_due initial (Some d) e = absurd cc

abbrev number : Sending → Bool → Option (ℕ × Bool)
number s b = if b then Some (next s, false) else None

-- if no packet is due, no number is due
new_none : (w : ℕ) (s : Sending) → due_new w s ≡ None → due_number w [] s ≡ None
new_none w s e = fresh (nat_lt (in_flight s) w) (nat_lt (next s) (length s.queue)) refl refl e
  where
    fresh : (a b : Bool) → nat_lt (in_flight s) w ≡ a → nat_lt (next s) (length s.queue) ≡ b → due_at s.queue (number s (a && b)) ≡ None
        → number s (a && b) ≡ None
    fresh true true f g k =
        let y = there_is s.queue (next s) (ltb-true _ _ g) in
        absurd (some_there (next s) false (slice_get s.queue (next s)) y.0 y.1 k)
    fresh true false f g k = refl
    fresh false b f g k = refl

pub number_none : (w : ℕ) (s : Sending) → next s ≤ length s.queue → due w s ≡ None → due_number w (lost s) s ≡ None
number_none w s le e = among (lost s) refl
  where
    among : (ns : List ℕ) → lost s ≡ ns → due_number w (lost s) s ≡ None
    among (n ∷ more) l =
        let k : due_at s.queue (Some (n, true)) ≡ None = sym (ap (λ ns. due_at s.queue (due_number w ns s)) l) ∙ e in
        let on = lost_one_by_one.next_stays s n more l in
        let y = there_is s.queue n (omega (arith, on, le)) in
        absurd (some_there n true (slice_get s.queue n) y.0 y.1 k)
    among [] l =
        let k : due_at s.queue (due_number w [] s) ≡ None = sym (ap (λ ns. due_at s.queue (due_number w ns s)) l) ∙ e in
        ap (λ ns. due_number w ns s) l ∙ new_none w s k

pub nothing_due_sent : (w : ℕ) (s : Sending) → next s ≤ length s.queue → due w s ≡ None → after_due w s ≡ s
nothing_due_sent w s le e = ap (λ o. sent_number o s) (number_none w s le e)

got : (s : Sending) (n : ℕ) (again : Bool) (o : Option Queued) (d : Due) → slice_get s.queue n ≡ o → due_for n again o ≡ Some d
    → (n ≡ d.number) × ((q : Queued) × (slice_get s.queue n ≡ Some q) × (q.payload ≡ d.payload))
got s n again None d g e = absurd cc
got s n again (Some q) d g e =
    let x : Due = record { number = n; again = again; origin = q.origin; payload = q.payload } in
    let same : x ≡ d = cc in
    (ap (λ y. y.number) same, (q, g, ap (λ y. y.payload) same))

-- the next packet was queued, and is recorded as sent
number_sent : (s : Sending) (d : Due) (o : Option (ℕ × Bool)) → due_at s.queue o ≡ Some d → sent_number o s ≡ sent d.number s
number_sent s d None k = absurd cc
number_sent s d (Some p) k = let g = got s p.0 p.1 (slice_get s.queue p.0) d refl k in ap (λ n. sent n s) g.0

some_at : (xs : List Queued) (n : ℕ) (q : Queued) → All (λ q. 0 < length q.payload) xs → slice_get xs n ≡ Some q → 0 < length q.payload
some_at [] n q a e = absurd cc
some_at (x ∷ xs) zero q a e = let same : x ≡ q = cc in let h = All-head (λ q. 0 < length q.payload) x xs a in omega (arith, h, ap (λ y. length y.payload) same)
some_at (x ∷ xs) (suc n) q a e = some_at xs n q (All-tail (λ q. 0 < length q.payload) x xs a) e

number_some : (s : Sending) (d : Due) (o : Option (ℕ × Bool)) → All (λ q. 0 < length q.payload) s.queue → due_at s.queue o ≡ Some d → 0 < length d.payload
number_some s d None a k = absurd cc
number_some s d (Some p) a k =
    let g = (got s p.0 p.1 (slice_get s.queue p.0) d refl k).1 in
    let h = some_at s.queue p.0 g.0 a g.1 in
    omega (arith, h, ap (λ (xs : List ℕ). length xs) g.2)

-- the same in each phase
pub nothing_next_sent : (phase : Phase) (w : ℕ) (s : Sending) → next s ≤ length s.queue → next_in phase w s ≡ None → after_next phase w s ≡ s
nothing_next_sent Lost w s le e = nothing_due_sent w s le e
nothing_next_sent New w s le e = ap (λ o. sent_number o s) (new_none w s e)

pub next_sent : (phase : Phase) (w : ℕ) (s : Sending) (d : Due) → next_in phase w s ≡ Some d → after_next phase w s ≡ sent d.number s
next_sent Lost w s d e = number_sent s d (due_number w (lost s) s) e
next_sent New w s d e = number_sent s d (due_number w [] s) e

pub next_some : (phase : Phase) (w : ℕ) (s : Sending) (d : Due)
    → All (λ q. 0 < length q.payload) s.queue → next_in phase w s ≡ Some d → 0 < length d.payload
next_some Lost w s d a e = number_some s d (due_number w (lost s) s) a e
next_some New w s d a e = number_some s d (due_number w [] s) a e

pub next_again : (phase : Phase) (w : ℕ) (s : Sending) (d : Due) → next_in phase w s ≡ Some d → d.again ≡ sends_lost phase s
next_again Lost w s d e = again_is w s d e
next_again New w s d e = new_is_new w s d e
