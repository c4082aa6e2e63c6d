-- What a held session sends.
use Rattle.std.proofs.Common.{◌≡◌, ℕ, zero, suc, ◌+◌, ◌-◌, ◌^◌, ◌<◌, ◌≤◌, Bool, true, false, ◌&&◌, ◌==◌, if◌then◌else◌, Option, None, Some, List, []}
use Rattle.std.proofs.Common.{◌∷◌, ◌++◌, All, min, length, refl, ap, ◌∙◌, arith}
use Rattle.std.specs.Prelude.{nat_lt, nat_le}
use Rattle.std.proofs.lemmas.List.Elements.{All-nil, All-cons}
use Rattle.srt_types.specs.Runs.{Run, numbers_from}
use Rattle.srt_sendbuf.specs.Sending.{Queued, Sending, front, next, lost, all_lost}
use Rattle.srt_sub.specs.Subscribing.{Terms, Report, Note, Renewed, Presumed, Opened, Subscribing}
use Rattle.srt_sub.specs.Subscribing.{KeepAlive, drops, drops_of, unreported, flow_window, keep_alives, last_sent}
use Rattle.srt_sub.specs.Subscribing.{media, most, again_of, new_of, due_of, reports_of, reports, resends, renewal_due, resend_due, has_waited}
use Rattle.srt_types.specs.Window.{in_window, offset_of}
use Rattle.std.proofs.lemmas.Bool.{ltb-true}
use Rattle.std.proofs.Common.{max}
use Rattle.srt_sendbuf.specs.Sending.{acknowledged_by, base}
use Rattle.srt_sub.specs.Heard.{Ack}
use Rattle.srt_sub.specs.Subscribing.{took, with_ack}
use Rattle.srt_sub.specs.Held.{LeavesTheRest, waiting, window_before, held, new_within, due_within, reports_of_within, reports_within, HoldsNewOnes}
use Rattle.srt_sub.specs.Stands.{StandsIn, NotesBecome}
use Rattle.srt_sub.specs.declared.history.History.{History}
use Rattle.srt_sub.specs.declared.session.Subscriber.{Subscriber}
use Rattle.srt_sub.specs.declared.resend_all.Resending.{Resending}
use Rattle.srt_sub.specs.declared.resend_all.Resending.TheVariants.{AtEachTimeout, Once, BackingOff}
use Rattle.srt_sub.proofs.Sound.{changed}

-- the flow window that ends before the payloads that wait lets as many new ones go as the queue without them
fewer : (p w f n l k : ℕ) → f ≤ n → min p (min (min (l - f - k) w - (n - f)) (l - n)) ≡ min p (min (w - (n - f)) (l - k - n))
fewer p w f n l k le = omega (arith, le)

new_ones : (bound places again window : ℕ) (t : Sending)
    → new_of places again (window_before bound window t) t ≡ new_within bound places again window t
new_ones bound places again window t =
    let above : front t ≤ next t = omega arith in
    ap (λ (count : ℕ). numbers_from (next t) count)
    (fewer (places - length (again_of again t)) window (front t) (next t) (length t.queue) (waiting bound t) above)

alive_alike : (time : ℕ) (due : List Report) (hs ns : List Note) → last_sent hs ≡ last_sent ns → keep_alives time due hs ≡ keep_alives time due ns
alive_alike time [] hs ns e = ap (λ (last : ℕ). if nat_le 1_000_000 (time - last) then KeepAlive ∷ [] else []) e
alive_alike time (r ∷ due) hs ns e = refl

-- notes that differ only by the flow window at their end
record AreAlike (terms : Terms) (bound : ℕ) (t : Sending) (hs ns : List Note) : Type 0 where
  asked : unreported hs ≡ unreported ns
  sent : last_sent hs ≡ last_sent ns
  credit : resends terms.resend_percent most hs ≡ resends terms.resend_percent most ns
  window : flow_window terms.window hs ≡ window_before bound (flow_window terms.window ns) t

made : ℕ → Sending → List Note → Subscribing
made given_up sending notes = record { sending = sending; notes = notes; given_up = given_up }

-- all packets, where at most this many are sent again
abbrev row : List Queued → (asked : List Report) → (old new : List ℕ) → List Report
row queue asked old new = asked ++ media true old queue ++ media false new queue

sends_alike : (terms : Terms) (time bound given_up : ℕ) (t : Sending) (hs ns : List Note) → AreAlike terms bound t hs ns
    → reports_of most (resends terms.resend_percent most hs) terms time (made given_up t hs)
    ≡ reports_of_within bound most (resends terms.resend_percent most ns) terms time (made given_up t ns)
unfolding made
sends_alike terms time bound given_up t hs ns h =
    let again = resends terms.resend_percent most ns in
    let w = flow_window terms.window ns in
    let due : due_of most again terms (made given_up t hs) ≡ due_within bound most again terms (made given_up t ns) =
    ap (λ (o : Option Run). row t.queue (drops_of o) (again_of again t) (new_of most again (flow_window terms.window hs) t)) h.asked
    ∙ ap (λ (v : ℕ). row t.queue (drops ns) (again_of again t) (new_of most again v t)) h.window
    ∙ ap (λ (new : List ℕ). row t.queue (drops ns) (again_of again t) new) (new_ones bound most again w t) in
    ap (λ (a : ℕ). reports_of most a terms time (made given_up t hs)) h.credit
    ∙ ap (λ (ds : List Report). ds ++ keep_alives time ds hs) due
    ∙ ap (λ (ks : List Report). due_within bound most again terms (made given_up t ns) ++ ks)
    (alive_alike time (due_within bound most again terms (made given_up t ns)) hs ns h.sent)

-- a flow window changes neither credit nor timeouts
renewal_alike : (percent : Option ℕ) (time w : ℕ) (ns : List Note) → renewal_due percent time (Opened w ∷ ns) ≡ renewal_due percent time ns
renewal_alike None time w ns = refl
renewal_alike (Some percent) time w ns = refl

abbrev renewed_if : Bool → (time : ℕ) → List Note → List Note
renewed_if b time ns = if b then Renewed time ∷ ns else ns

waited_alike : (rule : Resending) (delay time : ℕ) (recent : Bool) (b : Bool) (w : ℕ) (ns : List Note)
    → has_waited rule delay time recent (renewed_if b time (Opened w ∷ ns)) ≡ has_waited rule delay time recent (renewed_if b time ns)
waited_alike AtEachTimeout delay time recent true w ns = refl
waited_alike AtEachTimeout delay time recent false w ns = refl
waited_alike Once delay time recent true w ns = refl
waited_alike Once delay time recent false w ns = refl
waited_alike BackingOff delay time recent true w ns = refl
waited_alike BackingOff delay time recent false w ns = refl

-- the session at an event's end, where the credit is raised and all packets are lost or not
abbrev settled : (given_up : ℕ) → (renews loses : Bool) → (time : ℕ) → Sending → List Note → Subscribing
settled given_up renews loses time s ns =
    if loses then made given_up (all_lost s) (Presumed ∷ renewed_if renews time ns) else made given_up s (renewed_if renews time ns)

-- what is sent from there
abbrev sends : Terms → (time : ℕ) → Subscribing → List Report
sends terms time p = reports_of most (resends terms.resend_percent most p.notes) terms time p

abbrev sends_within : (bound : ℕ) → Terms → (time : ℕ) → Subscribing → List Report
sends_within bound terms time p = reports_of_within bound most (resends terms.resend_percent most p.notes) terms time p

credit_alike : (percent : Option ℕ) (renews loses : Bool) (time w : ℕ) (ns : List Note)
    → resends percent most (if loses then Presumed ∷ renewed_if renews time (Opened w ∷ ns) else renewed_if renews time (Opened w ∷ ns))
    ≡ resends percent most (if loses then Presumed ∷ renewed_if renews time ns else renewed_if renews time ns)
credit_alike None renews loses time w ns = refl
credit_alike (Some percent) true true time w ns = refl
credit_alike (Some percent) true false time w ns = refl
credit_alike (Some percent) false true time w ns = refl
credit_alike (Some percent) false false time w ns = refl

settled_alike : (terms : Terms) (time bound given_up : ℕ) (renews loses : Bool) (s : Sending) (ns : List Note)
    → sends terms time (settled given_up renews loses time s (Opened (window_before bound (flow_window terms.window ns) s) ∷ ns))
    ≡ sends_within bound terms time (settled given_up renews loses time s ns)
unfolding made
settled_alike terms time bound given_up renews loses s ns =
    by renews loses (credit_alike terms.resend_percent renews loses time w ns)
  where
    w : ℕ
    w = window_before bound (flow_window terms.window ns) s

    by : (a b : Bool)
        → resends terms.resend_percent most (if b then Presumed ∷ renewed_if a time (Opened w ∷ ns) else renewed_if a time (Opened w ∷ ns))
        ≡ resends terms.resend_percent most (if b then Presumed ∷ renewed_if a time ns else renewed_if a time ns)
        → sends terms time (settled given_up a b time s (Opened w ∷ ns)) ≡ sends_within bound terms time (settled given_up a b time s ns)
    by true true credit =
        sends_alike terms time bound given_up (all_lost s) (Presumed ∷ Renewed time ∷ Opened w ∷ ns) (Presumed ∷ Renewed time ∷ ns)
        (record { asked = refl; sent = refl; credit = credit; window = refl })
    by true false credit =
        sends_alike terms time bound given_up s (Renewed time ∷ Opened w ∷ ns) (Renewed time ∷ ns)
        (record { asked = refl; sent = refl; credit = credit; window = refl })
    by false true credit =
        sends_alike terms time bound given_up (all_lost s) (Presumed ∷ Opened w ∷ ns) (Presumed ∷ ns)
        (record { asked = refl; sent = refl; credit = credit; window = refl })
    by false false credit =
        sends_alike terms time bound given_up s (Opened w ∷ ns) ns
        (record { asked = refl; sent = refl; credit = credit; window = refl })

-- whether all packets are marked as lost
abbrev is_due : Terms → (time : ℕ) → (recent : Bool) → Sending → List Note → Bool
is_due terms time recent s ns =
    nat_lt (front s) (next s) && (length (lost s) == 0) && has_waited terms.resending terms.delay time recent ns

sends_held : (terms : Terms) (time : ℕ) (recent : Bool) (bound : ℕ) (s : Subscribing)
    → reports terms time recent (held terms bound s) ≡ reports_within bound terms time recent s
unfolding made
sends_held terms time recent bound s =
    ap (λ (b : Bool). sends terms time (settled s.given_up b (is_due terms time recent t (renewed_if b time (Opened w ∷ ns))) time t (Opened w ∷ ns)))
    (renewal_alike terms.resend_percent time w ns)
    ∙ ap (λ (b : Bool). sends terms time (settled s.given_up renews b time t (Opened w ∷ ns)))
    (ap (λ (b : Bool). nat_lt (front t) (next t) && (length (lost t) == 0) && b)
    (waited_alike terms.resending terms.delay time recent renews w ns))
    ∙ settled_alike terms time bound s.given_up renews (is_due terms time recent t (renewed_if renews time ns)) t ns
  where
    t : Sending
    t = s.sending

    ns : List Note
    ns = s.notes

    w : ℕ
    w = window_before bound (flow_window terms.window s.notes) s.sending

    renews : Bool
    renews = renewal_due terms.resend_percent time s.notes

-- numbers below a bound
all_below : (bound from count : ℕ) → (0 < count → from + count ≤ bound) → All (λ n. n < bound) (numbers_from from count)
all_below bound from zero within = All-nil (λ (n : ℕ). n < bound)
all_below bound from (suc count) within =
    let end : from + suc count ≤ bound = within (omega arith) in
    All-cons (λ (n : ℕ). n < bound) from (numbers_from (from + 1) count) (omega (arith, end))
    (all_below bound (from + 1) count (λ some. omega (arith, end)))

ends_within : (a b l n bound : ℕ) → l < 2 ^ 64
    → 0 < min a (min b (l - (min l (2 ^ 64 - 1) - bound) - n)) → n + min a (min b (l - (min l (2 ^ 64 - 1) - bound) - n)) ≤ bound
ends_within a b l n bound few some = omega (arith, few, some)

new_below : (bound places again window : ℕ) (s : Sending) → length s.queue < 2 ^ 64 → All (λ n. n < bound) (new_within bound places again window s)
new_below bound places again window s few =
    all_below bound (next s)
    (min (places - length (again_of again s)) (min (window - (next s - front s)) (length s.queue - waiting bound s - next s)))
    (ends_within (places - length (again_of again s)) (window - (next s - front s)) (length s.queue) (next s) bound few)

-- a bound that no payload has reached
none_waits : (a b l n bound : ℕ) → l ≤ bound → min a (min b (l - (min l (2 ^ 64 - 1) - bound) - n)) ≡ min a (min b (l - n))
none_waits a b l n bound le = omega (arith, le)

all_go : (terms : Terms) (time bound again given_up : ℕ) (t : Sending) (ns : List Note) → length t.queue ≤ bound
    → reports_of_within bound most again terms time (made given_up t ns) ≡ reports_of most again terms time (made given_up t ns)
unfolding made
all_go terms time bound again given_up t ns le =
    let w = flow_window terms.window ns in
    let new : new_within bound most again w t ≡ new_of most again w t =
    ap (λ (count : ℕ). numbers_from (next t) count)
    (none_waits (most - length (again_of again t)) (w - (next t - front t)) (length t.queue) (next t) bound le) in
    ap (λ (ds : List Report). ds ++ keep_alives time ds ns)
    (ap (λ (ks : List ℕ). row t.queue (drops ns) (again_of again t) ks) new)

all_sent : (terms : Terms) (time : ℕ) (recent : Bool) (bound : ℕ) (s : Subscribing)
    → length s.sending.queue ≤ bound → reports_within bound terms time recent s ≡ reports terms time recent s
unfolding made
all_sent terms time recent bound s le =
    by (renewal_due terms.resend_percent time s.notes) (resend_due terms time recent (made s.given_up s.sending (renewed_if renews time s.notes)))
  where
    renews : Bool
    renews = renewal_due terms.resend_percent time s.notes

    by : (a b : Bool)
        → sends_within bound terms time (settled s.given_up a b time s.sending s.notes)
        ≡ sends terms time (settled s.given_up a b time s.sending s.notes)
    by true true =
        let ns = Presumed ∷ Renewed time ∷ s.notes in
        all_go terms time bound (resends terms.resend_percent most ns) s.given_up (all_lost s.sending) ns le
    by true false =
        let ns = Renewed time ∷ s.notes in
        all_go terms time bound (resends terms.resend_percent most ns) s.given_up s.sending ns le
    by false true =
        let ns = Presumed ∷ s.notes in
        all_go terms time bound (resends terms.resend_percent most ns) s.given_up (all_lost s.sending) ns le
    by false false = all_go terms time bound (resends terms.resend_percent most s.notes) s.given_up s.sending s.notes le

pub holds_new_ones : HoldsNewOnes
holds_new_ones = record { sends = sends_held; below = new_below; all = all_sent }

-- an ACK's number is at most the next new one
in_reach : (word low count : ℕ) (n : ℕ) → in_window word low (count + 1) ≡ Some n → n ≤ low + count
unfolding in_window
in_reach word low count n e =
    by (nat_lt word (2 ^ 31)) (nat_lt (offset_of word low) (count + 1)) refl e
  where
    by : (a b : Bool) → nat_lt (offset_of word low) (count + 1) ≡ b → (if a && b then Some (low + offset_of word low) else None) ≡ Some n
        → n ≤ low + count
    by true true f k = let near = ltb-true _ _ f in let same : low + offset_of word low ≡ n = cc in omega (arith, near, same)
    by true false f k = absurd cc
    by false b f k = absurd cc

acked_at_most : (time : ℕ) (more : List ℕ) (o : Option ℕ) (s : Subscribing)
    → ((n : ℕ) → o ≡ Some n → n ≤ next s.sending) → (with_ack time more o s).sending.acked ≤ max s.sending.acked (next s.sending)
acked_at_most time more None s h = omega arith
acked_at_most time more (Some n) s h = let le = h n refl in omega (arith, le)

only_sent : (time mark number : ℕ) (more : List ℕ) (s : Subscribing)
    → (took time (Ack mark number more) s).sending.acked ≤ max s.sending.acked (next s.sending)
only_sent time mark number more s =
    acked_at_most time more (acknowledged_by number s.sending) s
    (λ n e. let le = in_reach number (base s.sending) (next s.sending - base s.sending) n e in
    omega (arith, le))

pub leaves_the_rest : LeavesTheRest
leaves_the_rest =
    record {
      holding = λ terms bound s. (refl, refl);
      releasing = λ window s. (refl, refl);
      expires = λ terms time bound s. (refl, refl);
      acknowledged = only_sent;
    }

-- the session with another flow window
pub reopened : (terms : Terms) (initial opening caller time given : ℕ) (s : Subscriber) (m : Subscribing)
    → StandsIn terms initial opening caller time given s m → (after : History) (w : ℕ) → NotesBecome s.history after (λ notes. Opened w ∷ notes)
    → StandsIn terms initial opening caller time given (record s { history = after }) (record m { notes = Opened w ∷ m.notes })
reopened terms initial opening caller time given s m h after w becomes =
    changed terms initial opening caller time given s m h time given s.given s.buffer after (record m { notes = Opened w ∷ m.notes }) h.given_is
    h.buffer_is (becomes initial terms m.notes h.history_is) h.sound s.counts h.counts_are h.phase_is h.credited
