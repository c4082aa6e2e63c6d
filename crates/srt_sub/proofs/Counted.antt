-- The number of packets that an event sends.
use Rattle.std.proofs.Common.{◌≡◌, ℕ, zero, suc, ◌+◌, ◌-◌, ◌≤◌, ◌==◌, min, Bool, true, false, if◌then◌else◌, Option, None, Some, List, []}
use Rattle.std.proofs.Common.{◌∷◌, ◌++◌, length, refl, ap, arith, length-append, length-take}
use Rattle.std.specs.Prelude.{slice_get, nat_le}
use Rattle.srt_types.specs.Runs.{Run, numbers_from}
use Rattle.srt_sendbuf.specs.Sending.{Queued, front, next, lost}
use Rattle.srt_sub.specs.Heard.{Heard, Ack, Nak, Data, Other}
use Rattle.srt_sub.specs.Subscribing.{Terms, Report, Acked, KeepAlive, Note, Subscribing, last_sent, flow_window, unreported, drops_of, media}
use Rattle.srt_sub.specs.Subscribing.{media_of, again_of, new_of, keep_alives, due_of, most, prepared, resends, reports, answers, ack_reports}
use Rattle.srt_sub.specs.EventPackets.{SendsAtMost66}
use Rattle.srt_sub.proofs.Credits.{resends_few}

one_media : (b : Bool) (n : ℕ) (o : Option Queued) → length (media_of b n o) ≤ 1
one_media b n None = omega arith
one_media b n (Some q) = omega arith

few_media : (b : Bool) (ns : List ℕ) (queue : List Queued) → length (media b ns queue) ≤ length ns
few_media b [] queue = omega arith
few_media b (n ∷ ns) queue =
    let one = one_media b n (slice_get queue n) in
    let more = few_media b ns queue in
    let both = length-append (media_of b n (slice_get queue n)) (media b ns queue) in
    omega (arith, one, more, both)

counted : (from count : ℕ) → length (numbers_from from count) ≡ count
counted from zero = refl
counted from (suc count) = ap suc (counted (from + 1) count)

one_drop : (o : Option Run) → length (drops_of o) ≤ 1
one_drop None = omega arith
one_drop (Some run) = omega arith

few_due : (places again : ℕ) (terms : Terms) (s : Subscribing) → again ≤ places → length (due_of places again terms s) ≤ 1 + places
few_due places again terms s le =
    let queue = s.sending.queue in
    let d = drops_of (unreported s.notes) in
    let old = again_of again s.sending in
    let fresh = new_of places again (flow_window terms.window s.notes) s.sending in
    let a = one_drop (unreported s.notes) in
    let b = few_media true old queue in
    let c = few_media false fresh queue in
    let taken : length old ≡ min again (length (lost s.sending)) = length-take again (lost s.sending) in
    let new = counted (next s.sending)
    (min (places - length old)
    (min (flow_window terms.window s.notes - (next s.sending - front s.sending)) (length queue - next s.sending))) in
    let first = length-append d (media true old queue) in
    let all = length-append (d ++ media true old queue) (media false fresh queue) in
    omega (arith, a, b, c, taken, new, first, all, le)

one_alive : (time : ℕ) (notes : List Note) → length (keep_alives time [] notes) ≤ 1
one_alive time notes = by (nat_le 1_000_000 (time - last_sent notes))
  where
    by : (b : Bool) → length (if b then KeepAlive ∷ [] else []) ≤ 1
    by true = omega arith
    by false = omega arith

few : (places time : ℕ) (due : List Report) (notes : List Note) → length due ≤ 1 + places → length (due ++ keep_alives time due notes) ≤ 1 + places
few places time [] notes le = let one = one_alive time notes in omega (arith, one)
few places time (r ∷ due) notes le = let all = length-append (r ∷ due) [] in omega (arith, le, all)

few_reports : (terms : Terms) (time : ℕ) (recent : Bool) (s : Subscribing) → length (reports terms time recent s) ≤ 65
few_reports terms time recent s =
    let t = prepared terms time recent s in
    let again = resends terms.resend_percent most t.notes in
    few most time (due_of most again terms t) t.notes (few_due most again terms t (resends_few terms.resend_percent most t.notes))

one_acked : (mark : ℕ) → length (ack_reports mark) ≤ 1
one_acked mark = by (mark == 0)
  where
    by : (b : Bool) → length (if b then [] else Acked mark ∷ []) ≤ 1
    by true = omega arith
    by false = omega arith

few_answers : (h : Heard) → length (answers h) ≤ 1
few_answers (Ack mark number more) = one_acked mark
few_answers (Nak requested) = omega arith
few_answers Data = omega arith
few_answers Other = omega arith

pub sends_at_most_66 : SendsAtMost66
sends_at_most_66 = record { reports = few_reports; answers = few_answers }
