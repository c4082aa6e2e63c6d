use Rattle.srt_pub.proofs.session.Publisher.ack.Goals as goal
use Rattle.std.proofs.Common.{◌≡◌, ℕ, ◌+◌, Bool, List, [], ◌∷◌, map, ap, sym, subst, ◌∙◌}
use Rattle.srt_recvbuf.specs.Receiving.{ack_point, available}
use Rattle.srt_types.specs.Given.{given}
use Rattle.srt_pub.specs.Publishing.{Terms, Publishing, acks, acks_at, noted}
use Rattle.srt_pub.specs.Says.{says, body_bytes}
use Rattle.srt_pub.specs.Calls.{listed}
use Rattle.srt_pub.specs.Kept.{LogStandsFor}
use Rattle.srt_pub.specs.Counting.{Counted, delivered_in, full_window_acks_in, one_if, with_full_window}
use Rattle.srt_pub.proofs.Counting.{counts_acks}
use Rattle.srt_pub.specs.declared.counts.Counts.{Counts}
use Rattle.srt_pub.specs.Stands.{StandsFor}
use Rattle.srt_pub.specs.declared.log.Log.{Log}
use Rattle.srt_pub.specs.declared.session.Publisher.{Publisher}

-- a session in which only the log and the counters have changed, by the ACK that is due
acked : (terms : Terms) (initial opening stamp caller time room : ℕ) (p : Publisher) (m : Publishing) (log : Log) (counts : Counts)
    (is_full : Bool)
    → StandsFor terms initial opening stamp caller p m → room ≡ available terms.width m.receiving → counts ≡ with_full_window is_full p.counts
    → full_window_acks_in (noted time (acks_at terms (ack_point terms.width m.receiving) room time m.notes) m.notes)
    ≡ full_window_acks_in m.notes + one_if is_full
    → LogStandsFor terms m.receiving.front (ack_point terms.width m.receiving) log
    (noted time (acks_at terms (ack_point terms.width m.receiving) room time m.notes) m.notes) m.seen
    → StandsFor terms initial opening stamp caller (record p { log = log; counts = counts })
    (record m { notes = noted time (acks terms time m) m.notes })
acked terms initial opening stamp caller time room p m log counts is_full h is counted full l =
    let a = ack_point terms.width m.receiving in
    let now = counts_acks terms a room time p.counts m.receiving.arrivals (delivered_in m.receiving) m.receiving.front m.notes is_full full h.counts in
    record {
      agreed = h.agreed;
      buffer = h.buffer;
      log = subst (λ (x : ℕ). LogStandsFor terms m.receiving.front a log (noted time (acks_at terms a x time m.notes) m.notes) m.seen) is l;
      orderly = h.orderly;
      seen = h.seen;
      narrow = h.narrow;
      counts = subst
          (λ (x : ℕ). Counted counts m.receiving.arrivals (delivered_in m.receiving) m.receiving.front
          (noted time (acks_at terms a x time m.notes) m.notes))
          is
          (subst
          (λ (k : Counts). Counted k m.receiving.arrivals (delivered_in m.receiving) m.receiving.front
          (noted time (acks_at terms a room time m.notes) m.notes))
          (sym counted) now);
    }

pub returns-then-ack-clause-stands : goal.returns-then-ack-clause-stands
returns-then-ack-clause-stands c terms initial opening stamp caller m h =
    let room = c.available-available.ensures terms.width initial opening m.receiving h.buffer in
    acked terms initial opening stamp caller c.args.time _ c.args.self.now m _ _ c.is_window_full-is_full.result h room c.fill.ensures
    (c.is_window_full-is_full.ensures terms m.receiving.front _ m.seen m.notes room h.log)
    (c.ack.ensures.stands terms m.receiving.front _ m.seen m.notes room h.log)

pub returns-clause-stands : goal.returns-clause-stands
returns-clause-stands c terms initial opening stamp caller m h =
    let room = c.available-available.ensures terms.width initial opening m.receiving h.buffer in
    acked terms initial opening stamp caller c.args.time _ c.args.self.now m _ _ c.is_window_full-is_full.result h room c.fill.ensures
    (c.is_window_full-is_full.ensures terms m.receiving.front _ m.seen m.notes room h.log)
    (c.ack.ensures.stands terms m.receiving.front _ m.seen m.notes room h.log)

pub returns-then-ack-clause-bytes : goal.returns-then-ack-clause-bytes
returns-then-ack-clause-bytes c terms initial opening stamp caller m h =
    let a = ack_point terms.width m.receiving in
    let room = c.available-available.ensures terms.width initial opening m.receiving h.buffer in
    let bytes = c.ack.ensures.bytes terms m.receiving.front a m.seen initial caller m.notes room
    (c.ack_point-point.ensures terms.width initial opening m.receiving h.buffer) h.log in
    ap (λ (x : List ℕ). x ∷ []) (c.encode.ensures.bytes caller h.agreed.caller_is)
    ∙ sym (ap (λ (b : Bool). map (body_bytes caller c.args.time) (listed (given b c.ack.new.body))) c.if-ack.true)
    ∙ bytes ∙ ap (λ (x : ℕ). map (says caller initial c.args.time) (acks_at terms a x c.args.time m.notes)) room

pub returns-clause-bytes : goal.returns-clause-bytes
returns-clause-bytes c terms initial opening stamp caller m h =
    let a = ack_point terms.width m.receiving in
    let room = c.available-available.ensures terms.width initial opening m.receiving h.buffer in
    let bytes = c.ack.ensures.bytes terms m.receiving.front a m.seen initial caller m.notes room
    (c.ack_point-point.ensures terms.width initial opening m.receiving h.buffer) h.log in
    sym (ap (λ (b : Bool). map (body_bytes caller c.args.time) (listed (given b c.ack.new.body))) c.if-ack.false)
    ∙ bytes ∙ ap (λ (x : ℕ). map (says caller initial c.args.time) (acks_at terms a x c.args.time m.notes)) room
