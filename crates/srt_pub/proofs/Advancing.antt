-- A session whose buffer has removed the next packet.
use Rattle.std.proofs.Common.{◌≡◌, ℕ, Option, Some, None, List, refl, sym, subst}
use Rattle.srt_recvbuf.specs.Receiving.{Arrival, next_due, after_next}
use Rattle.srt_recvbuf.specs.Stands as buffers
use Rattle.srt_recvbuf.specs.declared.buffer.RecvBuf.{RecvBuf}
use Rattle.srt_pub.specs.Publishing.{Terms, Publishing}
use Rattle.srt_pub.specs.Calls.{after_delivery}
use Rattle.srt_pub.specs.Stands.{StandsFor, IsAhead}
use Rattle.srt_pub.specs.declared.session.Publisher.{Publisher}
use Rattle.srt_pub.specs.Counting.{Counted, delivered_in}
use Rattle.srt_pub.proofs.Counting.{none_arrive}
use Rattle.srt_pub.proofs.Goings.{after_one, end_within}
use Rattle.srt_pub.proofs.Windows.{beyond}

same_delivery : (terms : Terms) (m : Publishing) (o : Option Arrival) → record m { receiving = after_next terms.width o m.receiving } ≡ after_delivery terms o m
same_delivery terms m None = refl
same_delivery terms m (Some a) = refl

-- the buffer is ahead of the other fields
pub ahead : (terms : Terms) (initial opening stamp caller time room : ℕ) (p : Publisher) (b : RecvBuf) (m : Publishing)
    → StandsFor terms initial opening stamp caller p m
    → buffers.StandsFor terms.width initial opening b (after_next terms.width (next_due time room m.receiving) m.receiving)
    → IsAhead terms initial opening stamp caller (record p { buffer = b }) m
    (after_next terms.width (next_due time room m.receiving) m.receiving)
ahead terms initial opening stamp caller time room p b m h after =
    let r = m.receiving in
    let width = terms.width in
    let k = after_one terms.mode width time room r (next_due time room r) refl h.narrow
    (end_within width r (beyond width initial opening p.buffer r h.buffer)) h.orderly in
    record {
      agreed = h.agreed;
      buffer = after;
      log = h.log;
      orderly = k.orderly;
      seen = h.seen;
      narrow = h.narrow;
      counts = subst (λ (xs : List Arrival). Counted p.counts xs (delivered_in r) r.front m.notes)
          (sym (none_arrive width (next_due time room r) r)) h.counts;
      goes_on = k.goes_on;
    }

-- the other fields follow
pub followed : (terms : Terms) (initial opening stamp caller : ℕ) (p : Publisher) (m : Publishing) (o : Option Arrival)
    → StandsFor terms initial opening stamp caller p (record m { receiving = after_next terms.width o m.receiving })
    → StandsFor terms initial opening stamp caller p (after_delivery terms o m)
followed terms initial opening stamp caller p m o h = subst (λ (x : Publishing). StandsFor terms initial opening stamp caller p x) (same_delivery terms m o) h
